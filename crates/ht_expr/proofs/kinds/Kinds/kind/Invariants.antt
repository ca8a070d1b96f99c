use Rattle.std.proofs.Common.{◌≡◌, drop}
use Rattle.ht_expr.specs.Kinds.{declared_kind}
use Rattle.ht_expr.proofs.kinds.Kinds.kind.Given as goal

abbrev pub invariant-loop-declared : goal.invariant-loop-declared
invariant-loop-declared l = declared_kind l.declared-items l.side l.name ≡ declared_kind (drop l.declared-index l.declared-items) l.side l.name
