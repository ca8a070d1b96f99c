use Rattle.std.proofs.Common.{◌≡◌, ◌∷◌, [], Some}
use Rattle.std.specs.Prelude.{map, reverse, take}
use Rattle.ht_expr.specs.Expected.{run}
use Rattle.ht_expr.specs.Reading.{bare}
use Rattle.ht_expr.specs.Scanning.{placed}
use Rattle.ht_expr.specs.declared.expected.Symbol.TheVariants as symbol
use Rattle.ht_expr.proofs.expected.check.Given as goal

abbrev pub invariant-loop-i : goal.invariant-loop-i
invariant-loop-i l = run (symbol.Tree l.level ∷ []) (bare (map placed (take l.i l.tokens))) ≡ Some (reverse l.expected.items)
