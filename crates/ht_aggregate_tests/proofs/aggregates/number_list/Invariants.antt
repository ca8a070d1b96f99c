use Rattle.std.proofs.Common.{◌≡◌}
use Rattle.std.specs.Prelude.{All}
use Rattle.ht_base.specs.Kinds.{kind_of_value}
use Rattle.ht_base.specs.declared.kind.Kind.TheVariants as kind
use Rattle.ht_aggregate_tests.proofs.aggregates.number_list.Given as goal

abbrev pub invariant-loop-number : goal.invariant-loop-number
invariant-loop-number l = All (λ v. kind_of_value v ≡ kind.Int) l.values
