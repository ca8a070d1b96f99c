use Rattle.std.proofs.Common.{◌≡◌}
use Rattle.std.specs.Prelude.{All}
use Rattle.ht_base.specs.Kinds.{kind_of_value}
use Rattle.ht_base.specs.declared.kind.Kind.TheVariants as kind
use Rattle.ht_aggregate_tests.proofs.aggregates.truth_list.Given as goal

abbrev pub invariant-loop-truth : goal.invariant-loop-truth
invariant-loop-truth l = All (λ v. kind_of_value v ≡ kind.Truth) l.values
