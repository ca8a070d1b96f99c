use Rattle.ht_models.proofs.TreeCounts.{IsRound}
use Rattle.ht_models.proofs.tree_sizes.TreeSizes.of.Given as goal

abbrev pub invariant-loop : goal.invariant-loop
invariant-loop l = IsRound l.graph l.counter l.level.items l.sizes.items
