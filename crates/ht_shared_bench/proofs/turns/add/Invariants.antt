use Rattle.ht_shared.specs.Passes.{IsOf}
use Rattle.ht_shared_bench.proofs.turns.add.Given as goal

abbrev pub invariant-loop : goal.invariant-loop
invariant-loop g l = IsOf l.shared l.pass
