use Rattle.ht_shared.specs.Passes.{IsOf, IsSamePass}
use Rattle.ht_shared_tests.proofs.threads.add_often.Given as goal

abbrev pub invariant-loop : goal.invariant-loop
invariant-loop g l = record { of : IsOf l.shared l.pass; same : IsSamePass l.fn.pass l.pass }
