use Rattle.ht_machine.proofs.SomeOutcome.{some_outcome, some_outcomes}
use Rattle.ht_machine.proofs.laws.an_event_has_an_outcome.Goals as goal

pub returns-clause-one : goal.returns-clause-one
returns-clause-one c = some_outcome

pub returns-clause-more : goal.returns-clause-more
returns-clause-more c = some_outcomes
