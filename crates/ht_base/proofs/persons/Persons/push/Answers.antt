use Rattle.std.proofs.Common.{arith}
use Rattle.ht_base.proofs.Ascending.{ascends_push}
use Rattle.ht_base.proofs.persons.Persons.push.Goals as goal

pub invariant_of-self-2 : goal.invariant_of-self-2
invariant_of-self-2 c = rw c.in_ok-push.ensures.items (ascends_push 0 _ _ c.self.invariant (rw c.self.view_is c.requires) (omega arith))

pub returns-clause-ascends : goal.returns-clause-ascends
returns-clause-ascends c = rw c.in_ok-push.ensures.items (ascends_push 0 _ _ c.self.invariant (rw c.self.view_is c.requires) (omega arith))
