use Rattle.ht_base.proofs.Naming.{ascend_push}
use Rattle.ht_base.proofs.parts.Parts.push.Goals as goal

pub invariant_of-self-2 : goal.invariant_of-self-2
invariant_of-self-2 c = rw c.in_ok-push.ensures.items (ascend_push c.args.name c.args.scalar _ c.self.invariant (rw c.self.view_is c.requires))
