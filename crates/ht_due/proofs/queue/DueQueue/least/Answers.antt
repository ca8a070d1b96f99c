use Rattle.std.proofs.Common.{ap, sym, ◌∙◌}
use Rattle.std.specs.Prelude.{slice_get}
use Rattle.std.specs.Option.{option_and_then}
use Rattle.ht_due.specs.Queues.{QueueOf}
use Rattle.ht_due.proofs.Between.{first_is}
use Rattle.ht_due.proofs.queue.DueQueue.least.Goals as goal

pub returns-clause-first : goal.returns-clause-first
returns-clause-first c =
    c.first_of.ensures
    ∙ ap (λ bs. option_and_then (λ b. slice_get b 0) (slice_get bs 0)) c.deref.ensures.value
    ∙ sym (first_is c.self.inside.blocks.items c.self.invariant.blocks.few c.self.invariant.blocks.apart)
    ∙ ap (λ (q : QueueOf). slice_get q.dues 0) c.self.view_is
