use Rattle.std.proofs.Common.{ap, sym, ◌∙◌}
use Rattle.ht_index.specs.Indexes.{IndexOf, list_of}
use Rattle.ht_index.specs.Sets.{TasksOf}
use Rattle.ht_index.proofs.Slots.{seen_by}
use Rattle.ht_index.proofs.task_sets.TaskSets.prepare.Goals as goal

pub returns-in_err-reserve_all-clause-lists : goal.returns-in_err-reserve_all-clause-lists
returns-in_err-reserve_all-clause-lists c = λ k.
    let i = c.self.inside in
    seen_by (λ (s : TasksOf). s.tasks) k c.reserve_all.new.sets.items i.moves.items
    ∙ c.reserve_all.ensures.sets k
    ∙ sym (seen_by (λ (s : TasksOf). s.tasks) k i.sets.items i.moves.items)
    ∙ ap (λ (it : IndexOf). list_of k it) c.self.view_is
    ∙ c.forget.ensures.lists k

pub returns-clause-lists : goal.returns-clause-lists
returns-clause-lists c = λ k.
    let i = c.self.inside in
    seen_by (λ (s : TasksOf). s.tasks) k c.reserve_all.new.sets.items c.args.moves.items
    ∙ c.reserve_all.ensures.sets k
    ∙ sym (seen_by (λ (s : TasksOf). s.tasks) k i.sets.items i.moves.items)
    ∙ ap (λ (it : IndexOf). list_of k it) c.self.view_is
    ∙ c.forget.ensures.lists k
