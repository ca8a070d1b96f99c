use Rattle.std.proofs.Common.{fold, ap, sym, ◌∙◌}
use Rattle.ht_index.specs.Indexes.{IndexOf, list_of, moved}
use Rattle.ht_index.specs.SetMoves.{tasks_at}
use Rattle.ht_index.specs.Sets.{TasksOf}
use Rattle.ht_index.proofs.Slots.{seen_by}
use Rattle.ht_index.proofs.task_sets.TaskSets.make_moves.Goals as goal

pub returns-clause-lists : goal.returns-clause-lists
returns-clause-lists c = λ k.
    let sets = c.self.inside.sets.items in
    let moves = c.self.inside.moves.items in
    seen_by (λ (s : TasksOf). s.tasks) k c.make_all.new.sets.items c.clear.new.self.items
    ∙ c.make_all.ensures k
    ∙ ap (λ ms. fold (moved k) (tasks_at k sets) ms) c.deref.ensures.value
    ∙ ap (λ tasks. fold (moved k) tasks moves) (sym (seen_by (λ (s : TasksOf). s.tasks) k sets moves))
    ∙ ap (λ (i : IndexOf). fold (moved k) (list_of k i) i.moves) c.self.view_is
