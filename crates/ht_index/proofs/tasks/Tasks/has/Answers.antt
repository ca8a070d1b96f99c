use Rattle.std.proofs.Common.{ap, sym, ◌∙◌}
use Rattle.ht_index.specs.Indexes.{has}
use Rattle.ht_index.specs.Sets.{TasksOf, is_set}
use Rattle.ht_index.proofs.Gathered.{has_set}
use Rattle.ht_index.proofs.tasks.Tasks.has.Goals as goal

pub returns : goal.returns
returns c =
    let number = c.args.task.0 in
    c.is_set.ensures
    ∙ ap (is_set number) c.deref.ensures.value
    ∙ sym (has_set number c.self.inside.words.items)
    ∙ ap (λ (s : TasksOf). has number s.tasks) c.self.view_is
