use Rattle.std.proofs.Common.{ap, ◌∙◌}
use Rattle.ht_index.specs.Sets.{TasksOf}
use Rattle.ht_index.proofs.Gathered.{same_tasks}
use Rattle.ht_index.proofs.tasks.Tasks.grow.Goals as goal

pub returns-clause-tasks : goal.returns-clause-tasks
returns-clause-tasks c =
    same_tasks c.self.inside.words.items c.grow-2.new.words.items c.grow-2.ensures.words
    ∙ ap (λ (s : TasksOf). s.tasks) c.self.view_is
