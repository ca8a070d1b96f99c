use Rattle.std.proofs.Common.{subst}
use Rattle.ht_index.specs.Indexes.{Ascends}
use Rattle.ht_index.specs.Sets.{TasksOf}
use Rattle.ht_index.proofs.Gathered.{tasks_ascend}
use Rattle.ht_index.proofs.tasks.Tasks.ascend.Goals as goal

pub returns : goal.returns
returns c = subst (λ (s : TasksOf). Ascends s.tasks) c.self.view_is (tasks_ascend c.self.inside.words.items)
