use Rattle.std.proofs.Common.{subst, sym, ◌∙◌, ap}
use Rattle.ht_index.specs.Indexes.{Ascends}
use Rattle.ht_index.specs.Sets.{tasks_in}
use Rattle.ht_index.proofs.Gathered.{tasks_ascend}
use Rattle.ht_index.proofs.tasks.Tasks.rest.Goals as goal

pub returns-clause-ascends : goal.returns-clause-ascends
returns-clause-ascends c = subst Ascends (sym (c.over.ensures ∙ ap tasks_in c.deref.ensures.value)) (tasks_ascend c.self.inside.words.items)
