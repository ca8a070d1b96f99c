use Rattle.std.proofs.Common.{[], ◌∷◌, ◌++◌, ap, sym, subst, ◌∙◌}
use Rattle.ht_index.specs.Indexes.{Ascends, with_task}
use Rattle.ht_index.proofs.Places.{ascends_with, put_last}
use Rattle.ht_index.proofs.finding.put_in.Goals as goal

pub returns-then-is_behind_all-clause-tasks : goal.returns-then-is_behind_all-clause-tasks
returns-then-is_behind_all-clause-tasks c =
    let task = c.args.task in
    let behind = c.is_behind_all.ensures c.if-is_behind_all.true in
    c.push_reserved.ensures.items
    ∙ ap (λ l. l ++ task ∷ []) (sym c.deref.ensures.value)
    ∙ put_last task c.deref.result.now behind
    ∙ ap (with_task task) c.deref.ensures.value

pub returns-then-is_behind_all-clause-ascends : goal.returns-then-is_behind_all-clause-ascends
returns-then-is_behind_all-clause-ascends c =
    let task = c.args.task in
    let behind = c.is_behind_all.ensures c.if-is_behind_all.true in
    let put =
    c.push_reserved.ensures.items
    ∙ ap (λ l. l ++ task ∷ []) (sym c.deref.ensures.value)
    ∙ put_last task c.deref.result.now behind
    ∙ ap (with_task task) c.deref.ensures.value in
    subst Ascends (sym put) (ascends_with task c.args.tasks.now.items c.requires.ascends)
