use Rattle.ht_models.specs.Contradictions.{is_automatic}
use Rattle.std.proofs.Common.{◌≡◌, ℕ, ◌+◌, ◌<◌, Bool, true, false, ◌&&◌, nat_lt, List, [], length, map, Option, Some, None, refl, ap, sym, ◌∙◌, arith}
use Rattle.std.proofs.lemmas.Bool.Decides.{nat_tests}
use Rattle.ht_base.specs.declared.task_id.TaskId.{TaskId}
use Rattle.ht_compose.specs.declared.item.Item.{Item as Task}
use Rattle.ht_compose.specs.Items.{comes_next, follows_by, is_sequential, on_model, on_task, still}
use Rattle.ht_compose.specs.Items.Item.{Next}
use Rattle.ht_compose.specs.Running.{item_of}
use Rattle.ht_compose.proofs.Acted.{acts_as_before, on_this_row}
use Rattle.ht_compose.proofs.closing.next.Goals as goal
use Rattle.ht_models.specs.Model.{ModelOf}
use Rattle.ht_models.specs.Shown as shown
use Rattle.ht_tree.specs.declared.row.Row.{Row}
use Rattle.ht_tree.specs.Plans.{planned}
use Rattle.ht_tree.specs.Tables.{TablesOf, model_of, task_row}

-- nothing follows a top task
none_follows : (u : TablesOf) (o : Option Row) → still u ≡ on_task u (λ row m. follows_by u row m None) o
none_follows u None = refl
none_follows u (Some row) = of_model (model_of u row)
  where
    of_model : (o : Option ModelOf) → still u ≡ on_model u row (λ row m. follows_by u row m None) o
    of_model None = refl
    of_model (Some m) = refl

pub returns-in_default-parent-clause-acts : goal.returns-in_default-parent-clause-acts
returns-in_default-parent-clause-acts c = λ at.
    let t = c.args.tables.now.tables in
    let u = planned t c.args.plan.now in
    acts_as_before t c.args.plan.now at (Next c.args.above.0 c.args.sub.0) c.new-in_default-parent.result.items [] c.requires.plan.fits c.requires.plan.sound
    (none_follows u (task_row u c.args.above.0)
    ∙ ap (λ (o : Option (TaskId × ℕ)). on_task u (λ row m. follows_by u row m o) (task_row u c.args.above.0)) (sym c.in_default-parent.is)
    ∙ on_this_row u (λ child. on_task u (λ row m. follows_by u row m child.parent) (task_row u c.args.above.0)) c.args.sub.0 c.in-Some.child.now (sym c.in-Some.ensures.value))
    (ap (λ (l : List Task). map item_of l) c.new-in_default-parent.ensures.items)

next_within : (m : ModelOf) (e : ℕ) → comes_next m e ≡ true → e + 1 < length m.subs
next_within m e h = go (is_sequential m.composition) (is_automatic m.instantiation) (nat_lt (e + 1) (length m.subs)) refl h
  where
    go : (a b c : Bool) → nat_lt (e + 1) (length m.subs) ≡ c → (a && b && c) ≡ true → e + 1 < length m.subs
    go true true true is h = grind (arith, nat_tests)
    go true true false is h = cc
    go true false c is h = cc
    go false b c is h = cc

pub overflow_add-entry : goal.overflow_add-entry
overflow_add-entry c =
    let m : ModelOf = shown.model_of c.model-model.result.now in
    let few = (c.model-model.ensures.trees c.in-Some-row.row.now.model m c.model-model.ensures.value).few in
    let low = next_within m c.in-Some-parent.entry (sym c.comes_next.ensures ∙ c.if-not-comes_next.false) in
    omega (arith, few, low)
