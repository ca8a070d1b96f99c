use Rattle.std.proofs.Common.{Some, None, if◌then◌else◌, Bool, subst, ◌∙◌}
use Rattle.ht_compose.specs.ByHand.{IsEntryOf}
use Rattle.ht_compose.proofs.Acted.{model_there}
use Rattle.ht_compose.proofs.EntriesByHand.{asked_of}
use Rattle.ht_compose.proofs.by_hand.entry_to_make.Goals as goal
use Rattle.ht_models.specs.Model.{ModelOf}
use Rattle.ht_models.specs.Shown as shown
use Rattle.ht_tree.specs.Plans.{planned}

pub place_of-requires : goal.place_of-requires
place_of-requires c = (c.model-model.ensures.trees c.in-Some.row.now.model (shown.model_of c.model-model.result.now) c.model-model.ensures.value).few

pub returns-then-may_be_made : goal.returns-then-may_be_made
returns-then-may_be_made c =
    let u = planned c.args.tables.now.tables c.args.plan.now in
    let row = c.in-Some.row.now in
    let m : ModelOf = shown.model_of c.model-model.result.now in
    let F : Bool → Type 0 = λ b. IsEntryOf u c.args.task.0 c.args.name (if b then Some c.in-Some-place_of.entry else None) in
    subst F c.if-may_be_made.true (asked_of u c.args.task.0 row m c.args.name c.deref.result.now c.in-Some-place_of.entry c.may_be_made.result c.requires.plan.sound c.in-Some.ensures.value (model_there u row c.models.result.now m c.models.ensures.value c.model-model.ensures.value) (c.deref.ensures.value ∙ c.in_ok-subs.ensures) c.in-Some-place_of.ensures c.may_be_made.ensures)

pub returns : goal.returns
returns c =
    let u = planned c.args.tables.now.tables c.args.plan.now in
    let row = c.in-Some.row.now in
    let m : ModelOf = shown.model_of c.model-model.result.now in
    let F : Bool → Type 0 = λ b. IsEntryOf u c.args.task.0 c.args.name (if b then Some c.in-Some-place_of.entry else None) in
    subst F c.if-may_be_made.false (asked_of u c.args.task.0 row m c.args.name c.deref.result.now c.in-Some-place_of.entry c.may_be_made.result c.requires.plan.sound c.in-Some.ensures.value (model_there u row c.models.result.now m c.models.ensures.value c.model-model.ensures.value) (c.deref.ensures.value ∙ c.in_ok-subs.ensures) c.in-Some-place_of.ensures c.may_be_made.ensures)
