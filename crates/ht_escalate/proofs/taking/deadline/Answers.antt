use Rattle.ht_tree.proofs.PublicLaws.{lent_file, standing}
use Rattle.ht_tree.specs.Rows.{model_in}
use Rattle.std.proofs.Common.{◌≡◌, ◌<◌, List, Some, length, option_map, ap, refl, sym, subst, ◌∙◌}
use Rattle.std.specs.Prelude.{slice_get}
use Rattle.std.proofs.lemmas.List.{length-map}
use Rattle.std.proofs.lemmas.Option.{slice_get-map, slice_get_read}
use Rattle.std.proofs.lemmas.Result.{on_ok_weaker}
use Rattle.ht_escalate.proofs.Escalating.{escalated, given_standing, IsLent, IsTaking, next_row, open_within, row_fits, row_is, taking}
use Rattle.ht_escalate.proofs.taking.deadline.Goals as goal
use Rattle.ht_models.specs.declared.model.Deadline.{Deadline}
use Rattle.ht_models.specs.Model.{DeadlineOf, ModelOf}
use Rattle.ht_models.specs.Reassigning.{ReassignOwned}
use Rattle.ht_models.specs.Shown as shown
use Rattle.ht_tree.specs.Plans.{planned}

pub put-requires-clause-next : goal.put-requires-clause-next
put-requires-clause-next c =
    let t = c.args.tables.now.tables in
    let u = planned t c.args.plan.now in
    let row = c.in-Some.row.now in
    let m : ModelOf = shown.model_of c.model-model.result.now in
    let d : DeadlineOf = shown.deadline_of c.index-deadline.result.now in
    let ds : List Deadline = c.model-model.result.now.deadlines.items in
    let of = ap (λ (ms : List ModelOf). model_in ms row) (sym c.models.ensures.value) ∙ c.model-model.ensures.value in
    let within : c.args.place < length ds =
    subst (λ n. c.args.place < n) (length-map ds shown.deadline_of) (open_within u c.args.task.0 c.args.place row m c.requires.open (sym c.in-Some.ensures.value) of) in
    let listed : slice_get m.deadlines c.args.place ≡ Some d =
    slice_get-map shown.deadline_of ds c.args.place ∙ ap (option_map shown.deadline_of) (slice_get_read ds (length ds) c.args.place c.index-deadline.result.now refl within c.index-deadline.ensures) in
    let is : IsTaking u c.args.task.0 c.args.place row m d =
    taking u c.args.task.0 c.args.place row m d c.requires.plan.sound c.requires.open (sym c.in-Some.ensures.value) of listed (subst ReassignOwned c.models.ensures.value c.model-model.ensures.owned) in
    let lent : IsLent t c.args.plan.now c.take.new.self c.args.task.0 c.args.place row m d = record { is = is; lends = c.in_ok-row.ensures.lends } in
    let put = row_is is c.in_ok-row.row c.in_ok-follows.follows.owners c.in_ok-taken_row.field-0 c.in_ok-row.ensures.row c.in_ok-follows.ensures.owners c.in_ok-taken_row.ensures in
    next_row lent c.in_ok-taken_row.field-0 put

pub put-requires-clause-file : goal.put-requires-clause-file
put-requires-clause-file c =
    lent_file c.args.tables.now.tables c.args.plan.now c.take.new.self c.args.task.0 c.in_ok-row.row c.in_ok-taken_row.field-0 c.requires.plan.sound c.in_ok-row.ensures.lends c.in_ok-row.ensures.row
    (ap standing c.in_ok-taken_row.ensures ∙ given_standing c.in_ok-row.row c.in_ok-follows.follows.owners)

pub put-requires-clause-fits : goal.put-requires-clause-fits
put-requires-clause-fits c =
    let t = c.args.tables.now.tables in
    let u = planned t c.args.plan.now in
    let row = c.in-Some.row.now in
    let m : ModelOf = shown.model_of c.model-model.result.now in
    let d : DeadlineOf = shown.deadline_of c.index-deadline.result.now in
    let ds : List Deadline = c.model-model.result.now.deadlines.items in
    let of = ap (λ (ms : List ModelOf). model_in ms row) (sym c.models.ensures.value) ∙ c.model-model.ensures.value in
    let within : c.args.place < length ds =
    subst (λ n. c.args.place < n) (length-map ds shown.deadline_of) (open_within u c.args.task.0 c.args.place row m c.requires.open (sym c.in-Some.ensures.value) of) in
    let listed : slice_get m.deadlines c.args.place ≡ Some d =
    slice_get-map shown.deadline_of ds c.args.place ∙ ap (option_map shown.deadline_of) (slice_get_read ds (length ds) c.args.place c.index-deadline.result.now refl within c.index-deadline.ensures) in
    let is : IsTaking u c.args.task.0 c.args.place row m d =
    taking u c.args.task.0 c.args.place row m d c.requires.plan.sound c.requires.open (sym c.in-Some.ensures.value) of listed (subst ReassignOwned c.models.ensures.value c.model-model.ensures.owned) in
    let lent : IsLent t c.args.plan.now c.take.new.self c.args.task.0 c.args.place row m d = record { is = is; lends = c.in_ok-row.ensures.lends } in
    let put = row_is is c.in_ok-row.row c.in_ok-follows.follows.owners c.in_ok-taken_row.field-0 c.in_ok-row.ensures.row c.in_ok-follows.ensures.owners c.in_ok-taken_row.ensures in
    row_fits lent c.in_ok-taken_row.field-0 put

pub returns-clause-escalates : goal.returns-clause-escalates
returns-clause-escalates c =
    let t = c.args.tables.now.tables in
    let u = planned t c.args.plan.now in
    let row = c.in-Some.row.now in
    let m : ModelOf = shown.model_of c.model-model.result.now in
    let d : DeadlineOf = shown.deadline_of c.index-deadline.result.now in
    let ds : List Deadline = c.model-model.result.now.deadlines.items in
    let of = ap (λ (ms : List ModelOf). model_in ms row) (sym c.models.ensures.value) ∙ c.model-model.ensures.value in
    let within : c.args.place < length ds =
    subst (λ n. c.args.place < n) (length-map ds shown.deadline_of) (open_within u c.args.task.0 c.args.place row m c.requires.open (sym c.in-Some.ensures.value) of) in
    let listed : slice_get m.deadlines c.args.place ≡ Some d =
    slice_get-map shown.deadline_of ds c.args.place ∙ ap (option_map shown.deadline_of) (slice_get_read ds (length ds) c.args.place c.index-deadline.result.now refl within c.index-deadline.ensures) in
    let is : IsTaking u c.args.task.0 c.args.place row m d =
    taking u c.args.task.0 c.args.place row m d c.requires.plan.sound c.requires.open (sym c.in-Some.ensures.value) of listed (subst ReassignOwned c.models.ensures.value c.model-model.ensures.owned) in
    let lent : IsLent t c.args.plan.now c.take.new.self c.args.task.0 c.args.place row m d = record { is = is; lends = c.in_ok-row.ensures.lends } in
    let put = row_is is c.in_ok-row.row c.in_ok-follows.follows.owners c.in_ok-taken_row.field-0 c.in_ok-row.ensures.row c.in_ok-follows.ensures.owners c.in_ok-taken_row.ensures in
    on_ok_weaker c.notify_all.result (λ tells. escalated lent c.in_ok-taken_row.field-0 c.put.new.self c.notify_all.new.plan c.args.at c.in_ok-follows.follows.notices.items put c.in_ok-put.ensures.goes tells c.in_ok-follows.ensures.notices c.requires.at) c.notify_all.ensures.told
