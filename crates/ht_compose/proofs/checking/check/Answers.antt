use Rattle.std.proofs.Common.{refl, rules, ◌≡◌, List, [], length, map, vec_len, Option, None, ap, sym, subst, ◌∙◌, ℕ}
use Rattle.std.proofs.lemmas.Bool.{eqb-true}
use Rattle.std.proofs.lemmas.List.{length-map, nil_from_length}
use Rattle.std.proofs.lemmas.Result.{IfOk-weaker}
use Rattle.ht_base.specs.declared.values.Values.{Values}
use Rattle.ht_compose.specs.declared.item.Item.{Item as Task}
use Rattle.ht_compose.specs.Finding.{Finds}
use Rattle.ht_compose.specs.Finishes.{chosen}
use Rattle.ht_compose.specs.Items.{has_sub_ended}
use Rattle.ht_compose.specs.Items.Item.{Check}
use Rattle.ht_compose.specs.Running.{item_of}
use Rattle.ht_compose.proofs.Acted.{IsTaken, acts_as_before, model_there}
use Rattle.ht_compose.proofs.CheckedRows.{IsFound, acts_finished, checks, found, may_not, no_task, none_chosen, not_ended, not_finished, output_fits, output_next, sound_between, still_task}
use Rattle.ht_compose.proofs.SubRows.{ended_among_them}
use Rattle.ht_compose.proofs.checking.check.Goals as goal
use Rattle.ht_models.specs.Model.{ModelOf}
use Rattle.ht_models.specs.Shown as shown
use Rattle.ht_tree.specs.Families.{sub_tasks}
use Rattle.ht_tree.specs.Plans.{planned}
use Rattle.ht_tree.specs.Rows.{row_at}
use Rattle.ht_tree.proofs.PublicLaws.{lent_file}

pub returns-in_default-clause-acts : goal.returns-in_default-clause-acts
returns-in_default-clause-acts c = λ at.
    let t = c.args.tables.now.tables in
    let u = planned t c.args.plan.now in
    acts_as_before t c.args.plan.now at (Check c.args.task.0) c.new.result.items [] c.requires.plan.fits c.requires.plan.sound
    (no_task u c.args.task.0 c.in_default.ensures.value)
    (ap (λ (l : List Task). map item_of l) c.new.ensures.items)

pub returns-then-is_empty-clause-acts : goal.returns-then-is_empty-clause-acts
returns-then-is_empty-clause-acts c = λ at.
    let t = c.args.tables.now.tables in
    let u = planned t c.args.plan.now in
    let row = c.in-Some.row.now in
    let m : ModelOf = shown.model_of c.model-model.result.now in
    let fs = c.model-model.result.now.finishes in
    let count : vec_len fs ≡ length fs.items = search rules in
    let all : length m.finishes ≡ length fs.items = length-map fs.items shown.finish_of in
    let empty : vec_len fs ≡ 0 = eqb-true (vec_len fs) 0 (sym c.is_empty.ensures ∙ c.if-is_empty.true) in
    acts_as_before t c.args.plan.now at (Check c.args.task.0) c.new-then-is_empty.result.items [] c.requires.plan.fits c.requires.plan.sound
    (not_finished u c.args.task.0 row m (sym c.in-Some.ensures.value) (model_there u row c.models.result.now m c.models.ensures.value c.model-model.ensures.value) (none_chosen u.rows m row (nil_from_length m.finishes (all ∙ sym count ∙ empty))))
    (ap (λ (l : List Task). map item_of l) c.new-then-is_empty.ensures.items)

pub returns-then-not-may_finish-clause-acts : goal.returns-then-not-may_finish-clause-acts
returns-then-not-may_finish-clause-acts c = λ at.
    let t = c.args.tables.now.tables in
    let u = planned t c.args.plan.now in
    let row = c.in-Some.row.now in
    let m : ModelOf = shown.model_of c.model-model.result.now in
    acts_as_before t c.args.plan.now at (Check c.args.task.0) c.new-then-not-may_finish.result.items [] c.requires.plan.fits c.requires.plan.sound
    (may_not u c.args.task.0 row m (sym c.in-Some.ensures.value) (model_there u row c.models.result.now m c.models.ensures.value c.model-model.ensures.value) (sym c.may_finish.ensures ∙ c.if-not-may_finish.true))
    (ap (λ (l : List Task). map item_of l) c.new-then-not-may_finish.ensures.items)

pub returns-then-not-has_final-clause-acts : goal.returns-then-not-has_final-clause-acts
returns-then-not-has_final-clause-acts c = λ at.
    let t = c.args.tables.now.tables in
    let u = planned t c.args.plan.now in
    let row = c.in-Some.row.now in
    let m : ModelOf = shown.model_of c.model-model.result.now in
    let number = c.requires.plan.sound.numbered c.args.task.0 row (sym c.in-Some.ensures.value) in
    let ended = c.has_final.ensures ∙ ended_among_them u c.requires.plan.sound c.args.task.0 c.deref.result.now (c.deref.ensures.value ∙ c.in_ok-subs.ensures) in
    acts_as_before t c.args.plan.now at (Check c.args.task.0) c.new-then-not-has_final.result.items [] c.requires.plan.fits c.requires.plan.sound
    (not_ended u c.args.task.0 row m (sym c.in-Some.ensures.value) (model_there u row c.models.result.now m c.models.ensures.value c.model-model.ensures.value) (ap (λ (k : ℕ). has_sub_ended u.rows k) number ∙ sym ended ∙ c.if-not-has_final.true))
    (ap (λ (l : List Task). map item_of l) c.new-then-not-has_final.ensures.items)

pub finish-requires-clause-row : goal.finish-requires-clause-row
finish-requires-clause-row c =
    let u = planned c.args.tables.now.tables c.args.plan.now in
    let row = c.in-Some.row.now in
    ap (λ (k : ℕ). row_at k u.rows) (c.requires.plan.sound.numbered c.args.task.0 row (sym c.in-Some.ensures.value)) ∙ sym c.in-Some.ensures.value

pub finish-requires-clause-model : goal.finish-requires-clause-model
finish-requires-clause-model c =
    let u = planned c.args.tables.now.tables c.args.plan.now in
    model_there u c.in-Some.row.now c.models.result.now (shown.model_of c.model-model.result.now) c.models.ensures.value c.model-model.ensures.value

pub finish-requires-clause-subs : goal.finish-requires-clause-subs
finish-requires-clause-subs c =
    let u = planned c.args.tables.now.tables c.args.plan.now in
    let number = c.requires.plan.sound.numbered c.args.task.0 c.in-Some.row.now (sym c.in-Some.ensures.value) in
    c.deref-2.ensures.value ∙ c.in_ok-subs.ensures ∙ ap (λ (k : ℕ). map (λ s. s.task) (sub_tasks k u.rows)) (sym number)

pub returns-in_default-found-clause-acts : goal.returns-in_default-found-clause-acts
returns-in_default-found-clause-acts c = λ at.
    let t = c.args.tables.now.tables in
    let u = planned t c.args.plan.now in
    let row = c.in-Some.row.now in
    let m : ModelOf = shown.model_of c.model-model.result.now in
    let F : Option Values → Type 0 = λ o. Finds u row m o in
    let none : chosen u.rows m row ≡ None = subst F c.in_default-found.is c.in_ok-found.ensures in
    acts_as_before t c.args.plan.now at (Check c.args.task.0) c.new-in_default-found.result.items [] c.requires.plan.fits c.requires.plan.sound
    (not_finished u c.args.task.0 row m (sym c.in-Some.ensures.value) (model_there u row c.models.result.now m c.models.ensures.value c.model-model.ensures.value) none)
    (ap (λ (l : List Task). map item_of l) c.new-in_default-found.ensures.items)

pub put-requires-clause-next : goal.put-requires-clause-next
put-requires-clause-next c =
    let t = c.args.tables.now.tables in
    let u = planned t c.args.plan.now in
    let row = c.in-Some.row.now in
    let m : ModelOf = shown.model_of c.model-model.result.now in
    let is : IsTaken t c.args.plan.now c.take.new.self c.args.task.0 c.in_ok-row.row = record { sound = c.requires.plan.sound; there = c.in_ok-row.ensures.row; lends = c.in_ok-row.ensures.lends } in
    let so : IsFound u c.args.task.0 row m c.in-Some-found.output =
    found u c.args.task.0 row m c.in_ok-found.found c.in-Some-found.output c.in-Some.ensures.value (model_there u row c.models.result.now m c.models.ensures.value c.model-model.ensures.value) c.in_ok-found.ensures (c.model-model.ensures.outputs row.model m c.model-model.ensures.value) c.in-Some-found.is in
    output_next is so

pub put-requires-clause-fits : goal.put-requires-clause-fits
put-requires-clause-fits c =
    let t = c.args.tables.now.tables in
    let u = planned t c.args.plan.now in
    let row = c.in-Some.row.now in
    let m : ModelOf = shown.model_of c.model-model.result.now in
    let is : IsTaken t c.args.plan.now c.take.new.self c.args.task.0 c.in_ok-row.row = record { sound = c.requires.plan.sound; there = c.in_ok-row.ensures.row; lends = c.in_ok-row.ensures.lends } in
    let so : IsFound u c.args.task.0 row m c.in-Some-found.output =
    found u c.args.task.0 row m c.in_ok-found.found c.in-Some-found.output c.in-Some.ensures.value (model_there u row c.models.result.now m c.models.ensures.value c.model-model.ensures.value) c.in_ok-found.ensures (c.model-model.ensures.outputs row.model m c.model-model.ensures.value) c.in-Some-found.is in
    output_fits is so

pub skip_below-requires-clause-plan : goal.skip_below-requires-clause-plan
skip_below-requires-clause-plan c =
    let t = c.args.tables.now.tables in
    let u = planned t c.args.plan.now in
    let row = c.in-Some.row.now in
    let m : ModelOf = shown.model_of c.model-model.result.now in
    let is : IsTaken t c.args.plan.now c.take.new.self c.args.task.0 c.in_ok-row.row = record { sound = c.requires.plan.sound; there = c.in_ok-row.ensures.row; lends = c.in_ok-row.ensures.lends } in
    let so : IsFound u c.args.task.0 row m c.in-Some-found.output =
    found u c.args.task.0 row m c.in_ok-found.found c.in-Some-found.output c.in-Some.ensures.value (model_there u row c.models.result.now m c.models.ensures.value c.model-model.ensures.value) c.in_ok-found.ensures (c.model-model.ensures.outputs row.model m c.model-model.ensures.value) c.in-Some-found.is in
    record { fits = c.in_ok-put.ensures.goes.fits; sound = sound_between is so c.put.new.self c.in_ok-put.ensures.goes }

pub skip_below-requires-clause-there : goal.skip_below-requires-clause-there
skip_below-requires-clause-there c =
    let t = c.args.tables.now.tables in
    let u = planned t c.args.plan.now in
    let row = c.in-Some.row.now in
    let m : ModelOf = shown.model_of c.model-model.result.now in
    let is : IsTaken t c.args.plan.now c.take.new.self c.args.task.0 c.in_ok-row.row = record { sound = c.requires.plan.sound; there = c.in_ok-row.ensures.row; lends = c.in_ok-row.ensures.lends } in
    let so : IsFound u c.args.task.0 row m c.in-Some-found.output =
    found u c.args.task.0 row m c.in_ok-found.found c.in-Some-found.output c.in-Some.ensures.value (model_there u row c.models.result.now m c.models.ensures.value c.model-model.ensures.value) c.in_ok-found.ensures (c.model-model.ensures.outputs row.model m c.model-model.ensures.value) c.in-Some-found.is in
    still_task is so c.put.new.self c.in_ok-put.ensures.goes

pub returns-clause-acts : goal.returns-clause-acts
returns-clause-acts c =
    let t = c.args.tables.now.tables in
    let u = planned t c.args.plan.now in
    let row = c.in-Some.row.now in
    let m : ModelOf = shown.model_of c.model-model.result.now in
    let is : IsTaken t c.args.plan.now c.take.new.self c.args.task.0 c.in_ok-row.row = record { sound = c.requires.plan.sound; there = c.in_ok-row.ensures.row; lends = c.in_ok-row.ensures.lends } in
    let so : IsFound u c.args.task.0 row m c.in-Some-found.output =
    found u c.args.task.0 row m c.in_ok-found.found c.in-Some-found.output c.in-Some.ensures.value (model_there u row c.models.result.now m c.models.ensures.value c.model-model.ensures.value) c.in_ok-found.ensures (c.model-model.ensures.outputs row.model m c.model-model.ensures.value) c.in-Some-found.is in
    let ended = c.has_final.ensures ∙ ended_among_them u c.requires.plan.sound c.args.task.0 c.deref.result.now (c.deref.ensures.value ∙ c.in_ok-subs.ensures) in
    let checked = checks u c.args.task.0 row m c.requires.plan.sound c.in-Some.ensures.value (sym c.may_finish.ensures ∙ c.if-not-may_finish.false) (sym ended ∙ c.if-not-has_final.false) in
    IfOk-weaker c.alone.result _ _ (λ l e at.
    acts_finished is so c.put.new.self c.in_ok-put.ensures.goes checked c.skip_below.new.plan at l.items c.in_ok-skip_below.ensures.goes c.in_ok-skip_below.ensures.sound
    (ap (λ (l : List Task). map item_of l) e)) c.alone.ensures

pub put-requires-clause-file : goal.put-requires-clause-file
put-requires-clause-file c = lent_file c.args.tables.now.tables c.args.plan.now c.take.new.self c.args.task.0 c.in_ok-row.row (record c.in_ok-row.row { output = c.in-Some-found.output }) c.requires.plan.sound c.in_ok-row.ensures.lends c.in_ok-row.ensures.row refl
