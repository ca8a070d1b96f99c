use Rattle.ht_models.specs.Contradictions.{is_automatic}
use Rattle.std.proofs.Common.{refl, rules, ◌≡◌, ◌∙◌, ℕ, false, ap, map, sym}
use Rattle.ht_compose.proofs.Acted.{IsTaken, model_there}
use Rattle.ht_compose.proofs.CheckedRows.{IsFound, found, gathered, output_fits}
use Rattle.ht_compose.proofs.gathering.gather.Goals as goal
use Rattle.ht_models.specs.Model.{ModelOf}
use Rattle.ht_models.specs.Shown as shown
use Rattle.ht_tree.specs.Families.{sub_tasks}
use Rattle.ht_tree.specs.Plans.{planned}
use Rattle.ht_tree.proofs.PublicLaws.{lent_file}

pub finish-requires-clause-subs : goal.finish-requires-clause-subs
finish-requires-clause-subs c =
    let u = planned c.args.tables.now.tables c.args.plan.now in
    let number = c.requires.plan.sound.numbered c.args.task.0 c.in-Some.row.now (sym c.in-Some.ensures.value) in
    c.deref.ensures.value ∙ c.in_ok-subs.ensures ∙ ap (λ (k : ℕ). map (λ s. s.task) (sub_tasks k u.rows)) (sym number)

pub put-requires-clause-fits : goal.put-requires-clause-fits
put-requires-clause-fits c =
    let t = c.args.tables.now.tables in
    let u = planned t c.args.plan.now in
    let row = c.in-Some.row.now in
    let m : ModelOf = shown.model_of c.model-model.result.now in
    let is : IsTaken t c.args.plan.now c.take.new.self c.args.task.0 c.in_ok-row.row = record { sound = c.requires.plan.sound; there = c.in_ok-row.ensures.row; lends = c.in_ok-row.ensures.lends } in
    let so : IsFound u c.args.task.0 row m c.in-Some-found.output =
    found u c.args.task.0 row m c.in_ok-found.found c.in-Some-found.output c.in-Some.ensures.value (model_there u row c.models.result.now m c.models.ensures.value c.model-model.ensures.value) c.in_ok-found.ensures (c.model-model.ensures.outputs row.model m c.model-model.ensures.value) c.in-Some-found.is in
    output_fits is so

pub returns-clause-gathers : goal.returns-clause-gathers
returns-clause-gathers c =
    let t = c.args.tables.now.tables in
    let u = planned t c.args.plan.now in
    let row = c.in-Some.row.now in
    let m : ModelOf = shown.model_of c.model-model.result.now in
    let is : IsTaken t c.args.plan.now c.take.new.self c.args.task.0 c.in_ok-row.row = record { sound = c.requires.plan.sound; there = c.in_ok-row.ensures.row; lends = c.in_ok-row.ensures.lends } in
    let so : IsFound u c.args.task.0 row m c.in-Some-found.output =
    found u c.args.task.0 row m c.in_ok-found.found c.in-Some-found.output c.in-Some.ensures.value (model_there u row c.models.result.now m c.models.ensures.value c.model-model.ensures.value) c.in_ok-found.ensures (c.model-model.ensures.outputs row.model m c.model-model.ensures.value) c.in-Some-found.is in
    let manual : is_automatic m.completion ≡ false = search rules in
    gathered is so c.put.new.self c.in_ok-put.ensures.goes manual

pub put-requires-clause-file : goal.put-requires-clause-file
put-requires-clause-file c = lent_file c.args.tables.now.tables c.args.plan.now c.take.new.self c.args.task.0 c.in_ok-row.row (record c.in_ok-row.row { output = c.in-Some-found.output }) c.requires.plan.sound c.in_ok-row.ensures.lends c.in_ok-row.ensures.row refl
