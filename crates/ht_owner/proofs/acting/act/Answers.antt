use Rattle.ht_tree.specs.Rows.{model_in}
use Rattle.std.proofs.Common.{◌≡◌, List, Some, ap, sym, ◌∙◌}
use Rattle.ht_models.specs.Model.{ModelOf}
use Rattle.ht_models.specs.Shown as shown
use Rattle.ht_owner.specs.Effects.{effect}
use Rattle.ht_owner.proofs.Acted.{may_of, made}
use Rattle.ht_owner.proofs.acting.act.Goals as goal
use Rattle.ht_tree.specs.declared.row.Row.{Row}
use Rattle.ht_tree.specs.Plans.{planned}
use Rattle.ht_tree.specs.Tables.{model_of}

pub put-requires-clause-next : goal.put-requires-clause-next
put-requires-clause-next c =
    let u = planned c.args.tables.now.tables c.args.plan.now in
    let m : ModelOf = shown.model_of c.model-model.result.now in
    let row = c.in-Some.row.now in
    let is = ap (λ (r : Row). effect u m c.args.caller c.args.at c.args.command.now r) (sym c.in_ok-changed.ensures) ∙ c.in-Ok.ensures in
    let there = sym c.in-Some.ensures.value in
    let of_model : model_of u row ≡ Some m = ap (λ (ms : List ModelOf). model_in ms row) (sym c.models.ensures.value) ∙ c.model-model.ensures.value in
    let left = made u m c.args.caller c.args.id.0 c.args.at c.args.command.now row c.effect-done.new.row c.in-Ok.follow c.requires.plan.sound there of_model c.requires.caller c.requires.at c.requires.command (may_of u c.args.id.0 c.args.caller c.args.command.now row there c.requires.allowed) is in
    left.again.next

pub put-requires-clause-file : goal.put-requires-clause-file
put-requires-clause-file c =
    let u = planned c.args.tables.now.tables c.args.plan.now in
    let m : ModelOf = shown.model_of c.model-model.result.now in
    let row = c.in-Some.row.now in
    let is = ap (λ (r : Row). effect u m c.args.caller c.args.at c.args.command.now r) (sym c.in_ok-changed.ensures) ∙ c.in-Ok.ensures in
    let there = sym c.in-Some.ensures.value in
    let of_model : model_of u row ≡ Some m = ap (λ (ms : List ModelOf). model_in ms row) (sym c.models.ensures.value) ∙ c.model-model.ensures.value in
    let left = made u m c.args.caller c.args.id.0 c.args.at c.args.command.now row c.effect-done.new.row c.in-Ok.follow c.requires.plan.sound there of_model c.requires.caller c.requires.at c.requires.command (may_of u c.args.id.0 c.args.caller c.args.command.now row there c.requires.allowed) is in
    left.again.file

pub put-requires-clause-fits : goal.put-requires-clause-fits
put-requires-clause-fits c =
    let u = planned c.args.tables.now.tables c.args.plan.now in
    let m : ModelOf = shown.model_of c.model-model.result.now in
    let row = c.in-Some.row.now in
    let is = ap (λ (r : Row). effect u m c.args.caller c.args.at c.args.command.now r) (sym c.in_ok-changed.ensures) ∙ c.in-Ok.ensures in
    let there = sym c.in-Some.ensures.value in
    let of_model : model_of u row ≡ Some m = ap (λ (ms : List ModelOf). model_in ms row) (sym c.models.ensures.value) ∙ c.model-model.ensures.value in
    let left = made u m c.args.caller c.args.id.0 c.args.at c.args.command.now row c.effect-done.new.row c.in-Ok.follow c.requires.plan.sound there of_model c.requires.caller c.requires.at c.requires.command (may_of u c.args.id.0 c.args.caller c.args.command.now row there c.requires.allowed) is in
    left.fits

pub returns-in_ok-put-in-Ok : goal.returns-in_ok-put-in-Ok
returns-in_ok-put-in-Ok c =
    let u = planned c.args.tables.now.tables c.args.plan.now in
    let m : ModelOf = shown.model_of c.model-model.result.now in
    let row = c.in-Some.row.now in
    let is = ap (λ (r : Row). effect u m c.args.caller c.args.at c.args.command.now r) (sym c.in_ok-changed.ensures) ∙ c.in-Ok.ensures in
    let there = sym c.in-Some.ensures.value in
    let of_model : model_of u row ≡ Some m = ap (λ (ms : List ModelOf). model_in ms row) (sym c.models.ensures.value) ∙ c.model-model.ensures.value in
    let left = made u m c.args.caller c.args.id.0 c.args.at c.args.command.now row c.effect-done.new.row c.in-Ok.follow c.requires.plan.sound there of_model c.requires.caller c.requires.at c.requires.command (may_of u c.args.id.0 c.args.caller c.args.command.now row there c.requires.allowed) is in
    record { before = row; model = m; after = c.effect-done.new.row; there = there; of_model = of_model; effect_is = is; ends = left.ends; goes = c.in_ok-put-in-Ok.ensures.goes; sound = left.again.keeps; found = left.again.found }
