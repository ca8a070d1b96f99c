use Rattle.std.proofs.Common.{rules, ◌≡◌, ℕ, List, length, None, Some, IsTrue, ap, sym, subst, ◌∙◌}
use Rattle.ht_base.specs.declared.values.Values.{Values}
use Rattle.ht_compose.specs.Finishes.{Sets, completed}
use Rattle.ht_compose.proofs.Choosing.{chosen_is, completed_is, held_by}
use Rattle.ht_compose.proofs.SeenRows.{row_seen}
use Rattle.ht_compose.proofs.finishing.finish.Goals as goal
use Rattle.ht_value.specs.declared.environment.Env.{Env}
use Rattle.ht_value.specs.Environment.{has_parts}
use Rattle.ht_entries.specs.Finishes.{Setting}
use Rattle.ht_models.specs.Kinded.{parts_of}
use Rattle.ht_models.specs.Model.{FinishOf, ModelOf}
use Rattle.ht_models.specs.Shown as shown
use Rattle.ht_tree.specs.declared.row.Row.{Row}
use Rattle.ht_tree.specs.Plans.{planned}
use Rattle.ht_tree.proofs.PublicLaws.{sound_row_fits}

pub env_with-requires-clause-row : goal.env_with-requires-clause-row
env_with-requires-clause-row c =
    let t = c.args.tables.now.tables in
    let row = c.args.row.now in
    sound_row_fits t.models (length t.people.persons) row (c.requires.plan.sound.rows_sound row.task.0 row c.requires.row)

pub chosen-requires-clause-parts : goal.chosen-requires-clause-parts
chosen-requires-clause-parts c =
    let u = planned c.args.tables.now.tables c.args.plan.now in
    let m : ModelOf = shown.model_of c.args.model.now in
    let row = c.args.row.now in
    let P : Env → Type 0 = λ e. IsTrue (has_parts (parts_of m.input m.output) e) in
    subst P (sym c.in_ok-env.ensures) (row_seen m (length u.people.persons) u.rows row (held_by u c.requires.plan.sound row m c.requires.row c.requires.model))

pub returns-in_default : goal.returns-in_default
returns-in_default c =
    let u = planned c.args.tables.now.tables c.args.plan.now in
    let m : ModelOf = shown.model_of c.args.model.now in
    sym (chosen_is u c.requires.plan.sound c.args.row.now m c.in_ok-env.env c.args.subs.now None c.in_ok-env.ensures c.requires.subs c.in_default.ensures)

pub returns : goal.returns
returns c =
    let u = planned c.args.tables.now.tables c.args.plan.now in
    let m : ModelOf = shown.model_of c.args.model.now in
    let row = c.args.row.now in
    let f : FinishOf = shown.finish_of c.in-Some.finish.now in
    let is = chosen_is u c.requires.plan.sound row m c.in_ok-env.env c.args.subs.now (Some f) c.in_ok-env.ensures c.requires.subs c.in-Some.ensures in
    let rows = completed_is u c.requires.plan.sound row c.len.result c.args.subs.now c.deref.result.now c.requires.subs (c.deref.ensures.value ∙ c.in_ok-completed.ensures) in
    let count : c.len.result ≡ length m.subs = search rules in
    let all = rows ∙ ap (λ (n : ℕ). completed row.task.0 n u.rows) count in
    let P : List Row → Type 0 = λ l. Sets l c.deref-2.result.now c.in_ok-output.output c.in_ok-output-2.output in
    let Q : List Setting → Type 0 = λ ss. Sets (completed row.task.0 (length m.subs) u.rows) ss c.in_ok-output.output c.in_ok-output-2.output in
    let R : Values → Type 0 = λ vs. Sets (completed row.task.0 (length m.subs) u.rows) f.settings vs c.in_ok-output-2.output in
    (f, sym is, subst R c.in_ok-output.ensures (subst Q c.deref-2.ensures.value (subst P all c.in_ok-output-2.ensures)))
