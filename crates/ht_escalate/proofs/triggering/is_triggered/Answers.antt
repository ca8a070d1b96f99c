use Rattle.std.proofs.Common.{◌≡◌, Option, Some, length, IsTrue, sym, subst}
use Rattle.ht_base.specs.declared.kind.Kind.TheVariants.{Truth}
use Rattle.ht_escalate.proofs.NewOwners.{of_this}
use Rattle.ht_escalate.proofs.triggering.is_triggered.Goals as goal
use Rattle.ht_value.specs.declared.environment.Env.{Env}
use Rattle.ht_value.specs.Environment.{has_parts}
use Rattle.ht_models.specs.Kinded.{IsOfKind, parts_of}
use Rattle.ht_models.specs.Model.{ModelOf}
use Rattle.ht_models.specs.Shown as shown
use Rattle.ht_tree.specs.Soundness.{IsHeldBy}
use Rattle.ht_tree.specs.Tables.{model_of}
use Rattle.ht_tree.proofs.PublicLaws.{row_seen, sound_row_fits}

pub see-requires-clause-row : goal.see-requires-clause-row
see-requires-clause-row c =
    let t = c.args.seen.now.tables.now.tables in
    let row = c.args.seen.now.row.now in
    sound_row_fits t.models (length t.people.persons) row (c.requires.seen.plan.sound.rows_sound row.task.0 row c.requires.seen.there)

seen_is : {e f : Env} {o : Option Env} → o ≡ Some e → o ≡ Some f → e ≡ f
seen_is is made = cc

pub is_true-requires : goal.is_true-requires
is_true-requires c =
    let t = c.args.seen.now.tables.now.tables in
    let row = c.args.seen.now.row.now in
    let m : ModelOf = shown.model_of c.args.seen.now.model.now in
    let kinds = parts_of m.input m.output in
    let held = of_this (λ x. IsHeldBy (length t.people.persons) x row.input row.output row.taken) (model_of t row) m c.requires.seen.model (c.requires.seen.plan.sound.rows_sound row.task.0 row c.requires.seen.there).held in
    let P : Env → Type 0 = λ e. IsTrue (has_parts kinds e) in
    (kinds, of_this (IsOfKind kinds Truth) c.args.escalation.now.when c.in-Some.condition c.in-Some.is c.requires.kinds.when, subst P (sym (seen_is c.in-Some-view.is c.in_ok-see-in-Some.ensures)) (row_seen m (length t.people.persons) row held))
