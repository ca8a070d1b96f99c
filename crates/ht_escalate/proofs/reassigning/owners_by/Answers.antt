use Rattle.std.proofs.Common.{◌≡◌, length, not, ap}
use Rattle.ht_escalate.proofs.NewOwners.{of_this, same_owners}
use Rattle.ht_escalate.proofs.reassigning.owners_by.Goals as goal
use Rattle.ht_expr.specs.Assignments.{Assignment, is_individual}
use Rattle.ht_expr.specs.Shown as tree
use Rattle.ht_models.specs.Model.{ModelOf}
use Rattle.ht_models.specs.Shown as shown
use Rattle.ht_finding.specs.Assigning.{Sight, potential_owners, resolved}
use Rattle.ht_tree.specs.Creating.{seen_in}
use Rattle.ht_tree.specs.Plans.{planned}
use Rattle.ht_tree.specs.Tables.{directory, model_of}
use Rattle.ht_tree.proofs.PublicLaws.{sound_row_fits}

pub resolve_seen-requires-clause-row : goal.resolve_seen-requires-clause-row
resolve_seen-requires-clause-row c =
    let t = c.args.seen.now.tables.now.tables in
    let row = c.args.seen.now.row.now in
    sound_row_fits t.models (length t.people.persons) row (c.requires.seen.plan.sound.rows_sound row.task.0 row c.requires.seen.there)

pub returns : goal.returns
returns c =
    let t = c.args.seen.now.tables.now.tables in
    let row = c.args.seen.now.row.now in
    let a : Assignment = tree.shown c.args.assign.now in
    let rows = (planned t c.args.seen.now.plan.now).rows in
    let m : ModelOf = shown.model_of c.args.seen.now.model.now in
    let s : Sight = seen_in m rows row in
    let found : c.in_ok-found.found ≡ resolved (directory t) s a =
    of_this (λ (x : ModelOf). c.in_ok-found.found ≡ resolved (directory t) (seen_in x rows row) a) (model_of t row) m c.requires.seen.model c.in_ok-found.ensures.persons in
    let persons = c.in_ok-without.ensures (directory t) s a found in
    same_owners c.in_ok-without.field-0 (potential_owners (directory t) s a row.excluded_owners) (not c.individual.result) (not (is_individual a)) persons (ap not c.individual.ensures)
