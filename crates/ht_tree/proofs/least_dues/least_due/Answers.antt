use Rattle.ht_due.specs.Dues.{lesser, least_of}
use Rattle.std.proofs.Common.{◌≡◌, ◌++◌, List, [], Option, map, ap, sym, ◌∙◌}
use Rattle.std.specs.Option.{option_map_or}
use Rattle.ht_due.specs.declared.due.Due.{Due}
use Rattle.ht_models.specs.declared.model.Deadline.{Deadline}
use Rattle.ht_models.specs.Model.{DeadlineOf, ModelOf}
use Rattle.ht_models.specs.Shown.{deadline_of}
use Rattle.ht_tree.specs.RowDues.{deadline_dues, deadlines_of, due_of}
use Rattle.ht_due.proofs.PublicLaws.{least_append}
use Rattle.ht_tree.proofs.least_dues.least_due.Goals as goal

pub returns : goal.returns
returns c =
    let row = c.args.row.now in
    let waits : List Due = due_of row 0 0 row.waits in
    let until : List Due = due_of row 1 0 row.until in
    let of_model : map deadline_of c.model.result.now.deadlines.items ≡ deadlines_of c.args.models.now row =
    sym (ap (λ (o : Option ModelOf). option_map_or (λ m. m.deadlines) o []) c.model.ensures.value) in
    let deadlines : c.least_deadline.result ≡ least_of (deadline_dues row 0 (deadlines_of c.args.models.now row)) =
    c.least_deadline.ensures
    ∙ ap (λ (ds : List Deadline). least_of (deadline_dues row 0 (map deadline_of ds))) c.deref.ensures.value
    ∙ ap (λ (ds : List DeadlineOf). least_of (deadline_dues row 0 ds)) of_model in
    let both : c.lesser.result ≡ least_of (waits ++ until) =
    c.lesser.ensures
    ∙ ap (λ (o : Option Due). lesser o c.due_at-until.result) c.due_at-waits.ensures
    ∙ ap (λ (o : Option Due). lesser (least_of waits) o) c.due_at-until.ensures
    ∙ sym (least_append waits until) in
    c.lesser-2.ensures
    ∙ ap (λ (o : Option Due). lesser o c.least_deadline.result) both
    ∙ ap (λ (o : Option Due). lesser (least_of (waits ++ until)) o) deadlines
    ∙ sym (least_append (waits ++ until) (deadline_dues row 0 (deadlines_of c.args.models.now row)))
