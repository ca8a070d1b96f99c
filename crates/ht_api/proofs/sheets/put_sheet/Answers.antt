use Rattle.std.proofs.Common.{◌∙◌, List, [], ◌∷◌, subst}
use Rattle.json.specs.Token.{Token, begin_object, end_object}
use Rattle.ht_api.specs.Replies.{first_rows, last_rows, middle_rows, sheet_data}
use Rattle.ht_api.specs.Writing.{Puts, rows_then}
use Rattle.ht_api.proofs.Going.{three_parts}
use Rattle.ht_api.proofs.sheets.put_sheet.Goals as goal

pub returns : goal.returns
unfolding sheet_data
returns c =
    let s = c.args.sheet.now in
    subst (λ (ts : List Token). Puts c.put_object.result c.args.writer.now c.put_object.new.writer ts)
    ((λ i. begin_object ∷ rows_then (c.first_rows-first.ensures i) (rows_then (c.middle_rows-middle.ensures i) (rows_then (c.last_rows-last.ensures i) (end_object ∷ []))))
    ∙ three_parts (first_rows s) (middle_rows s) (last_rows s))
    c.put_object.ensures
