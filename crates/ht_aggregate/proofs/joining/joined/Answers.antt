use Rattle.std.proofs.Common.{◌∙◌, sym, subst}
use Rattle.std.specs.Prelude.{string_bytes}
use Rattle.std.specs.Str.{IsCharBoundary, IsUtf8}
use Rattle.ht_base.specs.declared.limits.TheConstants.{LONGEST_TEXT}
use Rattle.ht_aggregate.specs.Given.{texts}
use Rattle.ht_aggregate.specs.Joining.{IsCut, joined}
use Rattle.ht_aggregate.proofs.Cuts.{cut_of}
use Rattle.ht_aggregate.proofs.joining.joined.Goals as goal

pub truncate-requires : goal.truncate-requires
truncate-requires c = λ _.
    let boundary = subst (λ bs. IsCharBoundary bs c.floor_char_boundary-end.result) c.as_str.ensures.value c.floor_char_boundary-end.ensures.boundary in
    (boundary.0, λ _. boundary.1)

pub returns : goal.returns
returns c =
    let bytes = string_bytes c.in_ok-text.text in
    let end = c.floor_char_boundary-end.result in
    let whole = joined c.args.delimiter.now (texts c.args.values.now) in
    subst (IsCut LONGEST_TEXT whole) (sym (c.from.ensures ∙ c.truncate.ensures.bytes))
    (cut_of LONGEST_TEXT whole bytes end
    (subst IsUtf8 c.as_str.ensures.value c.as_str.utf8)
    c.in_ok-text.ensures
    c.floor_char_boundary-end.ensures.bound
    (subst (λ bs. IsCharBoundary bs end) c.as_str.ensures.value c.floor_char_boundary-end.ensures.boundary)
    (λ i after few at. c.floor_char_boundary-end.ensures.nearest i after few (subst (λ bs. IsCharBoundary bs i) (sym c.as_str.ensures.value) at)))
