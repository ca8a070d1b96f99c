use Rattle.std.proofs.Common.{◌≡◌, ◌∙◌, List, ℕ, IfOk, Option, ap, arith, option_and_then, subst, sym}
use Rattle.ht_base.specs.declared.scalar.Scalar.{Scalar}
use Rattle.serde_json.specs.Data.{Members}
use Rattle.ht_api.specs.Fits.{parts_if, parts_of}
use Rattle.ht_api.proofs.Fitting.{few_parts, too_many_parts}
use Rattle.ht_api.proofs.fits.parts_in.Goals as goal

pub returns-then-len-gt-MOST_PARTS : goal.returns-then-len-gt-MOST_PARTS
returns-then-len-gt-MOST_PARTS c =
    let entries = c.in-Some.members.now.entries in
    let count = c.len.ensures.len in
    let over = c.if-len-gt-MOST_PARTS.true in
    sym (ap (λ (o : Option Members). option_and_then parts_if (option_and_then parts_of o)) (sym c.in-Some.ensures) ∙ too_many_parts entries (omega arith))

pub returns : goal.returns
returns c =
    let entries = c.in-Some.members.now.entries in
    let count = c.len.ensures.len in
    let within = c.if-len-gt-MOST_PARTS.false in
    let same = sym (few_parts entries (omega arith)) ∙ ap (λ (o : Option Members). option_and_then parts_if (option_and_then parts_of o)) c.in-Some.ensures in
    let P : Option (List (List ℕ × Scalar)) → Type 0 = λ o. IfOk c.parts_of.result (λ ps. ps ≡ o) in
    subst P same c.parts_of.ensures
