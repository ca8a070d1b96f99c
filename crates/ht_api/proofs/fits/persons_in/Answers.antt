use Rattle.std.proofs.Common.{◌≡◌, ◌∙◌, List, ℕ, Bool, true, None, Option, Some, ap, arith, if◌then◌else◌, option_and_then, sym}
use Rattle.serde_json.specs.Data.{Items}
use Rattle.serde_json.specs.View.{items_view}
use Rattle.serde_json.specs.declared.value.Value.{Value}
use Rattle.ht_api.specs.Fits.{are_distinct, names_of, persons_if}
use Rattle.ht_api.proofs.Fitting.{few_persons, too_many_persons}
use Rattle.ht_api.proofs.fits.persons_in.Goals as goal

pub returns-then-len-gt-MOST_NAMES : goal.returns-then-len-gt-MOST_NAMES
returns-then-len-gt-MOST_NAMES c =
    let items = c.in-Some.items.now.items in
    let count = c.len.ensures in
    let over = c.if-len-gt-MOST_NAMES.true in
    sym (ap (λ (o : Option Items). option_and_then persons_if (option_and_then names_of o)) (sym c.in-Some.ensures) ∙ too_many_persons items (omega arith))

pub returns : goal.returns
returns c =
    let items = c.in-Some.items.now.items in
    let names : List (List ℕ) = c.in-Some-2.names in
    let count = c.len.ensures in
    let within = c.if-len-gt-MOST_NAMES.false in
    let read : names_of (items_view items) ≡ Some names = ap (λ (vs : List Value). names_of (items_view vs)) (sym c.deref.ensures.value) ∙ sym c.in_ok-names.ensures ∙ c.in-Some-2.is in
    let distinct : are_distinct names ≡ true = ap (λ (ns : List (List ℕ)). are_distinct ns) (sym c.as_slice.ensures) ∙ sym c.are_distinct.ensures ∙ c.if-not-are_distinct.false in
    sym (ap (λ (o : Option Items). option_and_then persons_if (option_and_then names_of o)) (sym c.in-Some.ensures)
    ∙ ap (λ (o : Option (List (List ℕ))). option_and_then persons_if o) read
    ∙ few_persons items names (omega arith) read
    ∙ ap (λ (b : Bool). if b then Some names else None) distinct)
