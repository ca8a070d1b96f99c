use Rattle.std.proofs.Common.{◌≡◌, ◌==◌, ℕ, true, List, length, sym, subst, ◌∙◌, arith}
use Rattle.std.proofs.lemmas.Bool.Decides.{nat_tests}
use Rattle.std.proofs.lemmas.List.{nil_from_length}
use Rattle.ht_finding.specs.Assigning.{potential_owners}
use Rattle.ht_finding.proofs.Excluding.{all_left, except_is}
use Rattle.ht_finding.proofs.finding.without.Goals as goal

pub returns : goal.returns
returns c = except_is c.args.excluded.now c.args.found c.except.result c.except.ensures.set c.except.ensures.ascends

is_zero : (k : ℕ) → (k == 0) ≡ true → k ≡ 0
is_zero k h = grind (arith, nat_tests)

pub returns-then-is_empty : goal.returns-then-is_empty
returns-then-is_empty c = λ d s a is.
    let out = c.as_slice.result.now in
    let none = sym c.as_slice.ensures.value ∙ nil_from_length out (is_zero (length out) (sym c.is_empty.ensures ∙ c.if-is_empty.true)) in
    let P : List ℕ → Type 0 = λ ex. c.args.found ≡ potential_owners d s a ex in
    subst P (sym none) (all_left d s a c.args.found is)
