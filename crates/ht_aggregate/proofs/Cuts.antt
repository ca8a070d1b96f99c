-- Where a text is cut to the most bytes, and that the cut is the longest.
use Rattle.std.proofs.Common.{◌≡◌, ℕ, ◌<◌, ◌≤◌, List, [], ◌++◌, length, take, drop, sym, ap, ◌∙◌, subst, inl, inr, arith, append_assoc, append-nil, take-append-drop}
use Rattle.std.specs.Str.{IsCharBoundary, IsUtf8}
use Rattle.std.proofs.Math.Seq.{take-append_seam}
use Rattle.std.proofs.lemmas.Bool.{cases_lt}
use Rattle.std.proofs.lemmas.List.{length-take-le, take-append-le}
use Rattle.std.proofs.lemmas.List.Prefix.{front_fits}
use Rattle.std.proofs.lemmas.Str.{IsCharBoundary-from_take, IsUtf8-take}
use Rattle.ht_aggregate.specs.Joining.{Begins, BeginsFar, IsCut}

begins_far : (most : ℕ) (whole text : List ℕ) → BeginsFar most whole text → Begins whole text
begins_far most whole text (inl same) = ([], same ∙ sym (append-nil text))
begins_far most whole text (inr far) = far.0

-- a beginning of few bytes begins what is built, too
far_fits : (most : ℕ) (whole text longer : List ℕ) → BeginsFar most whole text → Begins whole longer → length longer ≤ most → length longer ≤ length text
far_fits most whole text longer (inl same) begins few = subst (λ l. length longer ≤ length l) same (front_fits whole longer begins.0 begins.1)
far_fits most whole text longer (inr far) begins few = omega (arith, far.1)

pub front_is : (whole front rest : List ℕ) → whole ≡ front ++ rest → take (length front) whole ≡ front
front_is whole front rest e = ap (take (length front)) e ∙ take-append_seam front rest

pub cut_of : (most : ℕ) (whole text : List ℕ) (n : ℕ) → IsUtf8 text → BeginsFar most whole text → n ≤ most → IsCharBoundary text n
    → ((i : ℕ) → n < i → i ≤ most → IsCharBoundary text i → ⊥) → IsCut most whole (take n text)
cut_of most whole text n characters far within boundary nearest =
    let begins = begins_far most whole text far in
    let fits : n ≤ length text = boundary.0 in
    let len : length (take n text) ≡ n = length-take-le n text fits in
    record {
      begins = (drop n text ++ begins.0, begins.1 ∙ ap (λ l. l ++ begins.0) (sym (take-append-drop n text)) ∙ append_assoc (take n text) (drop n text) begins.0);
      characters = IsUtf8-take text n characters boundary;
      within = omega (arith, len);
      longest = λ longer starts utf8 more.
          elim (cases_lt most (length longer)) [
            | inl beyond ↦ beyond
            | inr few ↦
                let room = far_fits most whole text longer far starts few in
                let front : take (length longer) text ≡ longer =
                sym (take-append-le (length longer) text begins.0 room) ∙ ap (take (length longer)) (sym begins.1) ∙ front_is whole longer starts.0 starts.1 in
                absurd (nearest (length longer) (omega (arith, len)) few (IsCharBoundary-from_take text (length longer) characters room (subst IsUtf8 (sym front) utf8)))
          ];
    }
