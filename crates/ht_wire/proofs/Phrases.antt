-- The reason phrases of the replies are short.
use Rattle.std.proofs.Common.{◌≡◌, ℕ, ◌<◌, ◌≤◌, Bool, true, false, ◌||◌, ◌==◌, ap, ◌⊎◌, inl, inr, ⊎_elim, List, [], ◌∷◌, length, subst, refl, lit≤, lit<, Option, unwrap_or}
use Rattle.std.specs.List.{list_any}
use Rattle.std.proofs.lemmas.Bool.{eqb-true}
use Rattle.http.specs.StatusCode.{reason_phrase}
use Rattle.ht_wire.specs.Replies.{statuses, IsReplyStatus, phrase_of}

-- what holds of each of a list's numbers
abbrev Each : (ℕ → Type 0) → List ℕ → Type 0
Each P [] = Unit {0}
Each P (n ∷ ns) = P n × Each P ns

either : (b c : Bool) → (b || c) ≡ true → (b ≡ true) ⊎ (c ≡ true)
either true c e = inl refl
either false c e = inr e

holds_of : (P : ℕ → Type 0) (ns : List ℕ) (n : ℕ) → Each P ns → list_any (λ m. m == n) ns ≡ true → P n
holds_of P [] n each any = absurd (cc)
holds_of P (m ∷ ns) n each any = ⊎_elim (λ (same : (m == n) ≡ true). subst P (eqb-true m n same) each.0) (λ (later : list_any (λ m. m == n) ns ≡ true). holds_of P ns n each.1 later) (either (m == n) (list_any (λ m. m == n) ns) any)

abbrev IsGood : ℕ → Type 0
IsGood status = (100 ≤ status) × (status < 1000) × (length (phrase_of status) ≤ 31)

all_good : Each IsGood statuses
unfolding phrase_of
all_good = ((lit≤ tt, lit< tt, lit≤ tt), ((lit≤ tt, lit< tt, lit≤ tt), ((lit≤ tt, lit< tt, lit≤ tt), ((lit≤ tt, lit< tt, lit≤ tt), ((lit≤ tt, lit< tt, lit≤ tt), ((lit≤ tt, lit< tt, lit≤ tt), ((lit≤ tt, lit< tt, lit≤ tt), ((lit≤ tt, lit< tt, lit≤ tt), ((lit≤ tt, lit< tt, lit≤ tt), ((lit≤ tt, lit< tt, lit≤ tt), ((lit≤ tt, lit< tt, lit≤ tt), ((lit≤ tt, lit< tt, lit≤ tt), ((lit≤ tt, lit< tt, lit≤ tt), ((lit≤ tt, lit< tt, lit≤ tt), ((lit≤ tt, lit< tt, lit≤ tt), tt)))))))))))))))

pub phrase_good : (status : ℕ) → IsReplyStatus status → IsGood status
phrase_good status is = holds_of IsGood statuses status all_good is

pub phrase_is : (found : Option (List ℕ)) (status : ℕ) → found ≡ reason_phrase status → unwrap_or found [] ≡ phrase_of status
unfolding phrase_of
phrase_is found status is = ap (λ (p : Option (List ℕ)). unwrap_or p []) is
