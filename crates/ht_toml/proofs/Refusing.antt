-- Passes one behind another tell the first refusal that holds, and a text is read to one answer.
use Rattle.std.proofs.Common.{◌≡◌, ◌≢◌, ◌∙◌, ℕ, List, [], ◌∷◌, Option, Some, Result, Ok, Err, ap, arith, inl, inr, subst, sym}
use Rattle.toml.specs.Data.{Members}
use Rattle.ht_base.specs.Places.{IsLeast}
use Rattle.ht_toml.specs.Documents.{IsDocument, Says}
use Rattle.ht_toml.specs.Refusals.{About, Holds, IsFirst, NothingHolds, Of, Reads, Refusal, TellsLeast, each_of, each_of_text, refused}

-- ---- one answer

one_least : {E : Type 0} (r : Refusal E) (a b : E) → TellsLeast r a → TellsLeast r b → a ≡ b
one_least r a b (p, is, first) (q, other, least) =
    let low = first.least q least.holds in
    let high = least.least p first.holds in
    let same : p ≡ q = omega arith in
    is ∙ ap r.told same ∙ sym other

pub one_first : {E : Type 0} (rs : List (Refusal E)) (a b : E) → IsFirst rs a → IsFirst rs b → a ≡ b
one_first [] a b f g = absurd f
one_first (r ∷ rs) a b (inl f) (inl g) = one_least r a b f g
one_first (r ∷ rs) a b (inl f) (inr g) = absurd (g.0 f.0 f.2.holds)
one_first (r ∷ rs) a b (inr f) (inl g) = absurd (f.0 g.0 g.2.holds)
one_first (r ∷ rs) a b (inr f) (inr g) = one_first rs a b f.1 g.1

-- the first holds, and where nothing does there is none
pub first_holds : {E : Type 0} (rs : List (Refusal E)) (a : E) → IsFirst rs a → Holds rs a
first_holds [] a f = f
first_holds (r ∷ rs) a (inl f) = inl (f.0, f.1, f.2.holds)
first_holds (r ∷ rs) a (inr f) = inr (first_holds rs a f.1)

pub none_holds : {E : Type 0} (rs : List (Refusal E)) (a : E) → NothingHolds rs → Holds rs a → ⊥
none_holds [] a none h = h
none_holds (r ∷ rs) a none (inl h) = none.0 h.0 h.2
none_holds (r ∷ rs) a none (inr h) = none_holds rs a none.1 h

module _ {T E : Type 0} (memory : E) (rs : List (Refusal E)) (Is : T → Type 0) (one : (x y : T) → Is x → Is y → x ≡ y) where
  pub one_answer : (a b : Result T E) → Reads memory rs Is a → Reads memory rs Is b → a ≢ Err memory → b ≢ Err memory → a ≡ b
  one_answer (Ok x) (Ok y) r s n m = ap (λ (v : T). Ok v) (one x y r.0 s.0)
  one_answer (Ok x) (Err f) r s n m = absurd (none_holds rs f r.1 (first_holds rs f (s (λ e. m (ap (λ (f : E). Err f) e)))))
  one_answer (Err f) (Ok x) r s n m = absurd (none_holds rs f s.1 (first_holds rs f (r (λ e. n (ap (λ (f : E). Err f) e)))))
  one_answer (Err f) (Err g) r s n m = ap (λ (f : E). Err f) (one_first rs f g (r (λ e. n (ap (λ (f : E). Err f) e))) (s (λ e. m (ap (λ (f : E). Err f) e))))

-- ---- passes

-- a pass over what the text is, as one over the text
module _ {X : Type 0} (Is : X → Type 0) (one : (x y : X) → Is x → Is y → x ≡ y) (P : X → ℕ → Type 0) (x : X) (is : Is x) where
  pub nowhere_of : ((place : ℕ) → P x place → ⊥) → (place : ℕ) → Of Is P place → ⊥
  nowhere_of none place h = none place (subst (λ (y : X). P y place) (one h.0 x h.1 is) h.2)

  pub least_of : (place : ℕ) → IsLeast (P x) place → IsLeast (Of Is P) place
  least_of place first = record { holds = (x, is, first.holds); least = λ q h. first.least q (subst (λ (y : X). P y q) (one h.0 x h.1 is) h.2) }

  pub told_of : {E : Type 0} (memory : E) (told : ℕ → E) (a : E) → (a ≢ memory → TellsLeast (refused told (P x)) a) → a ≢ memory → TellsLeast (refused told (Of Is P)) a
  told_of memory told a first some = let f = first some in (f.0, f.1, least_of f.0 f.2)

-- what is told of all that a text is, is told of the text
module _ {X E : Type 0} (Is : X → Type 0) (one : (x y : X) → Is x → Is y → x ≡ y) (x : X) (is : Is x) where
  pub nothing_of_text : (rs : List (About X E)) → NothingHolds (each_of x rs) → NothingHolds (each_of_text Is rs)
  nothing_of_text [] none = tt
  nothing_of_text (r ∷ rs) none = (nowhere_of Is one r.HoldsAt x is none.0, nothing_of_text rs none.1)

  pub first_of_text : (rs : List (About X E)) (a : E) → IsFirst (each_of x rs) a → IsFirst (each_of_text Is rs) a
  first_of_text [] a f = absurd f
  first_of_text (r ∷ rs) a (inl f) = inl (f.0, f.1, least_of Is one r.HoldsAt x is f.0 f.2)
  first_of_text (r ∷ rs) a (inr f) = inr (nowhere_of Is one r.HoldsAt x is f.0, first_of_text rs a f.1)

-- ---- what a text says

pub one_document : (text : List ℕ) (a b : Members) → IsDocument text a → IsDocument text b → a ≡ b
one_document text a b first second = let same : Some a ≡ Some b = sym first.1 ∙ second.1 in cc

pub one_saying : {X : Type 0} (shape : Members → Option X) (text : List ℕ) (x y : X) → Says shape text x → Says shape text y → x ≡ y
one_saying shape text x y first second =
    let same = one_document text first.0 second.0 first.1 second.1 in
    let is : Some x ≡ Some y = sym first.2 ∙ ap shape same ∙ second.2 in
    cc
