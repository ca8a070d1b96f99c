-- Which refusal of a text is told: the first that holds anywhere, at its least place.
use Rattle.std.specs.Prelude.{◌≡◌, ◌≢◌, ◌⊎◌, ℕ, List, [], ◌∷◌, Result, Ok, Err, ⊤}
use Rattle.ht_base.specs.Places.{IsLeast}

-- A refusal: what is told of a place, and at which places it holds. A refusal of the whole text
-- tells the same of each place.
pub record Refusal (E : Type 0) : Type 1 where
  pub told : ℕ → E
  pub HoldsAt : ℕ → Type 0

abbrev pub refused : {E : Type 0} → (ℕ → E) → (ℕ → Type 0) → Refusal E
refused told HoldsAt = record { told = told; HoldsAt = HoldsAt }

-- it holds of what the text is, at this place
abbrev pub Of : {X : Type 0} → (X → Type 0) → (X → ℕ → Type 0) → ℕ → Type 0
Of {X} Is P place = (x : X) × Is x × P x place

-- it is nothing of the kind
abbrev pub IsNone : {X : Type 0} → (X → Type 0) → ℕ → Type 0
IsNone {X} Is place = (x : X) → Is x → ⊥

-- What is told of a place of what a text is, and at which of its places it holds.
pub record About (X E : Type 0) : Type 1 where
  pub told : ℕ → E
  pub HoldsAt : X → ℕ → Type 0

abbrev pub about : {X E : Type 0} → (ℕ → E) → (X → ℕ → Type 0) → About X E
about told HoldsAt = record { told = told; HoldsAt = HoldsAt }

-- such refusals of this, and of a text that is it
abbrev pub each_of : {X E : Type 0} → X → List (About X E) → List (Refusal E)
each_of x [] = []
each_of x (r ∷ rs) = refused r.told (r.HoldsAt x) ∷ each_of x rs

abbrev pub each_of_text : {X E : Type 0} → (X → Type 0) → List (About X E) → List (Refusal E)
each_of_text Is [] = []
each_of_text Is (r ∷ rs) = refused r.told (Of Is r.HoldsAt) ∷ each_of_text Is rs

-- it holds nowhere
abbrev pub Nowhere : {E : Type 0} → Refusal E → Type 0
Nowhere r = (place : ℕ) → r.HoldsAt place → ⊥

-- this is told where it holds, and where it holds first
abbrev pub Tells : {E : Type 0} → Refusal E → E → Type 0
Tells r answer = (place : ℕ) × (answer ≡ r.told place) × r.HoldsAt place

abbrev pub TellsLeast : {E : Type 0} → Refusal E → E → Type 0
TellsLeast r answer = (place : ℕ) × (answer ≡ r.told place) × IsLeast r.HoldsAt place

-- ---- refusals in their order

-- one of them holds, and is this
abbrev pub Holds : {E : Type 0} → List (Refusal E) → E → Type 0
Holds [] answer = ⊥
Holds (r ∷ rs) answer = Tells r answer ⊎ Holds rs answer

-- none of them holds anywhere
abbrev pub NothingHolds : {E : Type 0} → List (Refusal E) → Type 0
NothingHolds [] = ⊤
NothingHolds (r ∷ rs) = Nowhere r × NothingHolds rs

-- the first of them that holds anywhere, at its least place
abbrev pub IsFirst : {E : Type 0} → List (Refusal E) → E → Type 0
IsFirst [] answer = ⊥
IsFirst (r ∷ rs) answer = TellsLeast r answer ⊎ (Nowhere r × IsFirst rs answer)

-- ---- what is answered. Want of memory says nothing of the text

-- of a whole text: what it is, where none of its refusals holds, and else the first that does
abbrev pub Reads : {T E : Type 0} → E → List (Refusal E) → (T → Type 0) → Result T E → Type 0
Reads memory rs Is (Ok value) = Is value × NothingHolds rs
Reads memory rs Is (Err answer) = answer ≢ memory → IsFirst rs answer

-- of a pass over the text that looks for one refusal
abbrev pub Passes : {T E : Type 0} → E → Refusal E → Result T E → Type 0
Passes memory r (Ok value) = Nowhere r
Passes memory r (Err answer) = answer ≢ memory → TellsLeast r answer
