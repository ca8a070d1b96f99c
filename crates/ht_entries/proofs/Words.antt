-- Words that are none of a list.
use Rattle.std.proofs.Common.{◌≡◌, ℕ, Bool, true, false, List, refl}
use Rattle.std.specs.Prelude.{bytes_eq}
use Rattle.std.proofs.lemmas.Slice.Eq.{bytes_eq-Decides}

-- another word isn't found
pub other : {word : List ℕ} {listed : List ℕ} → (word ≡ listed → ⊥) → bytes_eq listed word ≡ false
other {word} {listed} differs = here (bytes_eq listed word) refl
  where
    here : (same : Bool) → bytes_eq listed word ≡ same → bytes_eq listed word ≡ false
    here true is = let e = (bytes_eq-Decides listed word).0 is in absurd (differs cc)
    here false is = is
