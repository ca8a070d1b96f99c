-- What an opening finds at the gates of a file.
use Rattle.std.specs.Prelude.{◌≡◌, ◌+◌, ℕ, List, ◌∷◌, ◌++◌, length, drop, slice_index, Option, Some, None, IfSome}
use Rattle.ht_journal.specs.Files.{Fit, front, length_bytes}

-- what stands at a gate: no open gate, or an open one with a whole frame of this length behind it
abbrev pub StandsAt : ℕ → List ℕ → Option ℕ → Type 0
StandsAt gate file None = slice_index file gate ≡ 1 → ⊥
StandsAt gate file (Some n) = drop gate file ≡ 1 ∷ (length_bytes n ++ drop (gate + 5) file)

-- so many bodies stand before a gate
pub record IsScanned (file : Option (List ℕ)) (gate count : ℕ) : Type 0 where
  pub bodies : List (List ℕ)
  pub counted : count ≡ length bodies
  pub place : gate ≡ length (front bodies)
  pub fit : Fit bodies
  pub front_is : IfSome file (λ f. f ≡ front bodies ++ drop gate f)
