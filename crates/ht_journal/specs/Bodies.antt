-- Which body is read, and where it stands.
use Rattle.std.specs.Prelude.{◌≡◌, ℕ, ◌+◌, ◌-◌, ◌≤◌, List, [], ◌∷◌, ◌++◌, length, take, drop}
use Rattle.ht_journal.specs.declared.limits.TheConstants.{LONGEST_BODY}
use Rattle.ht_journal.specs.Files.{front, length_at}

-- The nth body, counted from 1, and the place of its first byte in the file: behind a gate and the four bytes of its length
pub record IsNth (bodies : List (List ℕ)) (n at : ℕ) (body : List ℕ) : Type 0 where
  pub bytes : take n bodies ≡ take (n - 1) bodies ++ body ∷ []
  pub place : at ≡ length (front (take (n - 1) bodies)) + 5

-- the file begins with these bodies
abbrev pub HasFront : List (List ℕ) → List ℕ → Type 0
HasFront bodies file = file ≡ front bodies ++ drop (length (front bodies)) file

-- Behind the gate begins at `at` a body of n bytes, if it is a frame that ends by `end`
abbrev pub IsBehind : ℕ → ℕ → ℕ → ℕ → List ℕ → Type 0
IsBehind gate end at n file =
    length_at (drop (gate + 1) file) ≤ LONGEST_BODY → gate + 5 + length_at (drop (gate + 1) file) ≤ end → (at ≡ gate + 5) × (n ≡ length_at (drop (gate + 1) file))
