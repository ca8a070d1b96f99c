-- What a source or a sink that tells its bytes says of a call. One that doesn't tell says nothing,
-- and no call makes one begin or cease to tell.
use Rattle.std.specs.Prelude.{◌≡◌, ℕ, ◌<◌, ◌≤◌, List, [], ◌++◌, length, take, Option, Some, None, Result, MatchResult, ⊤}

-- the bytes that a source has left, those that were taken from it, and those that had been taken
-- before the last read was made
pub record Flow : Type 0 where
  pub left : List ℕ
  pub taken : List ℕ
  pub before : List ℕ

-- what a source tells: its bytes, if it tells them, and how many reads failed
pub record SourceState : Type 0 where
  pub flow : Option Flow
  pub faults : ℕ

-- what a sink tells: the bytes written, if it tells them, and how many writes failed
pub record SinkState : Type 0 where
  pub written : Option (List ℕ)
  pub faults : ℕ

-- the first bytes of those left were taken, and no others
pub record Moves (old new : Flow) (bytes : List ℕ) : Type 0 where
  pub left : old.left ≡ bytes ++ new.left
  pub taken : new.taken ≡ old.taken ++ bytes

abbrev pub Takes : Option Flow → Option Flow → List ℕ → Type 0
Takes None None bytes = ⊤
Takes None (Some new) bytes = ⊥
Takes (Some old) None bytes = ⊥
Takes (Some old) (Some new) bytes = Moves old new bytes

-- a read was made where these bytes had been taken
abbrev pub IsLastRead : Option Flow → Option Flow → Type 0
IsLastRead None None = ⊤
IsLastRead None (Some new) = ⊥
IsLastRead (Some old) None = ⊥
IsLastRead (Some old) (Some new) = new.before ≡ old.taken

-- nothing is left, as far as the source tells
abbrev pub IsAtEnd : Option Flow → Type 0
IsAtEnd None = ⊤
IsAtEnd (Some flow) = flow.left ≡ []

-- a read that answers n took the n bytes that it put into the buffer; one that failed took none
abbrev pub ReadTakes : {E : Type 0} → Option Flow → Option Flow → Result ℕ E → List ℕ → Type 0
ReadTakes old new result into = MatchResult result
    (λ n. (n ≤ length into) × Takes old new (take n into) × (n ≡ 0 → 0 < length into → IsAtEnd new))
    (λ _. Takes old new [])

-- these bytes were written behind the others
abbrev pub Grows : Option (List ℕ) → Option (List ℕ) → List ℕ → Type 0
Grows None None bytes = ⊤
Grows None (Some new) bytes = ⊥
Grows (Some old) None bytes = ⊥
Grows (Some old) (Some new) bytes = new ≡ old ++ bytes

-- a prefix of these bytes was
abbrev pub GrowsPart : Option (List ℕ) → Option (List ℕ) → List ℕ → Type 0
GrowsPart old new bytes = (front : List ℕ) × (rest : List ℕ) × (bytes ≡ front ++ rest) × Grows old new front

-- a write appends the whole piece, and one that failed a prefix of it
abbrev pub WriteGrows : {E : Type 0} → Option (List ℕ) → Option (List ℕ) → Result ⊤ E → List ℕ → Type 0
WriteGrows old new result piece = MatchResult result (λ _. Grows old new piece) (λ _. GrowsPart old new piece)
