-- What the calls of a disk do to its file, and what a crash may leave between two syncs.
use Rattle.std.specs.Prelude.{◌≡◌, ◌⊎◌, ℕ, ◌+◌, ◌-◌, ◌<◌, ◌≤◌, min, max, Bool, IsTrue, List, ◌++◌, length, take, drop, replicate, slice_index, Option, Some, None, ⊤, nat_lt}
use Rattle.std.specs.List.{list_all}

-- the file with a filler behind it, as far as this place
abbrev pub padded : ℕ → ℕ → List ℕ → List ℕ
padded filler at file = file ++ replicate (at - length file) filler

-- the file with a piece over it from this place on. Between the file's end and the piece stands the filler
abbrev pub laid_over : ℕ → ℕ → List ℕ → List ℕ → List ℕ
laid_over filler at piece file = take at (padded filler at file) ++ piece ++ drop (at + length piece) file

-- the file after a whole write. Between its end and the piece there are zeros
abbrev pub written : ℕ → List ℕ → List ℕ → List ℕ
written at piece file = laid_over 0 at piece file

-- the piece was written, whole
abbrev pub Holds : ℕ → List ℕ → List ℕ → List ℕ → Type 0
Holds at piece old new = new ≡ written at piece old

-- A write of n bytes that was cut short: its range and the part past the old end hold any bytes, and the end is anywhere
-- from the old one to that of the write. Other bytes stay
pub record Torn (at n : ℕ) (old new : List ℕ) : Type 0 where
  pub before : take (min at (length old)) new ≡ take (min at (length old)) old
  pub after : drop (at + n) new ≡ drop (at + n) old
  pub no_shorter : length old ≤ length new
  pub no_longer : length new ≤ max (length old) (at + n)

-- a file that is told went from old to new by this. No call makes a disk begin or cease to tell
abbrev pub Both : (List ℕ → List ℕ → Type 0) → Option (List ℕ) → Option (List ℕ) → Type 0
Both step None None = ⊤
Both step None (Some new) = ⊥
Both step (Some old) None = ⊥
Both step (Some old) (Some new) = step old new

-- what a crash may leave now is what it might have left before, after a step
abbrev pub Follows : (List ℕ → List ℕ → Type 0) → (List ℕ → Type 0) → (List ℕ → Type 0) → Type 0
Follows step old new = (image : List ℕ) → new image → (before : List ℕ) × old before × step before image

-- these are bytes
abbrev pub AreBytes : List ℕ → Type 0
AreBytes file = (k : ℕ) → slice_index file k < 256

-- whether these are bytes
abbrev pub all_bytes : List ℕ → Bool
all_bytes file = list_all (λ n. nat_lt n 256) file

-- where images are told, a crash leaves nothing that it might not have left before
abbrev pub AddsNoImage : Bool → (List ℕ → Type 0) → (List ℕ → Type 0) → Type 0
AddsNoImage tells old new = IsTrue tells → (image : List ℕ) → new image → old image

-- where images are told, a crash may still leave each file that it might have left before
abbrev pub KeepsEachImage : Bool → (List ℕ → Type 0) → (List ℕ → Type 0) → Type 0
KeepsEachImage tells old new = IsTrue tells → (image : List ℕ) → old image → new image

-- where images are told, a crash may leave each file of bytes that a step makes of one that it might have left before
abbrev pub MakesEachImage : (List ℕ → List ℕ → Type 0) → Bool → (List ℕ → Type 0) → (List ℕ → Type 0) → Type 0
MakesEachImage step tells old new = IsTrue tells → (before image : List ℕ) → old before → step before image → AreBytes image → new image

-- a crash leaves this and nothing else
abbrev pub Only : List ℕ → (List ℕ → Type 0) → Type 0
Only file may_leave = (image : List ℕ) → may_leave image → image ≡ file

-- time went on: a crash since a moment t might have left what it might have left before, or what it may leave now
pub record Elapses (before now : ℕ) (past since : ℕ → List ℕ → Type 0) (may_leave : List ℕ → Type 0) : Type 0 where
  pub later : before ≤ now
  pub nothing_else : (t : ℕ) (image : List ℕ) → t ≤ before → since t image → past t image ⊎ may_leave image
  pub keeps : (t : ℕ) (image : List ℕ) → t ≤ before → past t image → since t image
