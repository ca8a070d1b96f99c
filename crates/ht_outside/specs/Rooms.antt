-- A disk in memory with room for so many bytes.
use Rattle.std.specs.Prelude.{ℕ, ◌+◌, List, [], length, max, Result, MatchResult, ⊤, ◌≡◌}
use Rattle.ht_outside.specs.Causes.{next_count}
use Rattle.ht_outside.specs.Disks.{written}

pub record RoomOf : Type 0 where
  pub file : List ℕ
  pub room : ℕ
  pub shown : ℕ
  pub faults : ℕ

-- an empty disk with this room
abbrev pub empty_room : ℕ → RoomOf
empty_room room = record { file = []; room = room; shown = 0; faults = 0 }

-- a write was done, or it failed and only the count of faults changed
abbrev pub IsRoomWrite : {E : Type 0} → RoomOf → RoomOf → ℕ → List ℕ → Result ⊤ E → Type 0
IsRoomWrite old new at piece result = MatchResult result
    (λ _. new ≡ record old { file = written at piece old.file; shown = max old.shown (at + length piece) })
    (λ _. new ≡ record old { faults = next_count old.faults })
