-- When a call of a journal answers what.
use Rattle.std.specs.Prelude.{◌≡◌, ℕ, ◌+◌, ◌≤◌, ◌<◌, List, [], ◌∷◌, ◌++◌, length, ⊤}
use Rattle.ht_outside.specs.Causes.{Rose}
use Rattle.ht_journal.specs.declared.limits.TheConstants.{LONGEST_BODY}
use Rattle.ht_journal.specs.declared.faults.AppendRefusal.{AppendRefusal}
use Rattle.ht_journal.specs.declared.faults.AppendRefusal.TheVariants.{Store, TooLong, Full}
use Rattle.ht_journal.specs.declared.faults.JournalFault.{JournalFault}
use Rattle.ht_journal.specs.declared.faults.JournalFault.TheVariants.{Damaged, Store as StoreFault, Memory}
use Rattle.ht_journal.specs.declared.faults.Settled.{Settled}
use Rattle.ht_journal.specs.declared.faults.Settled.TheVariants.{Kept, Dropped, Store as Unsettled}
use Rattle.ht_journal.specs.declared.state.JournalState.{JournalState}

-- a body of at most 1,048,576 bytes
abbrev pub IsShort : List ℕ → Type 0
IsShort body = length body ≤ LONGEST_BODY

-- with its length and a gate it stays within the limit
abbrev pub HasRoom : JournalState → List ℕ → Type 0
HasRoom state body = state.length + 4 + length body + 1 ≤ state.limit

-- when an append is refused with what, over a disk whose count of faults went from before to now
abbrev pub HasReason : JournalState → List ℕ → ℕ → ℕ → AppendRefusal → Type 0
HasReason state body before now Store = IsShort body × HasRoom state body × Rose before now
HasReason state body before now TooLong = LONGEST_BODY < length body
HasReason state body before now (Full at) = IsShort body × (state.limit < state.length + 4 + length body + 1) × (at ≡ state.length)

-- the bodies after a doubt was looked into
abbrev pub settled_bodies : List (List ℕ) → List ℕ → Settled → List (List ℕ)
settled_bodies bodies body Kept = bodies ++ body ∷ []
settled_bodies bodies body Dropped = bodies
settled_bodies bodies body Unsettled = bodies

-- a doubt is settled by what its gate holds
abbrev pub IsSettledBy : ℕ → Settled → Type 0
IsSettledBy gate Kept = gate ≡ 1
IsSettledBy gate Dropped = gate ≡ 1 → ⊥
IsSettledBy gate Unsettled = ⊤

-- when each fault comes: Damaged by what is said of its place, Store where the count of faults rose. Memory is free. The
-- count stays but at Store
abbrev pub IsFault : (ℕ → Type 0) → ℕ → ℕ → JournalFault → Type 0
IsFault damaged before now (Damaged at) = damaged at × (now ≡ before)
IsFault damaged before now StoreFault = Rose before now
IsFault damaged before now Memory = now ≡ before
