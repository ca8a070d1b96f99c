-- Chains of steps in a graph of places, of which `next` tells where each leads.
use Rattle.std.specs.Prelude.{◌≡◌, ℕ, ◌<◌, zero, suc, ◌==◌, Bool, true, List, Some, slice_get}
use Rattle.std.specs.List.{list_any, range_with_len}

-- a chain of n steps leads from one place to another
abbrev pub leads : (ℕ → List ℕ) → ℕ → ℕ → ℕ → Bool
leads next zero from to = from == to
leads next (suc n) from to = list_any (λ place. leads next n place to) (next from)

-- a chain of one step or more leads there
abbrev pub IsReached : (ℕ → List ℕ) → ℕ → ℕ → Type 0
IsReached next from to = (n : ℕ) × (leads next (suc n) from to ≡ true)

-- one of at most so many steps does
abbrev pub is_near : (ℕ → List ℕ) → ℕ → ℕ → ℕ → Bool
is_near next most from to = list_any (λ n. leads next n from to) (range_with_len 1 most)

-- a chain of one step or more leads back
abbrev pub IsInCycle : (ℕ → List ℕ) → ℕ → Type 0
IsInCycle next place = IsReached next place place

-- there is a chain of more steps
abbrev pub IsDeeper : (ℕ → List ℕ) → ℕ → Type 0
IsDeeper next most = (n : ℕ) × (most < n) × ((from : ℕ) × (to : ℕ) × (leads next n from to ≡ true))

-- each step leads from one of so many places to one of them
abbrev pub IsClosed : ℕ → (ℕ → List ℕ) → Type 0
IsClosed count next = (place i to : ℕ) → slice_get (next place) i ≡ Some to → (place < count) × (to < count)
