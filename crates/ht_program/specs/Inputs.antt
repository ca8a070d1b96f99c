-- How the input of a run ends. The statuses 0, 1 and 9 are each exactly for one of these ways.
use Rattle.std.specs.Prelude.{◌≡◌, ◌⊎◌, ◌↔◌, ℕ, Bool, false, List, map, Option, Some, None, ⊤}
use Rattle.ht_outside.specs.Tells.{Flow}
use Rattle.ht_wire.specs.declared.request.Request.{Request}
use Rattle.ht_serve.specs.Inputs.{IsBroken, IsTooMuch, IsWhole}

-- the most requests of one run
abbrev pub budget : ℕ
budget = 1048576

-- which of these requests is the last of its connection
abbrev pub lasts : List Request → List Bool
lasts rs = map (λ r. r.last) rs

-- the status of a run of at most so many requests that had no fault and memory enough, over an input
-- that tells its bytes
abbrev pub IsStatusOf : ℕ → Option Flow → ℕ → Type 0
IsStatusOf most None status = ⊤
IsStatusOf most (Some flow) status =
    ((status ≡ 0) ↔ IsWhole false most flow.left)
    × ((status ≡ 1) ↔ IsBroken false most flow.left)
    × ((status ≡ 9) ↔ IsTooMuch false most flow.left)

-- the statuses of a program in which no count of faults rose
abbrev pub IsAnswered : ℕ → Type 0
IsAnswered status = (status ≡ 0) ⊎ ((status ≡ 1) ⊎ ((status ≡ 4) ⊎ ((status ≡ 5) ⊎ ((status ≡ 8) ⊎ (status ≡ 9)))))
