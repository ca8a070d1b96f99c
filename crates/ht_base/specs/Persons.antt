-- Sets of persons, as lists in ascending order without repeats.
use Rattle.std.specs.Prelude.{ℕ, ◌+◌, ◌<◌, ◌≤◌, ◌==◌, Bool, List, [], ◌∷◌}
use Rattle.std.specs.List.{list_any}

-- the numbers ascend without repeats, from this one on
abbrev pub AscendsFrom : ℕ → List ℕ → Type 0
AscendsFrom n [] = Unit {0}
AscendsFrom n (p ∷ ps) = (n ≤ p) × AscendsFrom (p + 1) ps

abbrev pub Ascends : List ℕ → Type 0
Ascends ps = AscendsFrom 0 ps

-- each is below this one
abbrev pub AllBelow : ℕ → List ℕ → Type 0
AllBelow n [] = Unit {0}
AllBelow n (p ∷ ps) = (p < n) × AllBelow n ps

-- the person is one of them
abbrev pub has : ℕ → List ℕ → Bool
has person ps = list_any (λ p. p == person) ps
