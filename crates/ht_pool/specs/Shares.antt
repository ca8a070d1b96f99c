-- How the workers share the connections.
use Rattle.std.specs.Prelude.{ℕ, zero, suc, ◌+◌, ◌/◌, ◌%◌, cond, nat_lt, List, [], ◌∷◌, ◌++◌}

-- what the worker at this place, counted from 0, takes of so many connections
abbrev pub share_of : ℕ → ℕ → ℕ → ℕ
share_of workers connections place = connections / workers + cond (nat_lt place (connections % workers)) 1 0

-- what the first so many workers take, each
abbrev pub shares_to : ℕ → ℕ → ℕ → List ℕ
shares_to workers connections zero = []
shares_to workers connections (suc k) = shares_to workers connections k ++ share_of workers connections k ∷ []
