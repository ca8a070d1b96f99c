-- The activation of a task (WS-HumanTask 1.1, 4.10.1).
use Rattle.std.specs.Prelude.{ℕ, List, [], ◌∷◌, Option, Some, None}
use Rattle.ht_base.specs.declared.state.State.{State}
use Rattle.ht_base.specs.declared.state.State.TheVariants.{Reserved, Ready}
use Rattle.ht_tree.specs.declared.row.Row.{Row}

-- What the potential owners make of a task that nobody owns: one of them gets it, several may claim it.
abbrev pub state_by : List ℕ → State → State
state_by [] state = state
state_by (p ∷ []) state = Reserved
state_by (p ∷ q ∷ ps) state = Ready

abbrev pub owner_by : List ℕ → Option ℕ
owner_by [] = None
owner_by (p ∷ []) = Some p
owner_by (p ∷ q ∷ ps) = None

-- A row is activated to a state and an owner. It waits no more.
abbrev pub activated_to : State → Option ℕ → Row → Row
activated_to state owner row = record row { state = state; owner = owner; waits = None }
