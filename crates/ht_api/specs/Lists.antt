-- The lists by the words of their paths.
use Rattle.std.specs.Prelude.{ℕ, List, [], ◌∷◌, ◌++◌, map, Option, Some, None, bytes_eq, codes, if◌then◌else◌}
use Rattle.ht_base.specs.declared.query.Which.{Which}
use Rattle.ht_base.specs.declared.query.Which.TheVariants.{Live, All, Only}
use Rattle.ht_base.specs.declared.role.Role.{Role}
use Rattle.ht_base.specs.declared.role.Role.TheVariants.{Initiator, Stakeholder, PotentialOwner, ActualOwner, Administrator}
use Rattle.ht_base.specs.declared.state.State.{State}
use Rattle.ht_base.specs.Role.{role_name}
use Rattle.ht_base.specs.State.{all_states, state_name}

-- the one of this name
abbrev pub of_name : {A : Type 0} → (A → List ℕ) → List A → List ℕ → Option A
of_name name [] text = None
of_name name (a ∷ later) text = if bytes_eq text (name a) then Some a else of_name name later text

-- `any`, or a role that persons have in a task; an operator has none
abbrev pub role_choice : Option Role → List ℕ
role_choice None = codes "any"
role_choice (Some role) = role_name role

abbrev pub role_choices : List (Option Role)
role_choices = None ∷ Some Initiator ∷ Some Stakeholder ∷ Some PotentialOwner ∷ Some ActualOwner ∷ Some Administrator ∷ []

abbrev pub role_asked : List ℕ → Option (Option Role)
role_asked text = of_name role_choice role_choices text

-- `live`, `all` or a state
abbrev pub which_choice : Which → List ℕ
which_choice Live = codes "live"
which_choice All = codes "all"
which_choice (Only state) = state_name state

abbrev pub which_choices : List Which
which_choices = Live ∷ All ∷ map Only all_states

abbrev pub which_asked : List ℕ → Option Which
which_asked text = of_name which_choice which_choices text
