-- The sets of roles and of states that are gathered row by row are those of the definitions.
use Rattle.std.proofs.Common.{◌≡◌, Bool, true, false, ◌&&◌, ◌||◌, List, [], ◌∷◌, fold, refl, sym, ap, ◌∙◌, if◌then◌else◌}
use Rattle.ht_base.specs.declared.role.Role.{Role}
use Rattle.ht_base.specs.declared.role.Role.TheVariants.{Initiator, Stakeholder, PotentialOwner, ActualOwner, Administrator, Operator}
use Rattle.ht_base.specs.declared.role.Roles.{Roles}
use Rattle.ht_base.specs.declared.state.State.{State}
use Rattle.ht_base.specs.declared.state.State.TheVariants.{Created, Ready, Reserved, InProgress, SuspendedReady, SuspendedReserved, SuspendedInProgress, Completed, Failed, Error, Exited, Obsolete}
use Rattle.ht_base.specs.declared.state.StateSet.{StateSet}
use Rattle.ht_base.specs.Role.{contains_role, no_roles}
use Rattle.ht_base.specs.State.{contains_state, no_states}
use Rattle.ht_rules.specs.declared.allowances.Allowance.{Allowance}
use Rattle.ht_rules.specs.Judging.{is_allowed, is_named}
use Rattle.ht_rules.specs.Sets.{join_roles, join_states, roles_where, share_role, states_where}

abbrev pub needed_from : Roles → List Allowance → Roles
needed_from set rows = fold (λ set a. join_roles set a.0) set rows

abbrev pub allowed_from : Roles → StateSet → List Allowance → StateSet
allowed_from roles set rows = fold (λ set a. if share_role a.0 roles then join_states set a.1 else set) set rows

or_more : (a b c : Bool) → ((a || b) || c) ≡ (a || (b || c))
or_more true b c = refl
or_more false b c = refl

-- sets with the same roles are the same
same_roles : (a b : Roles) → ((role : Role) → contains_role a role ≡ contains_role b role) → a ≡ b
same_roles a b h = λ i. record {
  initiator = h Initiator i;
  stakeholder = h Stakeholder i;
  potential_owner = h PotentialOwner i;
  actual_owner = h ActualOwner i;
  administrator = h Administrator i;
  operator = h Operator i;
}

-- sets with the same states are the same
same_states : (a b : StateSet) → ((state : State) → contains_state a state ≡ contains_state b state) → a ≡ b
same_states a b h = λ i. record {
  created = h Created i;
  ready = h Ready i;
  reserved = h Reserved i;
  in_progress = h InProgress i;
  suspended_ready = h SuspendedReady i;
  suspended_reserved = h SuspendedReserved i;
  suspended_in_progress = h SuspendedInProgress i;
  completed = h Completed i;
  failed = h Failed i;
  error = h Error i;
  exited = h Exited i;
  obsolete = h Obsolete i;
}

role_joined : (a b : Roles) (role : Role) → contains_role (join_roles a b) role ≡ (contains_role a role || contains_role b role)
role_joined a b Initiator = refl
role_joined a b role = refl

state_joined : (a b : StateSet) (state : State) → contains_state (join_states a b) state ≡ (contains_state a state || contains_state b state)
state_joined a b Created = refl
state_joined a b state = refl

role_where : (test : Role → Bool) (role : Role) → contains_role (roles_where test) role ≡ test role
role_where test Initiator = refl
role_where test role = refl

pub state_where : (test : State → Bool) (state : State) → contains_state (states_where test) state ≡ test state
state_where test Created = refl
state_where test state = refl

no_role : (role : Role) → contains_role no_roles role ≡ false
no_role Initiator = refl
no_role role = refl

no_state : (state : State) → contains_state no_states state ≡ false
no_state Created = refl
no_state state = refl

needed_has : (set : Roles) (rows : List Allowance) (role : Role) → contains_role (needed_from set rows) role ≡ (contains_role set role || is_named rows role)
needed_has set [] role = at (contains_role set role)
  where
    at : (b : Bool) → b ≡ (b || false)
    at true = refl
    at false = refl
needed_has set (a ∷ rows) role =
    needed_has (join_roles set a.0) rows role
    ∙ ap (λ (b : Bool). b || is_named rows role) (role_joined set a.0 role)
    ∙ or_more (contains_role set role) (contains_role a.0 role) (is_named rows role)

pub needed_is : (rows : List Allowance) → needed_from no_roles rows ≡ roles_where (is_named rows)
needed_is rows =
    same_roles (needed_from no_roles rows) (roles_where (is_named rows)) (λ role.
    needed_has no_roles rows role
    ∙ ap (λ (b : Bool). b || is_named rows role) (no_role role)
    ∙ sym (role_where (is_named rows) role))

allowed_has : (roles : Roles) (set : StateSet) (rows : List Allowance) (state : State) → contains_state (allowed_from roles set rows) state ≡ (contains_state set state || is_allowed rows roles state)
allowed_has roles set [] state = at (contains_state set state)
  where
    at : (b : Bool) → b ≡ (b || false)
    at true = refl
    at false = refl
allowed_has roles set (a ∷ rows) state = at (share_role a.0 roles) (allowed_has roles (join_states set a.1) rows state) (allowed_has roles set rows state)
  where
    at : (b : Bool) → contains_state (allowed_from roles (join_states set a.1) rows) state ≡ (contains_state (join_states set a.1) state || is_allowed rows roles state) → contains_state (allowed_from roles set rows) state ≡ (contains_state set state || is_allowed rows roles state) → contains_state (allowed_from roles (if b then join_states set a.1 else set) rows) state ≡ (contains_state set state || ((b && contains_state a.1 state) || is_allowed rows roles state))
    at true more rest =
        more
        ∙ ap (λ (b : Bool). b || is_allowed rows roles state) (state_joined set a.1 state)
        ∙ or_more (contains_state set state) (contains_state a.1 state) (is_allowed rows roles state)
    at false more rest = rest

pub allowed_is : (roles : Roles) (rows : List Allowance) → allowed_from roles no_states rows ≡ states_where (is_allowed rows roles)
allowed_is roles rows =
    same_states (allowed_from roles no_states rows) (states_where (is_allowed rows roles)) (λ state.
    allowed_has roles no_states rows state
    ∙ ap (λ (b : Bool). b || is_allowed rows roles state) (no_state state)
    ∙ sym (state_where (is_allowed rows roles) state))
