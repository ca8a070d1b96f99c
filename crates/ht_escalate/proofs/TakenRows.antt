-- What a deadline that is taken leaves of its task.
use Rattle.std.proofs.Common.{◌≡◌, ℕ, ◌==◌, nat_lt, Bool, true, false, ◌||◌, not, if◌then◌else◌, List, [], ◌∷◌, ◌++◌, filter, Option, None, Some, refl, sym, ap, ◌∙◌, arith}
use Rattle.std.proofs.lemmas.Bool.Decides.{nat_tests}
use Rattle.ht_base.specs.declared.state.State.{State}
use Rattle.ht_base.specs.declared.state.State.TheVariants as state
use Rattle.ht_base.specs.Persons.{has}
pub use Rattle.ht_escalate.specs.Leaving.{IsKept}
use Rattle.ht_escalate.specs.Escalating.{first_reassignment, given_to, reassigned_by, state_then, taken_row, taken_with}
use Rattle.ht_expr.specs.Assignments.{Assignment, is_individual}
use Rattle.ht_models.specs.Model.{DeadlineOf, ModelOf}
use Rattle.ht_people.specs.Directory.{DirectoryOf}
use Rattle.ht_tree.specs.declared.row.Row.{Row}
use Rattle.ht_finding.specs.Assigning.{potential_owners, Sight}
use Rattle.ht_tree.specs.Creating.{seen_in}
use Rattle.ht_base.specs.State.{is_final}
use Rattle.ht_tree.specs.Soundness.{is_created, is_suspended}
use Rattle.ht_tree.specs.Tables.{TablesOf, directory}

itself : (row : Row) → IsKept row row
itself row = record { task = refl; parent = refl; model = refl; input = refl; created = refl; started = refl; ended = refl; waits = refl; until = refl; rest = refl }

state_ends : (s : State) → is_final (state_then s) ≡ is_final s
state_ends state.Created = refl
state_ends state.Ready = refl
state_ends state.Reserved = refl
state_ends state.InProgress = refl
state_ends state.SuspendedReady = refl
state_ends state.SuspendedReserved = refl
state_ends state.SuspendedInProgress = refl
state_ends state.Completed = refl
state_ends state.Failed = refl
state_ends state.Error = refl
state_ends state.Exited = refl
state_ends state.Obsolete = refl

given : (row : Row) (by_group : Bool) (ps : List ℕ) → IsKept row (given_to row by_group ps)
given row by_group [] = itself row
given row by_group (p ∷ ps) = record { task = refl; parent = refl; model = refl; input = refl; created = refl; started = refl; ended = state_ends row.state; waits = refl; until = refl; rest = refl }

by : (d : DirectoryOf) (s : Sight) (row : Row) (a : Option Assignment) → IsKept row (reassigned_by d s row a)
by d s row None = itself row
by d s row (Some a) = given row (not (is_individual a)) (potential_owners d s a row.excluded_owners)

-- and so it is with the deadline among those that were taken
pub taken_is_kept : (u : TablesOf) (row : Row) (m : ModelOf) (d : DeadlineOf) (place : ℕ) → IsKept row (taken_row u row m d place)
taken_is_kept u row m d place =
    let s = seen_in m u.rows row in
    let k = by (directory u) s row (first_reassignment s d) in
    record { task = k.task; parent = k.parent; model = k.model; input = k.input; created = k.created; started = k.started; ended = k.ended; waits = k.waits; until = k.until; rest = ap (λ (x : Row). record x { taken = taken_with place row.taken }) k.rest }

-- ---- the deadlines that were taken

has_append : (p : ℕ) (xs ys : List ℕ) → has p (xs ++ ys) ≡ (has p xs || has p ys)
has_append p [] ys = refl
has_append p (x ∷ xs) ys = ap (λ b. (x == p) || b) (has_append p xs ys) ∙ turn (x == p) (has p xs) (has p ys)
  where
    turn : (a b c : Bool) → (a || (b || c)) ≡ ((a || b) || c)
    turn true b c = refl
    turn false b c = refl

has_filter : (test : ℕ → Bool) (p : ℕ) (xs : List ℕ) → test p ≡ true → has p xs ≡ true → has p (filter test xs) ≡ true
has_filter test p [] passed h = h
has_filter test p (x ∷ xs) passed h = go (test x) refl (x == p) refl (λ t. has_filter test p xs passed t)
  where
    go : (b : Bool) → test x ≡ b → (c : Bool) → (x == p) ≡ c → (has p xs ≡ true → has p (filter test xs) ≡ true) → has p (if test x then x ∷ filter test xs else filter test xs) ≡ true
    go true e true f rest = rw (e, f) refl
    go true e false f rest = rw (e, f) (rest (ap (λ b. b || has p xs) (sym f) ∙ h))
    go false e true f rest = let same : x ≡ p = grind (arith, nat_tests) in let no_test : test p ≡ false = ap test (sym same) ∙ e in cc
    go false e false f rest = rw e (rest (ap (λ b. b || has p xs) (sym f) ∙ h))

-- it is among them
pub taken_has_it : (place : ℕ) (taken : List ℕ) → has place (taken_with place taken) ≡ true
taken_has_it place taken =
    has_append place (filter (λ p. nat_lt p place) taken) (place ∷ filter (λ p. nat_lt place p) taken)
    ∙ ap (λ b. has place (filter (λ p. nat_lt p place) taken) || (b || has place (filter (λ p. nat_lt place p) taken))) (let e : (place == place) ≡ true = grind (arith, nat_tests) in e)
    ∙ always (has place (filter (λ p. nat_lt p place) taken))
  where
    always : (b : Bool) → (b || true) ≡ true
    always true = refl
    always false = refl

-- and so are those that were
pub taken_has_more : (place p : ℕ) (taken : List ℕ) → has p taken ≡ true → has p (taken_with place taken) ≡ true
taken_has_more place p taken h =
    has_append p (filter (λ q. nat_lt q place) taken) (place ∷ filter (λ q. nat_lt place q) taken) ∙ go (nat_lt p place) refl (place == p) refl
  where
    low : Bool
    low = has p (filter (λ q. nat_lt q place) taken)

    high : Bool
    high = has p (filter (λ q. nat_lt place q) taken)

    always : (b : Bool) → (b || true) ≡ true
    always true = refl
    always false = refl

    go : (a : Bool) → nat_lt p place ≡ a → (b : Bool) → (place == p) ≡ b → (low || ((place == p) || high)) ≡ true
    go true e b f = ap (λ x. x || ((place == p) || high)) (has_filter (λ q. nat_lt q place) p taken e h)
    go false e true f = ap (λ x. low || (x || high)) f ∙ always low
    go false e false f =
        let above : nat_lt place p ≡ true = grind (arith, nat_tests) in
        ap (λ x. low || (x || high)) f ∙ ap (λ x. low || x) (has_filter (λ q. nat_lt place q) p taken above h) ∙ always low

-- ---- the state

-- who is given a task leaves it created, or suspended
created_still : (s : State) → is_created s ≡ true → is_created (state_then s) ≡ true
created_still state.Created h = h
created_still s h = cc

suspended_still : (s : State) → is_suspended s ≡ true → is_suspended (state_then s) ≡ true
suspended_still state.SuspendedReady h = h
suspended_still state.SuspendedReserved h = refl
suspended_still state.SuspendedInProgress h = refl
suspended_still s h = cc

-- a task that is created or suspended is so still
abbrev pub StaysSo : Row → Row → Type 0
StaysSo old new = (is_created old.state ≡ true → is_created new.state ≡ true) × (is_suspended old.state ≡ true → is_suspended new.state ≡ true)

given_so : (row : Row) (by_group : Bool) (ps : List ℕ) → StaysSo row (given_to row by_group ps)
given_so row by_group [] = (λ h. h, λ h. h)
given_so row by_group (p ∷ ps) = (created_still row.state, suspended_still row.state)

by_so : (d : DirectoryOf) (s : Sight) (row : Row) (a : Option Assignment) → StaysSo row (reassigned_by d s row a)
by_so d s row None = (λ h. h, λ h. h)
by_so d s row (Some a) = given_so row (not (is_individual a)) (potential_owners d s a row.excluded_owners)

pub taken_stays_so : (u : TablesOf) (row : Row) (m : ModelOf) (d : DeadlineOf) (place : ℕ) → StaysSo row (taken_row u row m d place)
taken_stays_so u row m d place =
    let s = seen_in m u.rows row in
    by_so (directory u) s row (first_reassignment s d)
