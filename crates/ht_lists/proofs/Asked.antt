-- The tasks that are listed are found among those in which the person has a role.
use Rattle.std.proofs.Common.{◌≡◌, ℕ, ◌+◌, ◌<◌, ◌≤◌, suc, Bool, true, false, cond, ◌&&◌, ◌||◌, not, List, [], ◌∷◌, ◌++◌, filter, fold, length, map, slice_get, take, Option, Some, None, refl, ap, sym, subst, ◌∙◌, arith}
use Rattle.std.specs.List.{AllByRecursion, filter_map}
use Rattle.std.proofs.lemmas.List.Elements.{All-filter, filter-append, filter_map-append, recursion_from_All}
use Rattle.std.proofs.lemmas.List.Sums.{fold-append}
use Rattle.ht_base.specs.declared.task_id.TaskId.{TaskId}
use Rattle.ht_lists.specs.declared.keys.Key.{Key}
use Rattle.ht_lists.specs.Best.{BestOf, with_key}
use Rattle.ht_base.specs.declared.query.Which.{Which}
use Rattle.ht_base.specs.declared.query.Which.TheVariants as which
use Rattle.ht_base.specs.declared.role.Role.{Role}
use Rattle.ht_base.specs.declared.role.Role.TheVariants.{Initiator, Stakeholder, PotentialOwner, ActualOwner, Administrator, Operator}
use Rattle.ht_base.specs.declared.role.Roles.{Roles}
use Rattle.ht_base.specs.declared.state.State.{State}
use Rattle.ht_base.specs.declared.state.State.TheVariants.{Created, Ready, Reserved, InProgress, SuspendedReady, SuspendedReserved, SuspendedInProgress, Completed, Failed, Error, Exited, Obsolete}
use Rattle.ht_base.specs.declared.state.StateSet.{StateSet}
use Rattle.ht_base.specs.Role.{contains_role}
use Rattle.ht_base.specs.State.{contains_state, is_final}
use Rattle.ht_rules.specs.Sets.{states_of}
use Rattle.ht_lists.specs.Keys.{key_of}
use Rattle.ht_lists.specs.Lists.{has_task_role, is_listed, is_shown}
use Rattle.ht_lists.specs.Offering.{asked_keys, asked_of_live, is_asked, is_operator, is_owner, is_live}
use Rattle.ht_tree.specs.ListedBy.{has_task_role as has_role, ids_by, is_live_of, is_person, live_rows_of, owned_by, rows_of}
use Rattle.ht_tree.specs.declared.row.Row.{Row}
use Rattle.ht_tree.specs.Roles.{roles_in}
use Rattle.ht_tree.specs.Soundness.{IsSound}
use Rattle.ht_tree.specs.Tables.{TablesOf, task_row}
use Rattle.ht_lists.proofs.RowsFound.{IsThere, all_there, few_of, length-map, map-append, row_more, there_is}

-- ---- one test behind another

and_filter : {A : Type 0} (p q : A → Bool) (xs : List A) → filter q (filter p xs) ≡ filter (λ x. p x && q x) xs
and_filter p q [] = refl
and_filter p q (x ∷ xs) = at (p x) (and_filter p q xs)
  where
    at : (a : Bool) → filter q (filter p xs) ≡ filter (λ x. p x && q x) xs
        → filter q (cond a (x ∷ filter p xs) (filter p xs)) ≡ cond (a && q x) (x ∷ filter (λ x. p x && q x) xs) (filter (λ x. p x && q x) xs)
    at true e = ap (λ l. cond (q x) (x ∷ l) l) e
    at false e = e

same_filter : {A : Type 0} (p q : A → Bool) → ((x : A) → p x ≡ q x) → (xs : List A) → filter p xs ≡ filter q xs
same_filter p q same [] = refl
same_filter p q same (x ∷ xs) = ap (λ b. cond b (x ∷ filter p xs) (filter p xs)) (same x) ∙ ap (λ l. cond (q x) (x ∷ l) l) (same_filter p q same xs)

found_rows : (t : TablesOf) (xs : List Row) → AllByRecursion (IsThere t.rows) xs → filter_map (λ id. task_row t id.0) (map (λ r. r.task) xs) ≡ xs
found_rows t [] a = refl
found_rows t (row ∷ rows) a = rw a.0 (ap (λ l. row ∷ l) (found_rows t rows a.1))

-- of the tasks of which one thing is known those are listed of which the other is true
among : (t : TablesOf) (known asked listed : Row → Bool) → IsSound t → ((row : Row) → (known row && asked row) ≡ listed row)
    → filter asked (filter_map (λ id. task_row t id.0) (map (λ r. r.task) (filter known t.rows))) ≡ filter listed t.rows
among t known asked listed sound same =
    let there = recursion_from_All (IsThere t.rows) (filter known t.rows) (All-filter known (IsThere t.rows) t.rows (all_there t sound)) in
    ap (filter asked) (found_rows t (filter known t.rows) there) ∙ and_filter known asked t.rows ∙ same_filter (λ row. known row && asked row) listed same t.rows

-- ---- what is known needn't be asked

no : {A : Type 0} → true ≡ false → A
no e = absurd (never e)
  where
    never : true ≡ false → ⊥
    never e = cc

first_is : (a b : Bool) → a ≡ true → (a || b) ≡ true
first_is a b e = rw e refl

later_is : (a b : Bool) → b ≡ true → (a || b) ≡ true
later_is true b e = refl
later_is false b e = e

-- each role that a task gives is one
in_role : (r : Roles) (role : Role) → is_operator (Some role) ≡ false → contains_role r role ≡ true → has_task_role r ≡ true
in_role r Initiator given e = first_is r.initiator _ e
in_role r Stakeholder given e = later_is r.initiator _ (first_is r.stakeholder _ e)
in_role r PotentialOwner given e = later_is r.initiator _ (later_is r.stakeholder _ (first_is r.potential_owner _ e))
in_role r ActualOwner given e = later_is r.initiator _ (later_is r.stakeholder _ (later_is r.potential_owner _ (first_is r.actual_owner _ e)))
in_role r Administrator given e = later_is r.initiator _ (later_is r.stakeholder _ (later_is r.potential_owner _ (later_is r.actual_owner _ e)))
in_role r Operator given e = no given

implied : (a c : Bool) → (c ≡ true → a ≡ true) → (a && c) ≡ c
implied true c h = refl
implied false true h = h refl
implied false false h = refl

turned : (a b : Bool) → (a && b) ≡ (b && a)
turned true true = refl
turned true false = refl
turned false true = refl
turned false false = refl

inner : (a s c : Bool) → (a && (s && c)) ≡ (s && (a && c))
inner true s c = refl
inner false true c = refl
inner false false c = refl

sides : (n a s c : Bool) → ((n && a) && (s && c)) ≡ ((n && s) && (a && c))
sides true a s c = inner a s c
sides false a s c = refl

crossed : (n a s : Bool) → ((n && a) && s) ≡ ((n && s) && a)
crossed true a s = turned a s
crossed false a s = refl

pub each_asked : (t : TablesOf) (person : ℕ) (role : Option Role) (which : Which) → IsSound t → is_operator role ≡ false
    → asked_keys t person role which (rows_of person t.rows) ≡ map key_of (filter (is_listed t person role which) t.rows)
each_asked t person role which sound given = ap (map key_of) (among t (has_role person) (is_asked t person role which) (is_listed t person role which) sound (same role given))
  where
    same : (role : Option Role) → is_operator role ≡ false → (row : Row) → (has_role person row && is_asked t person role which row) ≡ is_listed t person role which row
    same None given row = turned (has_role person row) (is_shown which row.state)
    same (Some role) given row =
        inner (has_role person row) (is_shown which row.state) (contains_role (roles_in t row person) role)
        ∙ ap (λ b. is_shown which row.state && b) (implied (has_role person row) (contains_role (roles_in t row person) role) (in_role (roles_in t row person) role given))

-- ---- no final task is in a state that isn't final

none_final : (x : StateSet) → x.completed ≡ false → x.failed ≡ false → x.error ≡ false → x.exited ≡ false → x.obsolete ≡ false
    → (s : State) → contains_state x s ≡ true → not (is_final s) ≡ true
none_final x a b c d e Created h = refl
none_final x a b c d e Ready h = refl
none_final x a b c d e Reserved h = refl
none_final x a b c d e InProgress h = refl
none_final x a b c d e SuspendedReady h = refl
none_final x a b c d e SuspendedReserved h = refl
none_final x a b c d e SuspendedInProgress h = refl
none_final x a b c d e Completed h = no (sym h ∙ a)
none_final x a b c d e Failed h = no (sym h ∙ b)
none_final x a b c d e Error h = no (sym h ∙ c)
none_final x a b c d e Exited h = no (sym h ∙ d)
none_final x a b c d e Obsolete h = no (sym h ∙ e)

only_live : (one : State) → not (is_final one) ≡ true → (s : State) → contains_state (states_of (one ∷ [])) s ≡ true → not (is_final s) ≡ true
only_live Created live = none_final (states_of (Created ∷ [])) refl refl refl refl refl
only_live Ready live = none_final (states_of (Ready ∷ [])) refl refl refl refl refl
only_live Reserved live = none_final (states_of (Reserved ∷ [])) refl refl refl refl refl
only_live InProgress live = none_final (states_of (InProgress ∷ [])) refl refl refl refl refl
only_live SuspendedReady live = none_final (states_of (SuspendedReady ∷ [])) refl refl refl refl refl
only_live SuspendedReserved live = none_final (states_of (SuspendedReserved ∷ [])) refl refl refl refl refl
only_live SuspendedInProgress live = none_final (states_of (SuspendedInProgress ∷ [])) refl refl refl refl refl
only_live Completed live = no (sym live)
only_live Failed live = no (sym live)
only_live Error live = no (sym live)
only_live Exited live = no (sym live)
only_live Obsolete live = no (sym live)

live_is : (which : Which) → is_live which ≡ true → (s : State) → (not (is_final s) && is_shown which s) ≡ is_shown which s
live_is which.Live live s = implied (not (is_final s)) (not (is_final s)) (λ e. e)
live_is which.All live s = no (sym live)
live_is (which.Only one) live s = implied (not (is_final s)) (contains_state (states_of (one ∷ [])) s) (only_live one live s)

-- nor is it asked of one that isn't final
left_is : (which : Which) → is_live which ≡ true → (s : State) → (not (is_final s) && is_shown (asked_of_live which) s) ≡ is_shown which s
left_is which.Live live s = true_behind (not (is_final s))
  where
    true_behind : (a : Bool) → (a && true) ≡ a
    true_behind true = refl
    true_behind false = refl
left_is which.All live s = no (sym live)
left_is (which.Only one) live s = live_is (which.Only one) live s

pub live_asked : (t : TablesOf) (person : ℕ) (role : Option Role) (which : Which) → IsSound t → is_operator role ≡ false → is_live which ≡ true
    → asked_keys t person role (asked_of_live which) (live_rows_of person t.rows) ≡ map key_of (filter (is_listed t person role which) t.rows)
live_asked t person role which sound given live =
    ap (map key_of) (among t (λ row. not (is_final row.state) && has_role person row) (is_asked t person role (asked_of_live which)) (is_listed t person role which) sound (same role given))
  where
    same : (role : Option Role) → is_operator role ≡ false → (row : Row)
        → ((not (is_final row.state) && has_role person row) && is_asked t person role (asked_of_live which) row) ≡ is_listed t person role which row
    same None given row =
        crossed (not (is_final row.state)) (has_role person row) (is_shown (asked_of_live which) row.state)
        ∙ ap (λ b. b && has_role person row) (left_is which live row.state)
    same (Some role) given row =
        sides (not (is_final row.state)) (has_role person row) (is_shown (asked_of_live which) row.state) (contains_role (roles_in t row person) role)
        ∙ ap (λ b. b && (has_role person row && contains_role (roles_in t row person) role)) (left_is which live row.state)
        ∙ ap (λ b. is_shown which row.state && b) (implied (has_role person row) (contains_role (roles_in t row person) role) (in_role (roles_in t row person) role given))

-- ---- one more is asked

pub asked_append : (t : TablesOf) (person : ℕ) (role : Option Role) (which : Which) (xs ys : List TaskId)
    → asked_keys t person role which (xs ++ ys) ≡ asked_keys t person role which xs ++ asked_keys t person role which ys
asked_append t person role which xs ys =
    let row_of : TaskId → Option Row = λ id. task_row t id.0 in
    ap (λ l. map key_of (filter (is_asked t person role which) l)) (filter_map-append row_of xs ys)
    ∙ ap (map key_of) (filter-append (is_asked t person role which) (filter_map row_of xs) (filter_map row_of ys))
    ∙ map-append key_of (filter (is_asked t person role which) (filter_map row_of xs)) (filter (is_asked t person role which) (filter_map row_of ys))

pub one_asked : (t : TablesOf) (person : ℕ) (role : Option Role) (which : Which) (task : ℕ) (row : Row) → task_row t task ≡ Some row
    → asked_keys t person role which (record { 0 = task } ∷ []) ≡ map key_of (filter (is_asked t person role which) (row ∷ []))
one_asked t person role which task row at = rw at refl

-- behind those that were offered came more
pub walked_on : (b : BestOf) {c d : BestOf} (xs ys : List Key) {zs : List Key} → d ≡ fold with_key c ys → c ≡ fold with_key b xs → zs ≡ xs ++ ys → d ≡ fold with_key b zs
walked_on b xs ys on so_far is =
    on ∙ ap (λ e. fold with_key e ys) so_far ∙ sym (fold-append with_key b xs ys) ∙ ap (fold with_key b) (sym is)

-- ---- a task was passed or offered, before others

module _ (t : TablesOf) (person : ℕ) (role : Option Role) (which : Which) where
  abbrev keys : List TaskId → List Key
  keys ids = asked_keys t person role which ids

  pub one_on : (a b : BestOf) (id : TaskId) (later : List TaskId) → b ≡ fold with_key a (asked_keys t person role which (id ∷ [])) → fold with_key b (asked_keys t person role which later) ≡ fold with_key a (asked_keys t person role which (id ∷ later))
  one_on a b id later is =
      ap (λ e. fold with_key e (keys later)) is ∙ sym (fold-append with_key a (keys (id ∷ [])) (keys later)) ∙ ap (fold with_key a) (sym (asked_append t person role which (id ∷ []) later))

  -- nothing is asked of it
  pub none_on : (a : BestOf) (id : TaskId) (later : List TaskId) → asked_keys t person role which (id ∷ []) ≡ [] → fold with_key a (asked_keys t person role which later) ≡ fold with_key a (asked_keys t person role which (id ∷ later))
  none_on a id later none = one_on a a id later (ap (fold with_key a) (sym none))

-- the row behind so many is one more
pub asked_row : (t : TablesOf) (person : ℕ) (role : Option Role) (which : Which) (i : ℕ) → i < length t.rows
    → map key_of (filter (is_asked t person role which) (take (i + 1) t.rows))
    ≡ map key_of (filter (is_asked t person role which) (take i t.rows)) ++ asked_keys t person role which (record { 0 = i + 1 } ∷ [])
asked_row t person role which i low = at (there_is t.rows i low)
  where
    test : Row → Bool
    test = is_asked t person role which

    at : (row : Row) × (slice_get t.rows i ≡ Some row) → map key_of (filter test (take (i + 1) t.rows)) ≡ map key_of (filter test (take i t.rows)) ++ asked_keys t person role which (record { 0 = i + 1 } ∷ [])
    at (row, here) =
        let more : suc i ≡ i + 1 = omega arith in
        let found : task_row t (i + 1) ≡ Some row = subst (λ n. task_row t n ≡ Some row) more here in
        row_more key_of test t.rows i row found
        ∙ ap (λ l. map key_of (filter test (take i t.rows)) ++ l) (sym (one_asked t person role which (i + 1) row found))

-- ---- no more than there are rows

pub few_rows : (person : ℕ) (rows : List Row) → length (rows_of person rows) ≤ length rows
few_rows person rows = omega (arith, length-map {A = Row} (λ r. r.task) (filter (has_role person) rows), few_of (has_role person) rows)

few_ids : (test : Row → Bool) (rows : List Row) → length (ids_by test rows) ≤ length rows
few_ids test rows = omega (arith, length-map {A = Row} (λ r. r.task) (filter test rows), few_of test rows)

pub few_live : (person : ℕ) (rows : List Row) → length (live_rows_of person rows) ≤ length rows
few_live person rows = few_ids (is_live_of person) rows

pub few_owned : (person : ℕ) (rows : List Row) → length (owned_by person rows) ≤ length rows
few_owned person rows = few_ids (λ row. is_person person row.owner) rows

-- ---- those that the person owns

-- whom a task is owned by is its actual owner
pub owned_asked : (t : TablesOf) (person : ℕ) (role : Option Role) (which : Which) → IsSound t → is_owner role ≡ true
    → asked_keys t person role which (owned_by person t.rows) ≡ map key_of (filter (is_listed t person role which) t.rows)
owned_asked t person None which sound own = no (sym own)
owned_asked t person (Some Initiator) which sound own = no (sym own)
owned_asked t person (Some Stakeholder) which sound own = no (sym own)
owned_asked t person (Some PotentialOwner) which sound own = no (sym own)
owned_asked t person (Some Administrator) which sound own = no (sym own)
owned_asked t person (Some Operator) which sound own = no (sym own)
owned_asked t person (Some ActualOwner) which sound own =
    ap (map key_of) (among t (λ row. is_person person row.owner) (is_asked t person (Some ActualOwner) which) (is_listed t person (Some ActualOwner) which) sound
    (λ row. implied (is_person person row.owner) (is_shown which row.state && is_person person row.owner) (second (is_shown which row.state) (is_person person row.owner))))
  where
    second : (a b : Bool) → (a && b) ≡ true → b ≡ true
    second true b e = e
    second false b e = no (sym e)
