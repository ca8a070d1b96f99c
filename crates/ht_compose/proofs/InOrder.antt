-- Rows that are in order, and changes that leave them so and make no task that wasn't counted.
use Rattle.std.proofs.Common.{◌≡◌, ℕ, ◌+◌, ◌<◌, ◌≤◌, ◌==◌, Bool, true, false, if◌then◌else◌, List, length, map, Option, Some, None, option_map, IsTrue, is_some, refl, sym, ap, subst, ◌∙◌, arith}
use Rattle.ht_base.specs.declared.operation.Op.TheVariants.{Resume, Suspend}
use Rattle.ht_base.specs.declared.state.State.{State}
use Rattle.ht_base.specs.declared.state.State.TheVariants.{Created, InProgress, Obsolete, Ready, Reserved}
use Rattle.ht_base.specs.State.{contains_state, is_final}
use Rattle.ht_compose.proofs.ClosedRows.{shut, skipped}
use Rattle.ht_compose.proofs.OneRow.{one}
use Rattle.ht_compose.specs.Downward.{closed, end_below, ended, freed, held, moved_by}
use Rattle.ht_compose.specs.Families.{is_above}
use Rattle.ht_compose.specs.Items.{activated, activated_as}
use Rattle.ht_models.specs.Model.{ModelOf}
use Rattle.ht_rules.specs.States.{opened}
use Rattle.ht_tree.proofs.PublicLaws.{row_at-map, row_at-put_in}
use Rattle.ht_tree.specs.declared.row.Row.{Row}
use Rattle.ht_tree.specs.Families.{to_come}
use Rattle.ht_tree.specs.Plans.{IsNext}
use Rattle.ht_tree.specs.Rows.{row_at}
use Rattle.ht_tree.specs.Soundness.{is_created, is_suspended}
use Rattle.ht_tree.specs.Tables.{TablesOf, task_row, with_row, with_rows}

-- Its model is there. It waits only while it is created, and is suspended to a moment only while it is
-- suspended.
pub record IsInOrder (models : List ModelOf) (row : Row) : Type 0 where
  pub model : row.model < length models
  pub waits : IsTrue (is_some row.waits) → IsTrue (is_created row.state)
  pub until : IsTrue (is_some row.until) → IsTrue (is_suspended row.state)

-- all rows are
abbrev pub AreInOrder : TablesOf → Type 0
AreInOrder u = (task : ℕ) (row : Row) → task_row u task ≡ Some row → IsInOrder u.models row

-- the models stay, no task comes that wasn't to come before, and rows in order stay so
pub record StayInOrder (old new : TablesOf) : Type 0 where
  pub models : new.models ≡ old.models
  pub counted : length new.rows + to_come new.models new.rows ≤ length old.rows + to_come old.models old.rows
  pub rows : AreInOrder old → AreInOrder new

-- they stay so where nothing changes, and by one change after another
pub order_before : (u : TablesOf) → StayInOrder u u
order_before u = record { models = refl; counted = omega arith; rows = λ all. all }

pub order_then : (u v w : TablesOf) → StayInOrder u v → StayInOrder v w → StayInOrder u w
order_then u v w a b = record {
  models = b.models ∙ a.models;
  counted = let first = a.counted in let second = b.counted in omega (arith, first, second);
  rows = λ all. b.rows (a.rows all);
}

-- ---- rows that are put, or changed each in its place

-- one that is put
pub put_in_order : (u : TablesOf) (row : Row) → IsNext u.rows row → IsInOrder u.models row → AreInOrder u → AreInOrder (with_row u row)
put_in_order u row next new all task r is = go (row.task.0 == task) refl
  where
    found : (b : Bool) → (row.task.0 == task) ≡ b → task_row (with_row u row) task ≡ (if b then Some row else task_row u task)
    found b test = row_at-put_in u.rows row task next ∙ ap (λ (c : Bool). if c then Some row else row_at task u.rows) test

    go : (b : Bool) → (row.task.0 == task) ≡ b → IsInOrder u.models r
    go true test =
        let P : Row → Type 0 = λ x. IsInOrder u.models x in
        subst P (one (task_row (with_row u row) task) row r (found true test) is) new
    go false test = all task r (sym (found false test) ∙ is)

-- and each in its place
pub map_in_order : (u : TablesOf) (f : Row → Row) → ((row : Row) → IsInOrder u.models row → IsInOrder u.models (f row)) → AreInOrder u → AreInOrder (with_rows u (map f u.rows))
map_in_order u f keeps all task r is = go (row_at task u.rows) refl (sym (row_at-map f u.rows task) ∙ is)
  where
    go : (o : Option Row) → row_at task u.rows ≡ o → option_map f (row_at task u.rows) ≡ Some r → IsInOrder u.models r
    go None at is = absurd (let none : option_map f (row_at task u.rows) ≡ None = ap (option_map f) at in cc)
    go (Some row) at is =
        let some : Some (f row) ≡ Some r = sym (ap (option_map f) at) ∙ is in
        let same : f row ≡ r = cc in
        let P : Row → Type 0 = λ x. IsInOrder u.models x in
        subst P same (keeps row (all task row at))

-- ---- rows that change

-- a created task isn't suspended, and a suspended one isn't created
not_both : (s : State) → is_created s ≡ true → is_suspended s ≡ true → ⊥
not_both Created a b = cc
not_both s a b = cc

-- what stays in its state, and waits and is suspended as before
pub same_in_order : (models : List ModelOf) (row new : Row) → new.model ≡ row.model → new.state ≡ row.state → new.waits ≡ row.waits → new.until ≡ row.until → IsInOrder models row → IsInOrder models new
same_in_order models row new model state waits until is = record {
  model = let low = is.model in omega (arith, model, low);
  waits = λ h. ap is_created state ∙ is.waits (sym (ap is_some waits) ∙ h);
  until = λ h. ap is_suspended state ∙ is.until (sym (ap is_some until) ∙ h);
}

-- an activated task waits no more
pub activated_in_order : (u : TablesOf) (m : ModelOf) (row : Row) → is_created row.state ≡ true → IsInOrder u.models row → IsInOrder u.models (activated u m row)
activated_in_order u m row created is = go m.owner_required
  where
    go : (b : Bool) → IsInOrder u.models (activated_as b row.potential_owners row)
    go true = record { model = is.model; waits = λ h. absurd cc; until = λ h. absurd (not_both row.state created (is.until h)) }
    go false = record { model = is.model; waits = λ h. absurd cc; until = λ h. absurd (not_both row.state created (is.until h)) }

-- nor does one that has ended
pub ended_in_order : (models : List ModelOf) (end : State) (row : Row) → IsInOrder models row → IsInOrder models (ended end row)
ended_in_order models end row is = go (is_final row.state)
  where
    go : (b : Bool) → IsInOrder models (if b then row else closed end row)
    go true = is
    go false = record { model = is.model; waits = λ h. absurd cc; until = λ h. absurd cc }

-- a task that is freed returns to the state before, and none that is created was suspended
pub freed_in_order : (models : List ModelOf) (row : Row) → IsInOrder models row → IsInOrder models (freed row)
freed_in_order models row is = go (is_suspended row.state) refl
  where
    go : (b : Bool) → is_suspended row.state ≡ b → IsInOrder models (if b then record row { state = moved_by Resume row.state; until = None } else row)
    go true suspended = record { model = is.model; waits = λ h. absurd (not_both row.state (is.waits h) suspended); until = λ h. absurd cc }
    go false free = is

-- an opened task was neither created nor suspended
opened_alone : (s : State) → contains_state opened s ≡ true → (is_created s ≡ false) × (is_suspended s ≡ false)
opened_alone Ready h = (refl, refl)
opened_alone Reserved h = (refl, refl)
opened_alone InProgress h = (refl, refl)
opened_alone s h = cc

-- a task that is held was open, and so neither waited nor was suspended
held_in_order : (models : List ModelOf) (row : Row) → IsInOrder models row → IsInOrder models (held row)
held_in_order models row is = go (contains_state opened row.state) refl
  where
    wrong : {P : Type 0} (b : Bool) → b ≡ false → b ≡ true → P
    wrong b e h = absurd cc

    go : (b : Bool) → contains_state opened row.state ≡ b → IsInOrder models (if b then record row { state = moved_by Suspend row.state } else row)
    go true was =
        let alone = opened_alone row.state was in
        record { model = is.model; waits = λ h. wrong (is_created row.state) alone.0 (is.waits h); until = λ h. wrong (is_suspended row.state) alone.1 (is.until h) }
    go false still = is

-- where a test says so
either_in_order : (models : List ModelOf) (b : Bool) (x y : Row) → IsInOrder models x → IsInOrder models y → IsInOrder models (if b then x else y)
either_in_order models true x y a b = a
either_in_order models false x y a b = b

-- each that is below a task is skipped, or closed with it
pub skipped_in_order : (models : List ModelOf) (task : ℕ) (rows : List Row) (row : Row) → IsInOrder models row → IsInOrder models (skipped task rows row)
skipped_in_order models task rows row is = either_in_order models (is_above rows task row) (ended Obsolete row) row (ended_in_order models Obsolete row is) is

pub shut_in_order : (models : List ModelOf) (end : State) (task : ℕ) (rows : List Row) (row : Row) → IsInOrder models row → IsInOrder models (shut end task rows row)
shut_in_order models end task rows row is =
    let below = if is_above rows task row then ended (end_below end) row else row in
    either_in_order models (row.task.0 == task) (ended end row) below (ended_in_order models end row is)
    (either_in_order models (is_above rows task row) (ended (end_below end) row) row (ended_in_order models (end_below end) row is) is)

-- each that is below a task is freed, or held
pub below_in_order : (models : List ModelOf) (task : ℕ) (rows : List Row) (row : Row) → IsInOrder models row → IsInOrder models (if is_above rows task row then freed row else row)
below_in_order models task rows row is = either_in_order models (is_above rows task row) (freed row) row (freed_in_order models row is) is

pub held_below_in_order : (models : List ModelOf) (task : ℕ) (rows : List Row) (row : Row) → IsInOrder models row → IsInOrder models (if is_above rows task row then held row else row)
held_below_in_order models task rows row is = either_in_order models (is_above rows task row) (held row) row (held_in_order models row is) is
