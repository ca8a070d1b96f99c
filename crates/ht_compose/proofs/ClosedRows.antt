-- What closing and skipping change of a row: where it stands stays, and a task that has ended stays so.
use Rattle.std.proofs.Common.{◌≡◌, ℕ, ◌==◌, Bool, true, false, if◌then◌else◌, List, refl, ap, ◌∙◌, eq-eqb}
use Rattle.ht_base.specs.declared.state.State.{State}
use Rattle.ht_base.specs.declared.state.State.TheVariants.{Obsolete}
use Rattle.ht_compose.specs.Downward.{closed, end_below, ended}
use Rattle.ht_compose.specs.Families.{is_above}
use Rattle.ht_tree.proofs.PublicLaws.{standing}
use Rattle.ht_tree.specs.declared.row.Row.{Row}
use Rattle.ht_base.specs.State.{is_final}

ended_stands : (end : State) (row : Row) → standing (ended end row) ≡ standing row
ended_stands end row = cases (is_final row.state)
  where
    cases : (b : Bool) → standing (if b then row else closed end row) ≡ standing row
    cases true = refl
    cases false = refl

ended_stays : (end : State) (row : Row) → is_final row.state ≡ true → is_final (ended end row).state ≡ true
ended_stays end row is = ap (λ (b : Bool). is_final (if b then row else closed end row).state) is ∙ is

-- ---- each row that is closed or skipped

abbrev pub skipped : ℕ → List Row → Row → Row
skipped task rows row = if is_above rows task row then ended Obsolete row else row

abbrev pub shut : State → ℕ → List Row → Row → Row
shut end task rows row = if row.task.0 == task then ended end row else (if is_above rows task row then ended (end_below end) row else row)

below_stands : (b : Bool) (end : State) (row : Row) → standing (if b then ended end row else row) ≡ standing row
below_stands true end row = ended_stands end row
below_stands false end row = refl

below_stays : (b : Bool) (end : State) (row : Row) → is_final row.state ≡ true → is_final (if b then ended end row else row).state ≡ true
below_stays true end row is = ended_stays end row is
below_stays false end row is = is

pub skipped_stands : (task : ℕ) (rows : List Row) (row : Row) → standing (skipped task rows row) ≡ standing row
skipped_stands task rows row = below_stands (is_above rows task row) Obsolete row

pub skipped_stays : (task : ℕ) (rows : List Row) (row : Row) → is_final row.state ≡ true → is_final (skipped task rows row).state ≡ true
skipped_stays task rows row is = below_stays (is_above rows task row) Obsolete row is

pub shut_stands : (end : State) (task : ℕ) (rows : List Row) (row : Row) → standing (shut end task rows row) ≡ standing row
shut_stands end task rows row = cases (row.task.0 == task)
  where
    cases : (b : Bool) → standing (if b then ended end row else (if is_above rows task row then ended (end_below end) row else row)) ≡ standing row
    cases true = ended_stands end row
    cases false = below_stands (is_above rows task row) (end_below end) row

pub shut_stays : (end : State) (task : ℕ) (rows : List Row) (row : Row) → is_final row.state ≡ true → is_final (shut end task rows row).state ≡ true
shut_stays end task rows row is = cases (row.task.0 == task)
  where
    cases : (b : Bool) → is_final (if b then ended end row else (if is_above rows task row then ended (end_below end) row else row)).state ≡ true
    cases true = ended_stays end row is
    cases false = below_stays (is_above rows task row) (end_below end) row is

-- the task itself has ended then
pub shut_ends : (end : State) (rows : List Row) (row : Row) → is_final end ≡ true → is_final row.state ≡ false → is_final (shut end row.task.0 rows row).state ≡ true
shut_ends end rows row final live =
    ap (λ (b : Bool). is_final (if b then ended end row else (if is_above rows row.task.0 row then ended (end_below end) row else row)).state) (eq-eqb row.task.0 row.task.0 refl)
    ∙ ap (λ (b : Bool). is_final (if b then row else closed end row).state) live
    ∙ final
