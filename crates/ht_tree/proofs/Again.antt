-- A changed row in its task's place.
use Rattle.std.proofs.Common.{◌≡◌, ℕ, Bool, if◌then◌else◌, Option, Some, ap, ◌∙◌, eq-eqb, arith}
use Rattle.ht_base.specs.declared.task_id.TaskId.{TaskId}
use Rattle.ht_tree.specs.declared.row.Row.{Row}
use Rattle.ht_base.specs.State.{is_final}
use Rattle.ht_tree.specs.Plans.{IsNext, KeepsFile, Lends, Replaces, planned, PlanOf}
use Rattle.ht_tree.specs.Rows.{row_at}
use Rattle.ht_tree.specs.Soundness.{IsSound, IsSoundRow, KeepsSound}
use Rattle.ht_tree.specs.Tables.{TablesOf, task_row, with_row}
use Rattle.ht_tree.proofs.Families.{standing}
use Rattle.ht_tree.proofs.Filing.{file_of}
use Rattle.ht_tree.proofs.Putting.{row_at-put_in}
use Rattle.ht_tree.proofs.Sounding.{put_sound, within}

-- the task, its parent and its model
abbrev pub filed_of : Row → TaskId × Option (TaskId × ℕ) × ℕ
filed_of row = (row.task, row.parent, row.model)

pub record IsPutAgain (u : TablesOf) (task : ℕ) (row new : Row) : Type 0 where
  pub number : new.task.0 ≡ task
  pub next : IsNext u.rows new
  pub file : KeepsFile u.rows new
  pub keeps : KeepsSound u (with_row u new)
  pub found : task_row (with_row u new) task ≡ Some new

pub put_again_of : (u : TablesOf) (task : ℕ) (row new : Row) → task_row u task ≡ Some row → row.task.0 ≡ task → filed_of new ≡ filed_of row → is_final row.state ≡ is_final new.state → (IsSoundRow u row → IsSoundRow u new) → IsPutAgain u task row new
put_again_of u task row new there number filed ends sound_after =
    let same : new.task.0 ≡ task = ap (λ f. f.0.0) filed ∙ number in
    let w = within u.rows row task there in
    let next : IsNext u.rows new = (let low = w.0 in omega arith, let high = w.1 in omega arith) in
    let place : Replaces u.rows new = record { before = row; there = ap (λ (n : ℕ). row_at n u.rows) same ∙ there; parent = ap (λ f. f.1) filed; model = ap (λ f. f.2) filed } in
    record {
      number = same;
      next = next;
      file = file_of u.rows new row task same there place.parent place.model;
      keeps = λ sound. put_sound u new sound (sound_after (sound.rows_sound task row there)) place ends;
      found = row_at-put_in u.rows new task next ∙ ap (λ (b : Bool). if b then Some new else row_at task u.rows) (eq-eqb new.task.0 task same);
    }

-- a row that was taken out of a plan and comes back
pub lent_file : (t : TablesOf) (old taken : PlanOf) (task : ℕ) (row new : Row) → IsSound (planned t old) → Lends t old taken task → task_row (planned t old) task ≡ Some row → standing new ≡ standing row → KeepsFile (planned t taken).rows new
lent_file t old taken task row new sound lends there stands =
    let same : new.task.0 ≡ task = ap (λ s. s.0) stands ∙ sound.numbered task row there in
    lends.file new same (file_of (planned t old).rows new row task same there (ap (λ s. s.1.0) stands) (ap (λ s. s.1.1) stands))
