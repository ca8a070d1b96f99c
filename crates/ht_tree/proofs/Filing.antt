-- Rows that keep the parent and the model of each task.
use Rattle.std.proofs.Common.{◌≡◌, ℕ, ◌+◌, suc, ◌==◌, length, Bool, true, false, if◌then◌else◌, List, Option, None, Some, IfSome, refl, sym, ap, subst, ◌∙◌, arith}
use Rattle.std.proofs.lemmas.Bool.{eqb-true}
use Rattle.std.proofs.lemmas.Option.{slice_get_past}
use Rattle.ht_tree.specs.declared.row.Row.{Row}
use Rattle.ht_tree.specs.Plans.{IsNext, KeepFiles, KeepsFile}
use Rattle.ht_tree.specs.Rows.{put_in, row_at}
use Rattle.ht_tree.proofs.Putting.{row_at-put_in}

abbrev HasFile : Row → Option Row → Type 0
HasFile row o = IfSome o (λ before. (row.parent ≡ before.parent) × (row.model ≡ before.model))

-- a row that comes where this one is
pub file_of : (rows : List Row) (row there : Row) (task : ℕ) → row.task.0 ≡ task → row_at task rows ≡ Some there → row.parent ≡ there.parent → row.model ≡ there.model → KeepsFile rows row
file_of rows row there task same at parent model =
    let N : ℕ → Type 0 = λ n. HasFile row (row_at n rows) in
    subst N (sym same) (subst (HasFile row) (sym at) (parent, model))

pub file_there : (rows : List Row) (row there : Row) (task : ℕ) → row.task.0 ≡ task → row_at task rows ≡ Some there → KeepsFile rows row → (row.parent ≡ there.parent) × (row.model ≡ there.model)
file_there rows row there task same at keeps =
    let N : ℕ → Type 0 = λ n. HasFile row (row_at n rows) in
    subst (HasFile row) at (subst N same keeps)

-- of a task that isn't there yet
pub no_file : (rows : List Row) (row : Row) (task : ℕ) → row.task.0 ≡ task → row_at task rows ≡ None → KeepsFile rows row
no_file rows row task same at =
    let N : ℕ → Type 0 = λ n. HasFile row (row_at n rows) in
    subst N (sym same) (subst (HasFile row) (sym at) tt)

-- of the task behind all
pub next_file : (rows : List Row) (row : Row) → row.task.0 ≡ length rows + 1 → KeepsFile rows row
next_file rows row same =
    let n : row.task.0 ≡ suc (length rows) = same ∙ omega arith in
    no_file rows row (suc (length rows)) n (slice_get_past rows (length rows) (omega arith))

pub files_itself : (rows : List Row) → KeepFiles rows rows
files_itself rows task before at = (before, at, refl, refl)

pub files_then : (a b c : List Row) → KeepFiles a b → KeepFiles b c → KeepFiles a c
files_then a b c first second task before at =
    let mid = first task before at in
    let last = second task mid.0 mid.1 in
    (last.0, last.1, last.2 ∙ mid.2, last.3 ∙ mid.3)

-- with one more row in its task's place
pub files_put : (old rows : List Row) (row : Row) → IsNext rows row → KeepFiles old rows → KeepsFile rows row → KeepFiles old (put_in rows row)
files_put old rows row next keep file task before at =
    let r = keep task before at in
    here (row.task.0 == task) refl r.0 r.1 r.2 r.3
  where
    here : (b : Bool) → (row.task.0 == task) ≡ b → (r : Row) → row_at task rows ≡ Some r → r.parent ≡ before.parent → r.model ≡ before.model → (after : Row) × (row_at task (put_in rows row) ≡ Some after) × (after.parent ≡ before.parent) × (after.model ≡ before.model)
    here true e r there parent model =
        let same = file_there rows row r task (eqb-true row.task.0 task e) there file in
        (row, row_at-put_in rows row task next ∙ ap (λ (b : Bool). if b then Some row else row_at task rows) e, same.0 ∙ parent, same.1 ∙ model)
    here false e r there parent model = (r, row_at-put_in rows row task next ∙ ap (λ (b : Bool). if b then Some row else row_at task rows) e ∙ there, parent, model)
