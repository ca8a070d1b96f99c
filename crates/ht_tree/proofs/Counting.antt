-- The tasks of all trees, when a row is changed or put behind.
use Rattle.std.proofs.Common.{◌≡◌, ℕ, ◌+◌, ◌-◌, ◌<◌, ◌≤◌, zero, suc, List, [], ◌∷◌, ◌++◌, length, Option, Some, None, refl, ap, ◌∙◌, arith}
use Rattle.std.specs.Prelude.{slice_get, slice_set}
use Rattle.std.proofs.Common.{inl, inr}
use Rattle.std.proofs.lemmas.Bool.{cases_lt}
use Rattle.std.proofs.lemmas.Option.{slice_get-get_or, slice_get_past}
use Rattle.ht_tree.specs.Plans.{IsNext}
use Rattle.ht_tree.specs.Rows.{put_in, row_at}
use Rattle.ht_tree.proofs.Putting.{put_new, put_old}
use Rattle.ht_models.specs.Model.{ModelOf}
use Rattle.ht_tree.specs.declared.row.Row.{Row}
use Rattle.ht_tree.specs.Puts.{IsResized}
use Rattle.ht_tree.specs.Sizes.{top_size, total_size}

pub total_set : (models : List ModelOf) (rows : List Row) (i : ℕ) (old row : Row) → slice_get rows i ≡ Some old → total_size models (slice_set rows i row) + top_size models old ≡ total_size models rows + top_size models row
total_set models [] i old row at = cc
total_set models (r ∷ rows) zero old row at =
    let same : r ≡ old = cc in
    let size : top_size models r ≡ top_size models old = ap (λ (x : Row). top_size models x) same in
    omega arith
total_set models (r ∷ rows) (suc i) old row at = let rest = total_set models rows i old row at in omega arith

pub total_push : (models : List ModelOf) (rows : List Row) (row : Row) → total_size models (rows ++ row ∷ []) ≡ total_size models rows + top_size models row
total_push models [] row = omega arith
total_push models (r ∷ rows) row = let rest = total_push models rows row in omega arith

pub top_within : (models : List ModelOf) (rows : List Row) (i : ℕ) (row : Row) → slice_get rows i ≡ Some row → top_size models row ≤ total_size models rows
top_within models [] i row at = cc
top_within models (r ∷ rows) zero row at =
    let same : r ≡ row = cc in
    let size : top_size models r ≡ top_size models row = ap (λ (x : Row). top_size models x) same in
    omega arith
top_within models (r ∷ rows) (suc i) row at = let rest = top_within models rows i row at in omega arith

-- ---- one row put

resized_there : (models : List ModelOf) (rows : List Row) (i : ℕ) (row : Row) (o : Option Row) → slice_get rows i ≡ o → i < length rows → put_in rows row ≡ slice_set rows i row → IsResized models (total_size models rows) row o (total_size models (put_in rows row))
resized_there models rows i row None is within old = let some = slice_get-get_or rows i row within in cc
resized_there models rows i row (Some r) is within old =
    let total = total_set models rows i r row is in
    let same = ap (λ (l : List Row). total_size models l) old in
    omega arith

resized_at : (models : List ModelOf) (rows : List Row) (row : Row) (n : ℕ) → n ≡ row.task.0 → IsNext rows row → IsResized models (total_size models rows) row (row_at n rows) (total_size models (put_in rows row))
resized_at models rows row zero e next = absurd (let low = next.0 in omega arith)
resized_at models rows row (suc i) e next = elim (cases_lt i (length rows)) [
  | inl within ↦
      let place : row.task.0 - 1 ≡ i = omega arith in
      let old : put_in rows row ≡ slice_set rows i row = put_old rows row (omega arith) ∙ ap (λ (k : ℕ). slice_set rows k row) place in
      resized_there models rows i row (slice_get rows i) refl within old
  | inr past ↦
      let new : put_in rows row ≡ rows ++ row ∷ [] = put_new rows row (omega arith) in
      rw (slice_get_past rows i past) (ap (λ (l : List Row). total_size models l) new ∙ total_push models rows row)
]

pub resized_put : (models : List ModelOf) (rows : List Row) (row : Row) → IsNext rows row → IsResized models (total_size models rows) row (row_at row.task.0 rows) (total_size models (put_in rows row))
resized_put models rows row next = resized_at models rows row row.task.0 refl next

-- there is one such number
pub resized_once : (models : List ModelOf) (total : ℕ) (row : Row) (o : Option Row) (m n : ℕ) → IsResized models total row o m → IsResized models total row o n → m ≡ n
resized_once models total row None m n a b = omega arith
resized_once models total row (Some old) m n a b = omega arith
