-- Rows that are put into others, one after another.
use Rattle.std.proofs.Common.{◌≡◌, ℕ, ◌+◌, ◌-◌, ◌<◌, ◌≤◌, ◌==◌, zero, suc, Bool, true, false, if◌then◌else◌, max, nat_le, List, [], ◌∷◌, ◌++◌, length, fold, Option, Some, None, refl, sym, ap, ◌∙◌, inl, inr, arith}
use Rattle.std.specs.Option.{option_or}
use Rattle.std.specs.Prelude.{slice_get, slice_set}
use Rattle.std.proofs.Common.{length-append, le-leb}
use Rattle.ht_tree.specs.Soundness.{Fits}
use Rattle.ht_tree.specs.Tables.{TablesOf}
use Rattle.std.proofs.Common.{eq-eqb}
use Rattle.std.proofs.lemmas.Bool.{cases_eq, cases_lt}
use Rattle.std.proofs.lemmas.Bool.Decides.{nat_tests}
use Rattle.ht_tree.specs.declared.row.Row.{Row}
use Rattle.ht_tree.specs.Plans.{Follow, IsNext}
use Rattle.ht_tree.specs.Places.{last_of}
use Rattle.ht_tree.specs.Puts.{CanPut}
use Rattle.ht_tree.specs.Rows.{put_in, row_at}

-- ---- one row put

apart : (m n : ℕ) → (m ≡ n → ⊥) → (m == n) ≡ false
apart m n d = grind (arith, nat_tests)

same_next : (i j : ℕ) → (suc i == suc j) ≡ (i == j)
same_next i j = elim (cases_eq i j) [ inl e ↦ ap (λ n. suc n == suc j) e ∙ eq-eqb (suc j) (suc j) refl ∙ sym (ap (λ n. n == j) e ∙ eq-eqb j j refl) | inr d ↦ apart (suc i) (suc j) (λ e. d (omega arith)) ∙ sym (apart i j d) ]

get_set : (rows : List Row) (i j : ℕ) (row : Row) → i < length rows → slice_get (slice_set rows i row) j ≡ (if i == j then Some row else slice_get rows j)
get_set [] i j row h = absurd (omega arith)
get_set (r ∷ rows) zero zero row h = refl
get_set (r ∷ rows) zero (suc j) row h = rw (apart 0 (suc j) (λ e. omega arith)) refl
get_set (r ∷ rows) (suc i) zero row h = rw (apart (suc i) 0 (λ e. omega arith)) refl
get_set (r ∷ rows) (suc i) (suc j) row h = rw (same_next i j) (get_set rows i j row (omega arith))

get_push : (rows : List Row) (j : ℕ) (row : Row) → slice_get (rows ++ row ∷ []) j ≡ (if length rows == j then Some row else slice_get rows j)
get_push [] zero row = refl
get_push [] (suc j) row = rw (apart 0 (suc j) (λ e. omega arith)) refl
get_push (r ∷ rows) zero row = rw (apart (suc (length rows)) 0 (λ e. omega arith)) refl
get_push (r ∷ rows) (suc j) row = rw (same_next (length rows) j) (get_push rows j row)

length-set : (rows : List Row) (i : ℕ) (row : Row) → length (slice_set rows i row) ≡ length rows
length-set [] i row = refl
length-set (r ∷ rows) zero row = refl
length-set (r ∷ rows) (suc i) row = ap (λ n. suc n) (length-set rows i row)

-- the place of the row with this number
place_is : (rows : List Row) (row : Row) (i : ℕ) → row.task.0 ≡ suc i → row.task.0 - 1 ≡ i
place_is rows row i e = omega arith

pub put_old : (rows : List Row) (row : Row) → row.task.0 ≤ length rows → put_in rows row ≡ slice_set rows (row.task.0 - 1) row
put_old rows row h = ap (λ (b : Bool). if b then slice_set rows (row.task.0 - 1) row else rows ++ row ∷ []) (le-leb row.task.0 (length rows) h)

pub put_new : (rows : List Row) (row : Row) → length rows < row.task.0 → put_in rows row ≡ rows ++ row ∷ []
put_new rows row h = ap (λ (b : Bool). if b then slice_set rows (row.task.0 - 1) row else rows ++ row ∷ []) (let f : nat_le row.task.0 (length rows) ≡ false = grind (arith, nat_tests) in f)

pub row_at-put_in : (rows : List Row) (row : Row) (task : ℕ) → IsNext rows row → row_at task (put_in rows row) ≡ (if row.task.0 == task then Some row else row_at task rows)
row_at-put_in rows row zero next =
    let other : (row.task.0 == 0) ≡ false = let low = next.0 in grind (arith, nat_tests) in
    rw other refl
row_at-put_in rows row (suc j) next = elim (cases_lt (length rows) row.task.0) [
  | inl new ↦
      let test : (row.task.0 == suc j) ≡ (length rows == j) = let high = next.1 in let e : row.task.0 ≡ suc (length rows) = omega arith in ap (λ n. n == suc j) e ∙ same_next (length rows) j in
      rw (put_new rows row new, get_push rows j row, test) refl
  | inr old ↦
      let low = next.0 in
      let e : row.task.0 ≡ suc (row.task.0 - 1) = omega arith in
      let test : (row.task.0 == suc j) ≡ (row.task.0 - 1 == j) = ap (λ n. n == suc j) e ∙ same_next (row.task.0 - 1) j in
      let within : row.task.0 - 1 < length rows = omega arith in
      rw (put_old rows row old, get_set rows (row.task.0 - 1) j row within, test) refl
]

pub length-put_in : (rows : List Row) (row : Row) → IsNext rows row → length (put_in rows row) ≡ max (length rows) row.task.0
length-put_in rows row next = elim (cases_lt (length rows) row.task.0) [
  | inl new ↦ rw (put_new rows row new, length-append rows (row ∷ [])) (let high = next.1 in omega arith)
  | inr old ↦ rw (put_old rows row old, length-set rows (row.task.0 - 1) row) (omega arith)
]

-- ---- many rows put

pub fold_push : (rows puts : List Row) (row : Row) → fold put_in rows (puts ++ row ∷ []) ≡ put_in (fold put_in rows puts) row
fold_push rows [] row = refl
fold_push rows (p ∷ puts) row = fold_push (put_in rows p) puts row

pub follow_push : (t : TablesOf) (rows puts : List Row) (row : Row) → Follow t rows puts → IsNext (fold put_in rows puts) row → Fits t row → Follow t rows (puts ++ row ∷ [])
follow_push t rows [] row f next fits = (next, fits, tt)
follow_push t rows (p ∷ puts) row f next fits = (f.0, f.1, follow_push t (put_in rows p) puts row f.2 next fits)

-- the row of a task is the last that is put, or the one that was there
pub row_at-fold : (t : TablesOf) (rows puts : List Row) (task : ℕ) → Follow t rows puts → row_at task (fold put_in rows puts) ≡ option_or (last_of task puts) (row_at task rows)
row_at-fold t rows [] task f = refl
row_at-fold t rows (p ∷ puts) task f =
    row_at-fold t (put_in rows p) puts task f.2
    ∙ ap (λ (o : Option Row). option_or (last_of task puts) o) (row_at-put_in rows p task f.0)
    ∙ step (last_of task puts) (p.task.0 == task)
  where
    step : (o : Option Row) (b : Bool) → option_or o (if b then Some p else row_at task rows) ≡ option_or (option_or o (if b then Some p else None)) (row_at task rows)
    step (Some r) b = refl
    step None true = refl
    step None false = refl

-- ---- rows that can be put

pub few_fold : (rows puts : List Row) → CanPut rows puts → length rows ≤ length (fold put_in rows puts)
few_fold rows [] f = omega arith
few_fold rows (p ∷ puts) f =
    let more = few_fold (put_in rows p) puts f.1 in
    let long = length-put_in rows p f.0 in
    omega arith

pub can_put : (t : TablesOf) (rows puts : List Row) → Follow t rows puts → CanPut rows puts
can_put t rows [] f = tt
can_put t rows (p ∷ puts) f = (f.0, can_put t (put_in rows p) puts f.2)

pub few_put : (t : TablesOf) (rows puts : List Row) → Follow t rows puts → length rows ≤ length (fold put_in rows puts)
few_put t rows puts f = few_fold rows puts (can_put t rows puts f)

-- ---- a row that is put again

set_twice : (rows : List Row) (i : ℕ) (r s : Row) → slice_set (slice_set rows i r) i s ≡ slice_set rows i s
set_twice [] i r s = refl
set_twice (x ∷ rows) zero r s = refl
set_twice (x ∷ rows) (suc i) r s = ap (λ (l : List Row). x ∷ l) (set_twice rows i r s)

last_set : (rows : List Row) (r s : Row) → slice_set (rows ++ r ∷ []) (length rows) s ≡ rows ++ s ∷ []
last_set [] r s = refl
last_set (x ∷ rows) r s = ap (λ (l : List Row). x ∷ l) (last_set rows r s)

-- the second of two rows of a task counts
pub put_twice : (rows : List Row) (r s : Row) → IsNext rows r → s.task.0 ≡ r.task.0 → put_in (put_in rows r) s ≡ put_in rows s
put_twice rows r s next same =
    let high = next.1 in
    elim (cases_lt (length rows) r.task.0) [
      | inl new ↦
          let long : length (rows ++ r ∷ []) ≡ length rows + 1 = length-append rows (r ∷ []) in
          let place : s.task.0 - 1 ≡ length rows = omega arith in
          ap (λ (l : List Row). put_in l s) (put_new rows r new)
          ∙ put_old (rows ++ r ∷ []) s (omega arith)
          ∙ ap (λ (k : ℕ). slice_set (rows ++ r ∷ []) k s) place
          ∙ last_set rows r s
          ∙ sym (put_new rows s (omega arith))
      | inr old ↦
          let long : length (slice_set rows (r.task.0 - 1) r) ≡ length rows = length-set rows (r.task.0 - 1) r in
          let place : s.task.0 - 1 ≡ r.task.0 - 1 = omega arith in
          ap (λ (l : List Row). put_in l s) (put_old rows r old)
          ∙ put_old (slice_set rows (r.task.0 - 1) r) s (omega arith)
          ∙ ap (λ (k : ℕ). slice_set (slice_set rows (r.task.0 - 1) r) k s) place
          ∙ set_twice rows (r.task.0 - 1) r s
          ∙ ap (λ (k : ℕ). slice_set rows k s) (sym place)
          ∙ sym (put_old rows s (omega arith))
    ]
