-- A row that takes the place of the last one of its task, among rows that are put.
use Rattle.std.proofs.Common.{◌≡◌, ℕ, ◌≤◌, ◌==◌, zero, suc, Bool, true, false, if◌then◌else◌, max, fold, List, [], ◌∷◌, length, take, Option, Some, None, option_map, refl, sym, ap, ◌∙◌, arith}
use Rattle.std.proofs.lemmas.Bool.Decides.{nat_tests}
use Rattle.std.specs.Option.{option_or}
use Rattle.std.specs.Prelude.{slice_get, slice_set}
use Rattle.ht_tree.specs.declared.row.Row.{Row}
use Rattle.ht_tree.specs.Places.{last_of, last_place, tasks_of}
use Rattle.ht_tree.specs.Plans.{Follow, IsNext}
use Rattle.ht_tree.specs.Rows.{put_in, row_at}
use Rattle.ht_tree.specs.Soundness.{Fits}
use Rattle.ht_tree.specs.Tables.{TablesOf}
use Rattle.ht_tree.proofs.Putting.{length-put_in, row_at-fold, row_at-put_in}

-- lists with the same row of each task are the same
pub same_rows : (xs ys : List Row) → ((task : ℕ) → row_at task xs ≡ row_at task ys) → xs ≡ ys
same_rows [] [] each = refl
same_rows [] (y ∷ ys) each = let first : None ≡ Some y = each 1 in cc
same_rows (x ∷ xs) [] each = let first : Some x ≡ None = each 1 in cc
same_rows (x ∷ xs) (y ∷ ys) each =
    let first : Some x ≡ Some y = each 1 in
    let head : x ≡ y = cc in
    ap (λ (r : Row). r ∷ xs) head ∙ ap (λ (l : List Row). y ∷ l) (same_rows xs ys (rest each))
  where
    rest : ((task : ℕ) → row_at task (x ∷ xs) ≡ row_at task (y ∷ ys)) → (task : ℕ) → row_at task xs ≡ row_at task ys
    rest e zero = refl
    rest e (suc i) = e (suc (suc i))

-- what stands in front of the place stays
pub take_set : (rows : List Row) (mark i : ℕ) (row : Row) → mark ≤ i → take mark (slice_set rows i row) ≡ take mark rows
take_set [] mark i row low = refl
take_set (r ∷ rows) zero i row low = refl
take_set (r ∷ rows) (suc mark) zero row low = absurd (omega arith)
take_set (r ∷ rows) (suc mark) (suc i) row low = ap (λ (l : List Row). r ∷ l) (take_set rows mark i row (omega arith))

-- ---- which row is the last of a task

none_later : (o : Option ℕ) → option_or (option_map suc o) None ≡ None → o ≡ None
none_later None e = refl
none_later (Some i) e = cc

no_last : (task : ℕ) (rows : List Row) → last_place task (tasks_of rows) ≡ None → last_of task rows ≡ None
no_last task [] e = refl
no_last task (r ∷ rows) e = step (r.task.0 == task) (last_place task (tasks_of rows)) (no_last task rows) e
  where
    step : (b : Bool) (o : Option ℕ) → (o ≡ None → last_of task rows ≡ None) → option_or (option_map suc o) (if b then Some 0 else None) ≡ None → option_or (last_of task rows) (if b then Some r else None) ≡ None
    step true None rest e = cc
    step true (Some i) rest e = cc
    step false None rest e = rw (rest refl) refl
    step false (Some i) rest e = cc

pub last_of_set : (task : ℕ) (rows : List Row) (i : ℕ) (row : Row) (q : ℕ) → last_place task (tasks_of rows) ≡ Some i → row.task.0 ≡ task → last_of q (slice_set rows i row) ≡ (if task == q then Some row else last_of q rows)
last_of_set task [] i row q at same = cc
last_of_set task (r ∷ rows) i row q at same = here (last_place task (tasks_of rows)) refl at (λ j is. last_of_set task rows j row q is same)
  where
    behind : (b : Bool) (o : Option Row) → option_or (if b then Some row else last_of q rows) o ≡ (if b then Some row else option_or (last_of q rows) o)
    behind true o = refl
    behind false o = refl

    front : (b c : Bool) → (task == q) ≡ b → (r.task.0 == task) ≡ c → last_place task (tasks_of rows) ≡ None → c ≡ true → option_or (last_of q rows) (if row.task.0 == q then Some row else None) ≡ (if b then Some row else option_or (last_of q rows) (if r.task.0 == q then Some r else None))
    front true c is first none there =
        let q_is : task ≡ q = grind (arith, nat_tests) in
        let gone : last_of q rows ≡ None = ap (λ n. last_of n rows) (sym q_is) ∙ no_last task rows none in
        let own : (row.task.0 == q) ≡ true = ap (λ n. n == q) same ∙ is in
        rw (gone, own) refl
    front false c is first none there =
        let r_is : r.task.0 ≡ task = let e : (r.task.0 == task) ≡ true = first ∙ there in grind (arith, nat_tests) in
        let own : (row.task.0 == q) ≡ false = ap (λ n. n == q) same ∙ is in
        let old : (r.task.0 == q) ≡ false = ap (λ n. n == q) r_is ∙ is in
        rw (own, old) refl

    first_is : (c : Bool) → (if c then Some 0 else None) ≡ Some i → (c ≡ true) × (i ≡ 0)
    first_is true e = (refl, let z : Some 0 ≡ Some i = e in cc)
    first_is false e = cc

    here : (o : Option ℕ) → last_place task (tasks_of rows) ≡ o → option_or (option_map suc o) (if r.task.0 == task then Some 0 else None) ≡ Some i → ((j : ℕ) → last_place task (tasks_of rows) ≡ Some j → last_of q (slice_set rows j row) ≡ (if task == q then Some row else last_of q rows)) → last_of q (slice_set (r ∷ rows) i row) ≡ (if task == q then Some row else option_or (last_of q rows) (if r.task.0 == q then Some r else None))
    here (Some j) is e rest =
        let place : i ≡ suc j = let z : Some (suc j) ≡ Some i = e in cc in
        ap (λ n. last_of q (slice_set (r ∷ rows) n row)) place
        ∙ ap (λ (o : Option Row). option_or o (if r.task.0 == q then Some r else None)) (rest j is)
        ∙ behind (task == q) (if r.task.0 == q then Some r else None)
    here None is e rest =
        let first = first_is (r.task.0 == task) e in
        ap (λ n. last_of q (slice_set (r ∷ rows) n row)) first.1
        ∙ front (task == q) (r.task.0 == task) refl refl is first.0

-- ---- the rows after them

-- what follows looks at the number of rows alone
follow_long : (t : TablesOf) (a b puts : List Row) → length a ≡ length b → Follow t a puts → Follow t b puts
follow_long t a b [] same f = tt
follow_long t a b (p ∷ puts) same f =
    let next : IsNext b p = (let low = f.0.0 in low, let high = f.0.1 in omega arith) in
    let long : length (put_in a p) ≡ length (put_in b p) = length-put_in a p f.0 ∙ ap (λ n. max n p.task.0) same ∙ sym (length-put_in b p next) in
    (next, f.1, follow_long t (put_in a p) (put_in b p) puts long f.2)

pub follow_set : (t : TablesOf) (rows puts : List Row) (i : ℕ) (old row : Row) → Follow t rows puts → slice_get puts i ≡ Some old → row.task.0 ≡ old.task.0 → Fits t row → Follow t rows (slice_set puts i row)
follow_set t rows [] i old row f at same fits = tt
follow_set t rows (p ∷ puts) zero old row f at same fits =
    let this : p ≡ old = cc in
    let number : row.task.0 ≡ p.task.0 = same ∙ ap (λ (r : Row). r.task.0) (sym this) in
    let next : IsNext rows row = (let low = f.0.0 in omega arith, let high = f.0.1 in omega arith) in
    let long : length (put_in rows p) ≡ length (put_in rows row) = length-put_in rows p f.0 ∙ ap (λ n. max (length rows) n) (sym number) ∙ sym (length-put_in rows row next) in
    (next, fits, follow_long t (put_in rows p) (put_in rows row) puts long f.2)
follow_set t rows (p ∷ puts) (suc i) old row f at same fits = (f.0, f.1, follow_set t (put_in rows p) puts i old row f.2 at same fits)

-- they are as if the row were put behind all
pub fold_set : (t : TablesOf) (rows puts : List Row) (i : ℕ) (old row : Row) → Follow t rows puts → last_place row.task.0 (tasks_of puts) ≡ Some i → slice_get puts i ≡ Some old → old.task.0 ≡ row.task.0 → Fits t row → IsNext (fold put_in rows puts) row → fold put_in rows (slice_set puts i row) ≡ put_in (fold put_in rows puts) row
fold_set t rows puts i old row f last at same fits next = same_rows (fold put_in rows (slice_set puts i row)) (put_in (fold put_in rows puts) row) each
  where
    choose : (b : Bool) (o q : Option Row) → option_or (if b then Some row else o) q ≡ (if b then Some row else option_or o q)
    choose true o q = refl
    choose false o q = refl

    each : (task : ℕ) → row_at task (fold put_in rows (slice_set puts i row)) ≡ row_at task (put_in (fold put_in rows puts) row)
    each task =
        row_at-fold t rows (slice_set puts i row) task (follow_set t rows puts i old row f at (sym same) fits)
        ∙ ap (λ (o : Option Row). option_or o (row_at task rows)) (last_of_set row.task.0 puts i row task last refl)
        ∙ choose (row.task.0 == task) (last_of task puts) (row_at task rows)
        ∙ ap (λ (o : Option Row). if row.task.0 == task then Some row else o) (sym (row_at-fold t rows puts task f))
        ∙ sym (row_at-put_in (fold put_in rows puts) row task next)
