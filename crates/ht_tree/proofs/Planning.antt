-- Plans to which rows are put, and from which they are taken to be put again.
use Rattle.ht_tree.proofs.Filing.{file_of, file_there, files_put}
use Rattle.std.proofs.Common.{◌≡◌, ℕ, ◌+◌, ◌*◌, ◌^◌, ◌<◌, ◌≤◌, ◌==◌, zero, suc, Bool, true, false, if◌then◌else◌, nat_le, max, List, [], ◌∷◌, ◌++◌, length, fold, take, Option, Some, None, IfSome, option_map, Bor, refl, ap, sym, ◌∙◌, subst, arith, eq-eqb}
use Rattle.std.specs.Option.{option_or}
use Rattle.std.specs.Prelude.{slice_get, slice_set}
use Rattle.std.proofs.lemmas.Bool.Decides.{nat_tests}
use Rattle.std.proofs.lemmas.List.{take-append-le}
use Rattle.std.proofs.lemmas.Option.{slice_get_within}
use Rattle.ht_models.specs.Model.{ModelOf}
use Rattle.ht_tree.specs.declared.notice.Notice.{Notice}
use Rattle.ht_tree.specs.declared.plan.Noted.{Noted}
use Rattle.ht_tree.specs.declared.plan.Totals.{Totals}
use Rattle.ht_tree.specs.declared.row.Row.{Row}
use Rattle.ht_tree.specs.Places.{IsLent, emptied, last_of, last_place, put_past, set_past, tasks_of}
use Rattle.ht_tree.specs.Plans.{AreCounted, AreTotals, changes_of, Follow, Goes, IsNext, IsPlanOf, KeepFiles, KeepsFile, Lends, planned, PlanOf}
use Rattle.ht_tree.specs.Puts.{IsResized}
use Rattle.ht_tree.specs.Rows.{put_in, row_at}
use Rattle.ht_tree.specs.Sizes.{top_size, total_size}
use Rattle.ht_tree.specs.Soundness.{Fits, IsSound}
use Rattle.ht_tree.specs.Tables.{TablesOf, with_row}
use Rattle.ht_tree.proofs.Counting.{resized_once, resized_put, top_within}
use Rattle.ht_tree.proofs.Fitting.{emptied_fits, put_fits}
use Rattle.ht_tree.proofs.Places.{last_there}
use Rattle.ht_tree.proofs.Putting.{fold_push, follow_push, length-put_in, put_twice, row_at-fold, row_at-put_in}
use Rattle.ht_tree.proofs.Replacing.{fold_set, follow_set, take_set}

-- ---- totals

-- the row of a task stands at a place
there : (rows : List Row) (task : ℕ) (row : Row) → row_at task rows ≡ Some row → (i : ℕ) × (slice_get rows i ≡ Some row) × (task ≡ suc i)
there rows zero row at = absurd (none_some at)
  where
    none_some : row_at 0 rows ≡ Some row → ⊥
    none_some e = cc
there rows (suc i) row at = (i, at, refl)

pub size_within : (t : TablesOf) (rows : List Row) (task : ℕ) (row : Row) → row_at task rows ≡ Some row → top_size t.models row ≤ total_size t.models rows
size_within t rows task row at = let place = there rows task row at in top_within t.models rows place.0 row place.1

pub is_next_there : (rows : List Row) (task : ℕ) (row new : Row) → row_at task rows ≡ Some row → new.task.0 ≡ task → IsNext rows new
is_next_there rows task row new at same =
    let place = there rows task row at in
    let low = slice_get_within rows place.0 row place.1 in
    (omega arith, omega arith)

-- of the tables themselves
pub start_totals : (t : TablesOf) (rows size : ℕ) → IsSound t → rows ≡ length t.rows → size ≡ total_size t.models t.rows → AreTotals t t.rows (record { rows = rows; size = size })
start_totals t rows size sound count sum = record {
  rows = count;
  size = sum;
  small = λ task row at. let most = size_within t t.rows task row at in let within = sound.tasks_within in omega arith;
}

-- with one more row
pub totals_put : (t : TablesOf) (rows : List Row) (n : Totals) (row : Row) (size : ℕ) → AreTotals t rows n → IsNext rows row → IsResized t.models n.size row (row_at row.task.0 rows) size → top_size t.models row < 2 ^ 32 → AreTotals t (put_in rows row) (record { rows = max n.rows row.task.0; size = size })
totals_put t rows n row size are next resized low = record {
  rows = ap (λ k. max k row.task.0) are.rows ∙ sym (length-put_in rows row next);
  size =
      let P : ℕ → Type 0 = λ k. IsResized t.models k row (row_at row.task.0 rows) size in
      resized_once t.models (total_size t.models rows) row (row_at row.task.0 rows) size (total_size t.models (put_in rows row)) (subst P are.size resized) (resized_put t.models rows row next);
  small = λ task r at. here task r (row.task.0 == task) (sym (row_at-put_in rows row task next) ∙ at);
}
  where
    here : (task : ℕ) (r : Row) (b : Bool) → (if b then Some row else row_at task rows) ≡ Some r → top_size t.models r < 2 ^ 32
    here task r true e = let same : row ≡ r = cc in let P : Row → Type 0 = λ x. top_size t.models x < 2 ^ 32 in subst P same low
    here task r false e = are.small task r e

-- a row before it is of a model that is there, and is counted
pub before_counted : (t : TablesOf) (rows : List Row) (n : Totals) (task : ℕ) (before : Option (Bor Row)) → AreTotals t rows n → option_map (λ r. r.now) before ≡ row_at task rows → IfSome before (λ r. Fits t r.now) → IfSome before (λ r. (r.now.model < length t.models) × (top_size t.models r.now ≤ n.size))
before_counted t rows n task None are is fits = tt
before_counted t rows n task (Some r) are is fits = ((fits.filed).model, let most = size_within t rows task r.now (sym is) in let sum = are.size in omega arith)

-- they are few
sum_small : (models : List ModelOf) (rows : List Row) → ((i : ℕ) (row : Row) → slice_get rows i ≡ Some row → top_size models row < 2 ^ 32) → total_size models rows ≤ 2 ^ 32 * length rows
sum_small models [] each = omega arith
sum_small models (r ∷ rows) each =
    let first = each 0 r refl in
    let rest = sum_small models rows (λ i row at. each (suc i) row at) in
    omega arith

pub totals_small : (t : TablesOf) (rows : List Row) (n : Totals) → AreTotals t rows n → n.rows < 2 ^ 32 → n.size < 2 ^ 100
totals_small t rows n are low =
    let most = sum_small t.models rows (λ i row at. are.small (suc i) row at) in
    let sum = are.size in
    let count = are.rows in
    omega arith

-- what is noted of a plan
pub noted_totals : (t : TablesOf) (p : PlanOf) (n : Totals) → IsPlanOf t p → (p.changes).totals ≡ Some n → AreTotals t (planned t p).rows n
noted_totals t p n fit is = let P : Option Totals → Type 0 = λ o. AreCounted t (p.changes).rows o in subst P is fit.changes_counted

pub nothing_put : (t : TablesOf) (p : PlanOf) (n : Totals) → IsPlanOf t p → (p.changes).totals ≡ None → AreTotals t t.rows n → AreTotals t (planned t p).rows n
nothing_put t p n fit is are =
    let P : Option Totals → Type 0 = λ o. AreCounted t (p.changes).rows o in
    let none : (p.changes).rows ≡ [] = subst P is fit.changes_counted in
    let Q : List Row → Type 0 = λ l. AreTotals t (fold put_in t.rows l) n in
    subst Q (sym none) are

-- ---- rows that are put

-- a plan of these rows, marked at a place, with what is noted and what is told now and at the mark
abbrev pub plan_with : List Row → ℕ → Noted → Noted → List Notice → List Notice → PlanOf
plan_with rows mark noted marked told told_before = record { changes = changes_of rows told noted.totals noted.slot; marked = changes_of (take mark rows) told_before marked.totals marked.slot }

-- a row of a plan is that which is put last of its task, or that of the tables
pub row_after : (t : TablesOf) (p : PlanOf) (task : ℕ) (o : Option Row) → IsPlanOf t p → o ≡ last_of task (p.changes).rows → option_or o (row_at task t.rows) ≡ row_at task (planned t p).rows
row_after t p task o fit is = ap (λ (x : Option Row). option_or x (row_at task t.rows)) is ∙ sym (row_at-fold t t.rows (p.changes).rows task fit.changes_fit)

module _ (t : TablesOf) (old : PlanOf) (rows : List Row) (mark : ℕ) (noted marked : Noted) (told told_before : List Notice) (view : plan_with rows mark noted marked told told_before ≡ old) (low : mark ≤ length rows) (fit : IsPlanOf t old) where
  fits_with : IsPlanOf t (plan_with rows mark noted marked told told_before)
  fits_with = let P : PlanOf → Type 0 = λ p. IsPlanOf t p in subst P (sym view) fit

  -- other rows, of which those up to the mark are the same
  module _ (row : Row) (totals : Totals) (next : IsNext (planned t old).rows row) (fits : Fits t row) (counted : AreTotals t (put_in (planned t old).rows row) totals) (file : KeepsFile (planned t old).rows row) where
    next_with : IsNext (fold put_in t.rows rows) row
    next_with = let P : PlanOf → Type 0 = λ p. IsNext (planned t p).rows row in subst P (sym view) next

    counted_with : AreTotals t (put_in (fold put_in t.rows rows) row) totals
    counted_with = let P : PlanOf → Type 0 = λ p. AreTotals t (put_in (planned t p).rows row) totals in subst P (sym view) counted

    file_with : KeepsFile (fold put_in t.rows rows) row
    file_with = let P : PlanOf → Type 0 = λ p. KeepsFile (planned t p).rows row in subst P (sym view) file

    abbrev pub now_with : Noted
    now_with = record noted { totals = Some totals }

    goes_to : (news : List Row) → take mark news ≡ take mark rows → Follow t t.rows news → fold put_in t.rows news ≡ put_in (fold put_in t.rows rows) row → Goes t old (plan_with news mark now_with marked told told_before) (planned t old) (with_row (planned t old) row)
    goes_to news front follow after =
        let G : PlanOf → Type 0 = λ p. Goes t p (plan_with news mark now_with marked told told_before) (planned t p) (with_row (planned t p) row) in
        let T : List Row → Type 0 = λ l. AreTotals t l totals in
        let M : List Row → Type 0 = λ l. Follow t t.rows l in
        let C : List Row → Type 0 = λ l. AreCounted t l marked.totals in
        let K : List Row → Type 0 = λ l. KeepFiles t.rows (fold put_in t.rows l) in
        let L : List Row → Type 0 = λ l. KeepFiles (fold put_in t.rows l) (put_in (fold put_in t.rows rows) row) in
        let A : List Row → Type 0 = λ l. KeepFiles (fold put_in t.rows (take mark news)) l in
        subst G view (record {
          from = refl;
          to = ap (λ (l : List Row). record (planned t (plan_with rows mark noted marked told told_before)) { rows = l }) after;
          fits = record {
            changes_fit = follow;
            changes_counted = subst T (sym after) counted_with;
            marked_fit = subst M (sym front) fits_with.marked_fit;
            marked_counted = subst C (sym front) fits_with.marked_counted;
            marked_filed = subst K (sym front) fits_with.marked_filed;
            changes_filed = subst A (sym after) (subst L (sym front) (files_put (fold put_in t.rows (take mark rows)) (fold put_in t.rows rows) row next_with fits_with.changes_filed file_with));
          };
          slot = refl;
          marked = ap (λ (l : List Row). changes_of l told_before marked.totals marked.slot) front;
        })

    pushed_goes : Goes t old (plan_with (rows ++ row ∷ []) mark now_with marked told told_before) (planned t old) (with_row (planned t old) row)
    pushed_goes = goes_to (rows ++ row ∷ []) (take-append-le mark rows (row ∷ []) low) (follow_push t t.rows rows row fits_with.changes_fit next_with fits) (fold_push t.rows rows row)

    set_goes : (place : ℕ) → last_place row.task.0 (tasks_of rows) ≡ Some place → mark ≤ place → Goes t old (plan_with (slice_set rows place row) mark now_with marked told told_before) (planned t old) (with_row (planned t old) row)
    set_goes place last behind =
        let there = last_there row.task.0 rows (Some place) last in
        goes_to (slice_set rows place row) (take_set rows mark place row behind) (follow_set t t.rows rows place there.0 row fits_with.changes_fit there.1 (sym there.3) fits) (fold_set t t.rows rows place there.0 row fits_with.changes_fit last there.1 there.3 fits next_with)

    past_goes : (o : Option ℕ) → last_place row.task.0 (tasks_of rows) ≡ o → Goes t old (plan_with (set_past mark rows row o) mark now_with marked told told_before) (planned t old) (with_row (planned t old) row)
    past_goes None last = pushed_goes
    past_goes (Some place) last = here (nat_le mark place) refl
      where
        here : (b : Bool) → nat_le mark place ≡ b → Goes t old (plan_with (if b then slice_set rows place row else rows ++ row ∷ []) mark now_with marked told told_before) (planned t old) (with_row (planned t old) row)
        here true is = set_goes place last (let h : nat_le mark place ≡ true = is in grind (arith, nat_tests))
        here false is = pushed_goes

    pub put_goes : Goes t old (plan_with (put_past mark rows row) mark now_with marked told told_before) (planned t old) (with_row (planned t old) row)
    put_goes = past_goes (last_place row.task.0 (tasks_of rows)) refl

-- ---- a row that is taken, to be put again

-- it was there, and whichever row of its task is put next is put behind the plan as it was
pub record IsTaken (t : TablesOf) (old new : PlanOf) (task : ℕ) (row : Row) : Type 0 where
  pub there : row_at task (planned t old).rows ≡ Some row
  pub fits : Fits t row
  pub lends : Lends t old new task

-- the totals stay where a row gives its place to one of the same task, with a tree of the same size
pub same_totals : (t : TablesOf) (rows : List Row) (n : Totals) (task : ℕ) (row new : Row) → row_at task rows ≡ Some row → row.task.0 ≡ task → new.task.0 ≡ row.task.0 → top_size t.models new ≡ top_size t.models row → AreTotals t rows n → AreTotals t (put_in rows new) n
same_totals t rows n task row new at own same sized are = record {
  rows = are.rows ∙ long;
  size =
      let P : Option Row → Type 0 = λ o. IsResized t.models (total_size t.models rows) new o (total_size t.models (put_in rows new)) in
      let resized = subst P (ap (λ (k : ℕ). row_at k rows) number ∙ at) (resized_put t.models rows new next) in
      are.size ∙ same_sum (total_size t.models rows) (total_size t.models (put_in rows new)) (top_size t.models row) (top_size t.models new) sized resized;
  small = λ q r is. here q r (new.task.0 == q) (sym (row_at-put_in rows new q next) ∙ is);
}
  where
    number : new.task.0 ≡ task
    number = same ∙ own

    next : IsNext rows new
    next = is_next_there rows task row new at number

    long : length rows ≡ length (put_in rows new)
    long =
        let place = there rows task row at in
        let low = slice_get_within rows place.0 row place.1 in
        let is = place.2 in
        let max_is : max (length rows) new.task.0 ≡ length rows = omega (arith, number, is, low) in
        sym (length-put_in rows new next ∙ max_is)

    same_sum : (a b old now : ℕ) → now ≡ old → b + old ≡ a + now → a ≡ b
    same_sum a b old now s e = omega arith

    here : (q : ℕ) (r : Row) (b : Bool) → (if b then Some new else row_at q rows) ≡ Some r → top_size t.models r < 2 ^ 32
    here q r true e =
        let this : new ≡ r = cc in
        let P : Row → Type 0 = λ x. top_size t.models x < 2 ^ 32 in
        let S : ℕ → Type 0 = λ k. k < 2 ^ 32 in
        subst P this (subst S (sym sized) (are.small task row at))
    here q r false e = are.small q r e

emptied_totals : (t : TablesOf) (rows : List Row) (n : Totals) (task : ℕ) (row : Row) → row_at task rows ≡ Some row → row.task.0 ≡ task → AreTotals t rows n → AreTotals t (put_in rows (emptied row)) n
emptied_totals t rows n task row at own are = same_totals t rows n task row (emptied row) at own refl refl are

counted_emptied : (t : TablesOf) (rows news : List Row) (o : Option Totals) (task : ℕ) (row : Row) → row_at task (fold put_in t.rows rows) ≡ Some row → row.task.0 ≡ task → fold put_in t.rows news ≡ put_in (fold put_in t.rows rows) (emptied row) → (rows ≡ [] → ⊥) → AreCounted t rows o → AreCounted t news o
counted_emptied t rows news None task row at same after some are = absurd (some are)
counted_emptied t rows news (Some n) task row at same after some are =
    let P : List Row → Type 0 = λ l. AreTotals t l n in
    subst P (sym after) (emptied_totals t (fold put_in t.rows rows) n task row at same are)

module _ (t : TablesOf) (old : PlanOf) (rows news : List Row) (mark : ℕ) (noted marked : Noted) (told told_before : List Notice) (view : plan_with rows mark noted marked told told_before ≡ old) (fit : IsPlanOf t old) (task : ℕ) (row : Row) (lent : IsLent mark rows news task row) where
  fits_lent : IsPlanOf t (plan_with rows mark noted marked told told_before)
  fits_lent = let P : PlanOf → Type 0 = λ p. IsPlanOf t p in subst P (sym view) fit

  last_row : (last_of task rows ≡ Some row) × (row.task.0 ≡ task)
  last_row =
      let found = last_there task rows (Some lent.place) lent.last in
      let this : Some found.0 ≡ Some row = sym found.1 ∙ lent.there in
      let same : found.0 ≡ row = cc in
      (found.2 ∙ this, ap (λ (r : Row). r.task.0) (sym same) ∙ found.3)

  row_is : row_at task (fold put_in t.rows rows) ≡ Some row
  row_is = row_at-fold t t.rows rows task fits_lent.changes_fit ∙ ap (λ (o : Option Row). option_or o (row_at task t.rows)) last_row.0

  row_fits : Fits t row
  row_fits = put_fits t t.rows rows task row fits_lent.changes_fit last_row.0

  next_emptied : IsNext (fold put_in t.rows rows) (emptied row)
  next_emptied = is_next_there (fold put_in t.rows rows) task row (emptied row) row_is last_row.1

  emptied_file : KeepsFile (fold put_in t.rows rows) (emptied row)
  emptied_file = file_of (fold put_in t.rows rows) (emptied row) row task last_row.1 row_is refl refl

  after : fold put_in t.rows news ≡ put_in (fold put_in t.rows rows) (emptied row)
  after =
      let last : last_place (emptied row).task.0 (tasks_of rows) ≡ Some lent.place = ap (λ n. last_place n (tasks_of rows)) last_row.1 ∙ lent.last in
      ap (λ (l : List Row). fold put_in t.rows l) lent.left
      ∙ fold_set t t.rows rows lent.place row (emptied row) fits_lent.changes_fit last lent.there refl (emptied_fits t row row_fits) next_emptied

  front : take mark news ≡ take mark rows
  front = ap (λ (l : List Row). take mark l) lent.left ∙ take_set rows mark lent.place (emptied row) lent.behind

  emptied_is : row_at task (fold put_in t.rows news) ≡ Some (emptied row)
  emptied_is =
      ap (λ (l : List Row). row_at task l) after
      ∙ row_at-put_in (fold put_in t.rows rows) (emptied row) task next_emptied
      ∙ ap (λ (b : Bool). if b then Some (emptied row) else row_at task (fold put_in t.rows rows)) (eq-eqb row.task.0 task last_row.1)

  fits_news : IsPlanOf t (plan_with news mark noted marked told told_before)
  fits_news =
      let F : List Row → Type 0 = λ l. Follow t t.rows l in
      let C : List Row → Type 0 = λ l. AreCounted t l marked.totals in
      let K : List Row → Type 0 = λ l. KeepFiles t.rows (fold put_in t.rows l) in
      let L : List Row → Type 0 = λ l. KeepFiles (fold put_in t.rows l) (put_in (fold put_in t.rows rows) (emptied row)) in
      let A : List Row → Type 0 = λ l. KeepFiles (fold put_in t.rows (take mark news)) l in
      record {
        changes_fit = subst F (sym lent.left) (follow_set t t.rows rows lent.place row (emptied row) fits_lent.changes_fit lent.there refl (emptied_fits t row row_fits));
        changes_counted = counted_emptied t rows news noted.totals task row row_is last_row.1 after some fits_lent.changes_counted;
        marked_fit = subst F (sym front) fits_lent.marked_fit;
        marked_counted = subst C (sym front) fits_lent.marked_counted;
        marked_filed = subst K (sym front) fits_lent.marked_filed;
        changes_filed = subst A (sym after) (subst L (sym front) (files_put (fold put_in t.rows (take mark rows)) (fold put_in t.rows rows) (emptied row) next_emptied fits_lent.changes_filed emptied_file));
      }
    where
      some : rows ≡ [] → ⊥
      some e =
          let none : slice_get [] lent.place ≡ Some row = ap (λ (l : List Row). slice_get l lent.place) (sym e) ∙ lent.there in
          cc

  same_long : length (fold put_in t.rows news) ≡ length (fold put_in t.rows rows)
  same_long =
      let high = next_emptied.1 in
      let place = there (fold put_in t.rows rows) task row row_is in
      let low = slice_get_within (fold put_in t.rows rows) place.0 row place.1 in
      let number = place.2 in
      let own = last_row.1 in
      let max_is : max (length (fold put_in t.rows rows)) row.task.0 ≡ length (fold put_in t.rows rows) = omega arith in
      ap (λ (l : List Row). length l) after ∙ length-put_in (fold put_in t.rows rows) (emptied row) next_emptied ∙ max_is

  taken_with : IsTaken t (plan_with rows mark noted marked told told_before) (plan_with news mark noted marked told told_before) task row
  taken_with = record {
    there = row_is;
    fits = row_fits;
    lends = record {
      fits = fits_news;
      slot = refl;
      marked = ap (λ (l : List Row). changes_of l told_before marked.totals marked.slot) front;
      next = λ r same next. (next.0, let high = next.1 in let long = same_long in omega arith);
      file = λ r same file.
          let old = file_there (fold put_in t.rows rows) r row task same row_is file in
          file_of (fold put_in t.rows news) r (emptied row) task same emptied_is old.0 old.1;
      again = λ r same next.
          ap (λ (l : List Row). record (planned t (plan_with rows mark noted marked told told_before)) { rows = put_in l r }) after
          ∙ ap (λ (l : List Row). record (planned t (plan_with rows mark noted marked told told_before)) { rows = l }) (put_twice (fold put_in t.rows rows) (emptied row) r next_emptied (same ∙ sym last_row.1));
    };
  }

  pub taken : IsTaken t old (plan_with news mark noted marked told told_before) task row
  taken = let P : PlanOf → Type 0 = λ p. IsTaken t p (plan_with news mark noted marked told told_before) task row in subst P view taken_with
