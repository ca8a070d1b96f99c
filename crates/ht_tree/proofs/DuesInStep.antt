-- What is due of the rows, and how it changes with those that are put.
use Rattle.std.proofs.Common.{◌≡◌, ℕ, ◌+◌, ◌<◌, ◌==◌, zero, suc, Bool, true, false, if◌then◌else◌, List, [], ◌∷◌, ◌++◌, fold, Option, Some, None, is_some, refl, sym, ap, subst, ◌∙◌, inl, inr, arith, ◌||◌, ◌&&◌, not, eq-eqb}
use Rattle.std.specs.Prelude.{slice_get}
use Rattle.std.specs.List.{flat_map}
use Rattle.std.specs.Option.{option_map_or, option_or}
use Rattle.std.specs.Ordering.{is_eq}
use Rattle.std.specs.declared.cmp.Ordering.{Ordering}
use Rattle.std.specs.declared.cmp.Ordering.TheVariants.{Less, Equal, Greater}
use Rattle.std.proofs.lemmas.Bool.{and_parts, cases_eq, eqb-true}
use Rattle.std.proofs.lemmas.Bool.Decides.{nat_tests}
use Rattle.ht_base.specs.declared.moment.Moment.{Moment}
use Rattle.ht_due.specs.declared.due.Due.{Due}
use Rattle.ht_due.specs.Dues.{AreNew, Ascends, compare_dues, has, merged, in_order}
use Rattle.ht_due.proofs.PublicLaws.{ascends_merged, exact, has_append, has_in_order, has_merged, in_order_ascends, ordered}
use Rattle.ht_models.specs.Model.{DeadlineOf, ModelOf}
use Rattle.ht_tree.specs.declared.row.Row.{Row}
use Rattle.ht_tree.specs.Places.{last_of}
use Rattle.ht_tree.specs.Plans.{AreDuesPrepared, Follow, IsPlanOf, PlanOf, committed, planned}
use Rattle.ht_tree.specs.RowDues.{all_dues, changed_dues, deadline_due, deadline_dues, deadlines_of, due_of, kind_of, open_moment, row_dues, task_dues}
use Rattle.ht_tree.specs.Rows.{put_in, row_at}
use Rattle.ht_tree.specs.Soundness.{IsSound}
use Rattle.ht_tree.specs.Tables.{RoomyTables, TablesOf}
use Rattle.ht_tree.proofs.Putting.{row_at-fold}

pub or_false : (b : Bool) → (b || false) ≡ b
or_false true = refl
or_false false = refl

-- ---- the dues of a row are of its task

module _ (row : Row) (q : Due) (other : row.task.0 ≡ q.task.0 → ⊥) where
  not_due : (kind place : ℕ) (at : Option Moment) → has q (due_of row kind place at) ≡ false
  not_due kind place None = refl
  not_due kind place (Some at) = go (compare_dues q due) refl
    where
      due : Due
      due = record { at = at; task = row.task; kind = kind; place = place }

      go : (o : Ordering) → compare_dues q due ≡ o → (is_eq o || false) ≡ false
      go Equal e = absurd (other (sym (ap (λ (d : Due). d.task.0) (exact q due e))))
      go Less e = refl
      go Greater e = refl

  neither : (xs ys : List Due) → has q xs ≡ false → has q ys ≡ false → has q (xs ++ ys) ≡ false
  neither xs ys e f = has_append q xs ys ∙ ap (λ b. b || has q ys) e ∙ f

  not_deadlines : (place : ℕ) (ds : List DeadlineOf) → has q (deadline_dues row place ds) ≡ false
  not_deadlines place [] = refl
  not_deadlines place (d ∷ ds) = neither (deadline_due row place d) (deadline_dues row (place + 1) ds) (not_due (kind_of d.kind) place (open_moment row place d)) (not_deadlines (place + 1) ds)

  pub not_of_row : (models : List ModelOf) → has q (row_dues models row) ≡ false
  not_of_row models =
      neither (due_of row 0 0 row.waits ++ due_of row 1 0 row.until) (deadline_dues row 0 (deadlines_of models row))
      (neither (due_of row 0 0 row.waits) (due_of row 1 0 row.until) (not_due 0 0 row.waits) (not_due 1 0 row.until))
      (not_deadlines 0 (deadlines_of models row))

-- ---- the dues of all rows

-- the rows are in the order of their numbers, from 1 without gaps
abbrev pub Numbered : List Row → Type 0
Numbered rows = (task : ℕ) (row : Row) → row_at task rows ≡ Some row → row.task.0 ≡ task

-- and from another number on
abbrev NumberedFrom : ℕ → List Row → Type 0
NumberedFrom n rows = (i : ℕ) (row : Row) → slice_get rows i ≡ Some row → row.task.0 ≡ n + i

flat_low : (models : List ModelOf) (n : ℕ) (rows : List Row) (q : Due) → NumberedFrom n rows → q.task.0 < n → has q (flat_map (row_dues models) rows) ≡ false
flat_low models n [] q is low = refl
flat_low models n (r ∷ rows) q is low =
    let number = is 0 r refl in
    has_append q (row_dues models r) (flat_map (row_dues models) rows)
    ∙ ap (λ b. b || has q (flat_map (row_dues models) rows)) (not_of_row r q (λ e. omega arith) models)
    ∙ flat_low models (suc n) rows q (λ i s at. let e = is (suc i) s at in omega arith) (omega arith)

flat_at : (models : List ModelOf) (n : ℕ) (rows : List Row) (q : Due) (i : ℕ) → NumberedFrom n rows → q.task.0 ≡ n + i → has q (flat_map (row_dues models) rows) ≡ has q (option_map_or (row_dues models) (slice_get rows i) [])
flat_at models n [] q i is e = refl
flat_at models n (r ∷ rows) q zero is e =
    has_append q (row_dues models r) (flat_map (row_dues models) rows)
    ∙ ap (λ b. has q (row_dues models r) || b) (flat_low models (suc n) rows q (λ i s at. let f = is (suc i) s at in omega arith) (omega arith))
    ∙ or_false (has q (row_dues models r))
flat_at models n (r ∷ rows) q (suc i) is e =
    let number = is 0 r refl in
    has_append q (row_dues models r) (flat_map (row_dues models) rows)
    ∙ ap (λ b. b || has q (flat_map (row_dues models) rows)) (not_of_row r q (λ f. omega arith) models)
    ∙ flat_at models (suc n) rows q i (λ i s at. let f = is (suc i) s at in omega arith) (omega arith)

-- a due is of all rows where it is of its task's
pub has_flat : (models : List ModelOf) (rows : List Row) (q : Due) → Numbered rows → has q (flat_map (row_dues models) rows) ≡ has q (task_dues models rows q.task.0)
has_flat models rows q numbered = go q.task.0 refl
  where
    is : NumberedFrom 1 rows
    is i r at = let e = numbered (suc i) r at in omega arith

    go : (n : ℕ) → q.task.0 ≡ n → has q (flat_map (row_dues models) rows) ≡ has q (task_dues models rows n)
    go zero e = flat_low models 1 rows q is (omega arith)
    go (suc i) e = flat_at models 1 rows q i is (omega arith)

-- ---- the dues of the tasks that change

pub not_of_task : (models : List ModelOf) (rows : List Row) (q : Due) (task : ℕ) → Numbered rows → (task ≡ q.task.0 → ⊥) → has q (task_dues models rows task) ≡ false
not_of_task models rows q task numbered other = go (row_at task rows) refl
  where
    go : (o : Option Row) → row_at task rows ≡ o → has q (option_map_or (row_dues models) o []) ≡ false
    go None at = refl
    go (Some r) at = not_of_row r q (λ e. other (sym (numbered task r at) ∙ e)) models

-- a due is of a changed task where it is of its task's row, and that is changed
has_changed : (models : List ModelOf) (rows puts : List Row) (q : Due) → Numbered rows → has q (flat_map (λ row. task_dues models rows row.task.0) puts) ≡ (is_some (last_of q.task.0 puts) && has q (task_dues models rows q.task.0))
has_changed models rows [] q numbered = refl
has_changed models rows (p ∷ puts) q numbered =
    has_append q (task_dues models rows p.task.0) (flat_map (λ row. task_dues models rows row.task.0) puts)
    ∙ ap (λ b. has q (task_dues models rows p.task.0) || b) (has_changed models rows puts q numbered)
    ∙ elim (cases_eq p.task.0 q.task.0) [
      | inl e ↦
          ap (λ n. has q (task_dues models rows n) || (is_some last && own)) e
          ∙ itself (is_some last) own
          ∙ ap (λ b. b && own) (sym (later_some last))
          ∙ ap (λ (b : Bool). is_some (option_or last (if b then Some p else None)) && own) (sym (eq-eqb p.task.0 q.task.0 e))
      | inr d ↦
          ap (λ b. b || (is_some last && own)) (not_of_task models rows q p.task.0 numbered d)
          ∙ ap (λ b. b && own) (sym (later_none last))
          ∙ ap (λ (b : Bool). is_some (option_or last (if b then Some p else None)) && own) (sym (apart p.task.0 q.task.0 d))
    ]
  where
    own : Bool
    own = has q (task_dues models rows q.task.0)

    last : Option Row
    last = last_of q.task.0 puts

    apart : (m n : ℕ) → (m ≡ n → ⊥) → (m == n) ≡ false
    apart m n d = grind (arith, nat_tests)

    itself : (c x : Bool) → (x || (c && x)) ≡ x
    itself true true = refl
    itself true false = refl
    itself false true = refl
    itself false false = refl

    later_some : (o : Option Row) → is_some (option_or o (Some p)) ≡ true
    later_some None = refl
    later_some (Some r) = refl

    later_none : (o : Option Row) → is_some (option_or o None) ≡ is_some o
    later_none None = refl
    later_none (Some r) = refl

-- ---- rows that are put

module _ (t : TablesOf) (puts : List Row) (follow : Follow t t.rows puts) (before : Numbered t.rows) (after : Numbered (fold put_in t.rows puts)) where
  abbrev rows_after : List Row
  rows_after = fold put_in t.rows puts

  abbrev gone : List Due
  gone = changed_dues t.models t.rows puts

  abbrev news : List Due
  news = changed_dues t.models rows_after puts

  has_all : (q : Due) → has q (all_dues t) ≡ has q (task_dues t.models t.rows q.task.0)
  has_all q = has_in_order q (flat_map (row_dues t.models) t.rows) ∙ has_flat t.models t.rows q before

  has_gone : (q : Due) → has q gone ≡ (is_some (last_of q.task.0 puts) && has q (task_dues t.models t.rows q.task.0))
  has_gone q = has_in_order q (flat_map (λ row. task_dues t.models t.rows row.task.0) puts) ∙ has_changed t.models t.rows puts q before

  has_news : (q : Due) → has q news ≡ (is_some (last_of q.task.0 puts) && has q (task_dues t.models rows_after q.task.0))
  has_news q = has_in_order q (flat_map (λ row. task_dues t.models rows_after row.task.0) puts) ∙ has_changed t.models rows_after puts q after

  -- the dues of a task of which no row is put stay
  kept : (q : Due) → is_some (last_of q.task.0 puts) ≡ false → has q (task_dues t.models t.rows q.task.0) ≡ has q (task_dues t.models rows_after q.task.0)
  kept q none = ap (λ (o : Option Row). has q (option_map_or (row_dues t.models) o [])) (sym (row_at-fold t t.rows puts q.task.0 follow ∙ not_put (last_of q.task.0 puts) none))
    where
      not_put : (o : Option Row) → is_some o ≡ false → option_or o (row_at q.task.0 t.rows) ≡ row_at q.task.0 t.rows
      not_put None e = refl
      not_put (Some r) e = cc

  pub are_new : AreNew news gone (all_dues t)
  are_new q new out = has_all q ∙ go (is_some (last_of q.task.0 puts)) (has q (task_dues t.models rows_after q.task.0)) (has q (task_dues t.models t.rows q.task.0)) (sym (has_news q) ∙ new) (sym (has_gone q) ∙ out)
    where
      go : (c a b : Bool) → (c && a) ≡ true → (c && b) ≡ false → b ≡ false
      go true a b e f = f
      go false a b e f = cc

  -- a due that there is after them was there before, or is of a changed task
  pub kept_or_new : (q : Due) → has q (in_order (flat_map (row_dues t.models) rows_after)) ≡ true → (has q (all_dues t) || has q news) ≡ true
  kept_or_new q h =
      ap (λ b. b || has q news) (has_all q)
      ∙ ap (λ b. has q (task_dues t.models t.rows q.task.0) || b) (has_news q)
      ∙ go (is_some (last_of q.task.0 puts)) (has q (task_dues t.models rows_after q.task.0)) (has q (task_dues t.models t.rows q.task.0)) (kept q) (sym (has_in_order q (flat_map (row_dues t.models) rows_after) ∙ has_flat t.models rows_after q after) ∙ h)
    where
      go : (c a b : Bool) → (c ≡ false → b ≡ a) → a ≡ true → (b || (c && a)) ≡ true
      go true a true same e = refl
      go true a false same e = e
      go false a b same e = ap (λ x. x || false) (same refl ∙ e)

  -- and the task of a new one is there
  pub new_there : (q : Due) → has q news ≡ true → has q (task_dues t.models rows_after q.task.0) ≡ true
  new_there q h = go (is_some (last_of q.task.0 puts)) (has q (task_dues t.models rows_after q.task.0)) (sym (has_news q) ∙ h)
    where
      go : (c a : Bool) → (c && a) ≡ true → a ≡ true
      go true a e = e
      go false a e = cc

  -- and each that goes was there
  pub were_there : (q : Due) → has q gone ≡ true → has q (all_dues t) ≡ true
  were_there q h = has_all q ∙ (and_parts (is_some (last_of q.task.0 puts)) (has q (task_dues t.models t.rows q.task.0)) (sym (has_gone q) ∙ h)).1

  -- the dues of all rows, once those of the changed tasks are out and the new ones in
  pub step_is : merged (all_dues t) gone news ≡ in_order (flat_map (row_dues t.models) rows_after)
  step_is = ordered (merged (all_dues t) gone news) (flat_map (row_dues t.models) rows_after) (ascends_merged (all_dues t) gone news (in_order_ascends (flat_map (row_dues t.models) t.rows))) (λ q.
      has_merged q (all_dues t) gone news (in_order_ascends (flat_map (row_dues t.models) t.rows))
      ∙ ap (λ b. b || (not (has q gone) && has q (all_dues t))) (has_news q)
      ∙ ap (λ b. (is_some (last_of q.task.0 puts) && has q (task_dues t.models rows_after q.task.0)) || (not b && has q (all_dues t))) (has_gone q)
      ∙ ap (λ b. (is_some (last_of q.task.0 puts) && has q (task_dues t.models rows_after q.task.0)) || (not (is_some (last_of q.task.0 puts) && has q (task_dues t.models t.rows q.task.0)) && b)) (has_all q)
      ∙ go (is_some (last_of q.task.0 puts)) (has q (task_dues t.models rows_after q.task.0)) (has q (task_dues t.models t.rows q.task.0)) (kept q)
      ∙ sym (has_flat t.models rows_after q after))
    where
      go : (c a b : Bool) → (c ≡ false → b ≡ a) → ((c && a) || (not (c && b) && b)) ≡ a
      go true true b same = refl
      go true false true same = refl
      go true false false same = refl
      go false a b same = same refl

-- ---- of the rows after a plan, without the dues of all

-- what is put of a task has its number
last_number : (puts : List Row) (task : ℕ) (row : Row) → last_of task puts ≡ Some row → row.task.0 ≡ task
last_number [] task row at = cc
last_number (p ∷ puts) task row at = here (last_of task puts) (p.task.0 == task) refl at (λ e. last_number puts task row e)
  where
    here : (o : Option Row) (b : Bool) → (p.task.0 == task) ≡ b → option_or o (if b then Some p else None) ≡ Some row → (o ≡ Some row → row.task.0 ≡ task) → row.task.0 ≡ task
    here (Some r) b is e rest = rest e
    here None true is e rest = let same : p ≡ row = cc in sym (ap (λ (r : Row). r.task.0) same) ∙ eqb-true p.task.0 task is
    here None false is e rest = cc

pub numbered_after : (t : TablesOf) (puts : List Row) → Follow t t.rows puts → Numbered t.rows → Numbered (fold put_in t.rows puts)
numbered_after t puts follow before task row at = here (last_of task puts) refl (sym (row_at-fold t t.rows puts task follow) ∙ at)
  where
    here : (o : Option Row) → last_of task puts ≡ o → option_or o (row_at task t.rows) ≡ Some row → row.task.0 ≡ task
    here (Some r) is e = last_number puts task row (is ∙ e)
    here None is e = before task row e

-- A due of a task of which a row is put is one of the changed tasks, and each other is as it was.
pub has_planned : (t : TablesOf) (p : PlanOf) (q : Due) → IsPlanOf t p → IsSound t → has q (all_dues (planned t p)) ≡ (if is_some (last_of q.task.0 (p.changes).rows) then has q (changed_dues t.models (planned t p).rows (p.changes).rows) else has q (all_dues t))
has_planned t p q fit sound =
    has_in_order q (flat_map (row_dues t.models) rows) ∙ has_flat t.models rows q after ∙ go (is_some (last_of q.task.0 puts)) refl
  where
    puts : List Row
    puts = (p.changes).rows

    rows : List Row
    rows = fold put_in t.rows puts

    after : Numbered rows
    after = numbered_after t puts fit.changes_fit sound.numbered

    go : (b : Bool) → is_some (last_of q.task.0 puts) ≡ b → has q (task_dues t.models rows q.task.0) ≡ (if b then has q (changed_dues t.models rows puts) else has q (all_dues t))
    go true e = ap (λ b. b && has q (task_dues t.models rows q.task.0)) (sym e) ∙ sym (has_news t puts fit.changes_fit sound.numbered after q)
    go false e = sym (kept t puts fit.changes_fit sound.numbered after q e) ∙ sym (has_all t puts fit.changes_fit sound.numbered after q)

-- one of the changed tasks is of a task of which a row is put
pub of_changed : (t : TablesOf) (p : PlanOf) (q : Due) → IsPlanOf t p → IsSound t → has q (changed_dues t.models (planned t p).rows (p.changes).rows) ≡ true → is_some (last_of q.task.0 (p.changes).rows) ≡ true
of_changed t p q fit sound there =
    let puts = (p.changes).rows in
    let after = numbered_after t puts fit.changes_fit sound.numbered in
    (and_parts (is_some (last_of q.task.0 puts)) (has q (task_dues t.models (planned t p).rows q.task.0)) (sym (has_news t puts fit.changes_fit sound.numbered after q) ∙ there)).0

-- ---- a commit

pub changed_ascend : (models : List ModelOf) (rows puts : List Row) → Ascends (changed_dues models rows puts)
changed_ascend models rows puts = in_order_ascends (flat_map (λ row. task_dues models rows row.task.0) puts)

-- dues in step can give away the old dues of a plan's tasks and take in the new ones, and then they are
-- in step with the rows after the plan
pub record ChangesDues (t : RoomyTables) (p : PlanOf) (dues : List Due) : Type 0 where
  pub ascend : Ascends dues
  pub gone : Ascends t.gone
  pub news : Ascends t.news
  pub there : (q : Due) → has q t.gone ≡ true → has q dues ≡ true
  pub absent : AreNew t.news t.gone dues
  pub due : merged dues t.gone t.news ≡ all_dues (planned t.tables p)

pub changes_dues : (t : RoomyTables) (p : PlanOf) (at : ℕ) (dues : List Due) → IsPlanOf t.tables p → IsSound t.tables → IsSound (committed t.tables p at) → AreDuesPrepared t p → dues ≡ all_dues t.tables → ChangesDues t p dues
changes_dues t p at dues fit before after prepared is =
    let u = t.tables in
    let puts = (p.changes).rows in
    let G : List Due → Type 0 = λ gone. AreNew (changed_dues u.models (planned u p).rows puts) gone dues in
    let N : List Due → Type 0 = λ news. AreNew news t.gone dues in
    let D : List Due → Type 0 = λ all. AreNew (changed_dues u.models (planned u p).rows puts) (changed_dues u.models u.rows puts) all in
    record {
      ascend = subst Ascends (sym is) (in_order_ascends (flat_map (row_dues u.models) u.rows));
      gone = subst Ascends (sym prepared.gone) (changed_ascend u.models u.rows puts);
      news = subst Ascends (sym prepared.news) (changed_ascend u.models (planned u p).rows puts);
      there = λ q h. ap (has q) is ∙ were_there u puts fit.changes_fit before.numbered after.numbered q (ap (has q) (sym prepared.gone) ∙ h);
      absent = subst N (sym prepared.news) (subst G (sym prepared.gone) (subst D (sym is) (are_new u puts fit.changes_fit before.numbered after.numbered)));
      due =
          ap (λ all. merged all t.gone t.news) is
          ∙ ap (λ gone. merged (all_dues u) gone t.news) prepared.gone
          ∙ ap (λ news. merged (all_dues u) (changed_dues u.models u.rows puts) news) prepared.news
          ∙ step_is u puts fit.changes_fit before.numbered after.numbered;
    }
