-- How much may still be taken of tasks: it grows by nothing that is done, and falls where something is taken.
use Rattle.std.proofs.Common.{◌≡◌, ◌⊎◌, ℕ, ◌+◌, ◌<◌, ◌≤◌, zero, suc, Bool, true, false, if◌then◌else◌, List, Option, None, Some, inl, inr, refl, sym, ap, ◌∙◌, eq-eqb, arith}
use Rattle.std.proofs.lemmas.Bool.{cases_eq}
use Rattle.ht_base.specs.declared.moment.Moment.{Moment}
use Rattle.ht_base.specs.declared.task_id.TaskId.{TaskId}
use Rattle.ht_base.specs.Persons.{has}
use Rattle.ht_compose.proofs.AgingTables.{all_age_further, put_ages}
use Rattle.ht_compose.specs.Aging.{Ages, AllAge}
use Rattle.ht_compose.specs.Work.{AreNumbered}
use Rattle.ht_tree.proofs.PublicLaws.{row_at-put_in, within}
use Rattle.ht_tree.specs.declared.row.Row.{Row}
use Rattle.ht_tree.specs.Plans.{IsNext}
use Rattle.ht_tree.specs.Rows.{row_at}
use Rattle.ht_tree.specs.Tables.{TablesOf, task_row, with_row}

-- ---- what is left

-- one where there is a moment
abbrev pub one_of : Option Moment → ℕ
one_of None = 0
one_of (Some m) = 1

-- one where it isn't so
abbrev pub unless : Bool → ℕ
unless true = 0
unless false = 1

-- the places, of as many, whose deadlines weren't taken
abbrev pub not_taken : ℕ → List ℕ → ℕ
not_taken zero taken = 0
not_taken (suc n) taken = unless (has n taken) + not_taken n taken

-- of a task whose model has at most as many deadlines: its activation, the end of its suspension, and they
abbrev pub left_of : ℕ → Row → ℕ
left_of most row = one_of row.waits + one_of row.until + not_taken most row.taken

-- a task to come has all of it
abbrev pub left_at : ℕ → Option Row → ℕ
left_at most None = most + 2
left_at most (Some row) = left_of most row

-- of all tasks up to a number
abbrev pub left : ℕ → ℕ → TablesOf → ℕ
left most zero u = 0
left most (suc n) u = left_at most (task_row u (suc n)) + left most n u

-- ---- deadlines

-- what was taken before is taken still
abbrev TakesMore : List ℕ → List ℕ → Type 0
TakesMore old new = (place : ℕ) → has place old ≡ true → has place new ≡ true

-- no more than all places are left
at_most : (n : ℕ) (taken : List ℕ) → not_taken n taken ≤ n
at_most zero taken = omega arith
at_most (suc n) taken = go (has n taken) (at_most n taken)
  where
    go : (b : Bool) → not_taken n taken ≤ n → unless b + not_taken n taken ≤ suc n
    go true h = omega (arith, h)
    go false h = omega (arith, h)

-- and no more than before
not_taken_less : (n : ℕ) (old new : List ℕ) → TakesMore old new → not_taken n new ≤ not_taken n old
not_taken_less zero old new more = omega arith
not_taken_less (suc n) old new more = go (has n old) (has n new) refl refl (not_taken_less n old new more)
  where
    go : (a b : Bool) → has n old ≡ a → has n new ≡ b → not_taken n new ≤ not_taken n old → unless b + not_taken n new ≤ unless a + not_taken n old
    go a true e f h = omega (arith, h)
    go true false e f h = absurd (let g = more n e in cc)
    go false false e f h = omega (arith, h)

-- one fewer, where one more was taken
not_taken_fewer : (n : ℕ) (old new : List ℕ) (place : ℕ) → TakesMore old new → place < n → has place old ≡ false → has place new ≡ true → not_taken n new + 1 ≤ not_taken n old
not_taken_fewer zero old new place more low was is = absurd (omega arith)
not_taken_fewer (suc n) old new place more low was is = elim (cases_eq place n) [
  | inl e ↦
      let a : has n old ≡ false = ap (λ (k : ℕ). has k old) (sym e) ∙ was in
      let b : has n new ≡ true = ap (λ (k : ℕ). has k new) (sym e) ∙ is in
      let first : unless (has n old) ≡ 1 = ap unless a in
      let second : unless (has n new) ≡ 0 = ap unless b in
      let rest = not_taken_less n old new more in
      omega (arith, first, second, rest)
  | inr d ↦ go (has n old) (has n new) refl refl (not_taken_fewer n old new place more (omega (arith, low, d)) was is)
]
  where
    go : (a b : Bool) → has n old ≡ a → has n new ≡ b → not_taken n new + 1 ≤ not_taken n old → unless b + not_taken n new + 1 ≤ unless a + not_taken n old
    go a true e f h = omega (arith, h)
    go true false e f h = absurd (let g = more n e in cc)
    go false false e f h = omega (arith, h)

-- ---- one task

-- a moment that may be gone
gone_less : (old new : Option Moment) → (new ≡ None) ⊎ (new ≡ old) → one_of new ≤ one_of old
gone_less old new (inl gone) = let none : one_of new ≡ 0 = ap one_of gone in omega (arith, none)
gone_less old new (inr same) = let as_many : one_of new ≡ one_of old = ap one_of same in omega (arith, as_many)

module _ (most : ℕ) (old new : Row) (ages : Ages old new) where
  -- nothing more is left of a task that ages: no activation
  waits_less : one_of new.waits ≤ one_of old.waits
  waits_less = gone_less old.waits new.waits ages.waits

  -- no end of a suspension
  until_less : one_of new.until ≤ one_of old.until
  until_less = gone_less old.until new.until ages.until

  -- no deadline
  taken_less : not_taken most new.taken ≤ not_taken most old.taken
  taken_less = not_taken_less most old.taken new.taken ages.taken

  -- and none of these
  pub ages_less : left_of most new ≤ left_of most old
  ages_less = omega (arith, waits_less, until_less, taken_less)

  -- it waits no more
  pub activated_less : (m : Moment) → old.waits ≡ Some m → new.waits ≡ None → left_of most new + 1 ≤ left_of most old
  activated_less m was is =
      let before : one_of old.waits ≡ 1 = ap one_of was in
      let now : one_of new.waits ≡ 0 = ap one_of is in
      omega (arith, before, now, until_less, taken_less)

  -- its suspension has ended
  pub resumed_less : (m : Moment) → old.until ≡ Some m → new.until ≡ None → left_of most new + 1 ≤ left_of most old
  resumed_less m was is =
      let before : one_of old.until ≡ 1 = ap one_of was in
      let now : one_of new.until ≡ 0 = ap one_of is in
      omega (arith, before, now, waits_less, taken_less)

  -- a deadline more was taken
  pub escalated_less : (place : ℕ) → place < most → has place old.taken ≡ false → has place new.taken ≡ true → left_of most new + 1 ≤ left_of most old
  escalated_less place low was is =
      let fewer = not_taken_fewer most old.taken new.taken place ages.taken low was is in
      omega (arith, fewer, waits_less, until_less)

-- ---- all tasks

-- nothing more is left of a task, nor of one that comes
at_less : (most : ℕ) (at : Moment) (u v : TablesOf) (task : ℕ) → AllAge at u v → left_at most (task_row v task) ≤ left_at most (task_row u task)
at_less most at u v task all = go (task_row u task) refl
  where
    come : (o : Option Row) → task_row v task ≡ o → task_row u task ≡ None → left_at most o ≤ most + 2
    come None is none = omega arith
    come (Some row) is none =
        let new = all.new task row is none in
        let waits : one_of row.waits ≡ 0 = ap one_of new.1 in
        let until : one_of row.until ≡ 0 = ap one_of new.2 in
        let taken = at_most most row.taken in
        omega (arith, waits, until, taken)

    go : (o : Option Row) → task_row u task ≡ o → left_at most (task_row v task) ≤ left_at most o
    go None none = come (task_row v task) refl none
    go (Some row) is =
        let x = all.there task row is in
        let same : left_at most (task_row v task) ≡ left_of most x.0 = ap (left_at most) x.1 in
        let less = ages_less most row x.0 x.2 in
        omega (arith, same, less)

-- nor of all
left_less : (most n : ℕ) (at : Moment) (u v : TablesOf) → AllAge at u v → left most n v ≤ left most n u
left_less most zero at u v all = omega arith
left_less most (suc n) at u v all =
    let one = at_less most at u v (suc n) all in
    let rest = left_less most n at u v all in
    omega (arith, one, rest)

-- and less, where less is of one of them
left_fewer : (most n : ℕ) (at : Moment) (u v : TablesOf) (task : ℕ) → AllAge at u v → 1 ≤ task → task ≤ n → left_at most (task_row v task) + 1 ≤ left_at most (task_row u task) → left most n v + 1 ≤ left most n u
left_fewer most zero at u v task all low high less = absurd (omega (arith, low, high))
left_fewer most (suc n) at u v task all low high less = elim (cases_eq task (suc n)) [
  | inl e ↦
      let old : left_at most (task_row u task) ≡ left_at most (task_row u (suc n)) = ap (λ (k : ℕ). left_at most (task_row u k)) e in
      let new : left_at most (task_row v task) ≡ left_at most (task_row v (suc n)) = ap (λ (k : ℕ). left_at most (task_row v k)) e in
      let rest = left_less most n at u v all in
      omega (arith, old, new, rest, less)
  | inr d ↦
      let one = at_less most at u v (suc n) all in
      let rest = left_fewer most n at u v task all low (omega (arith, high, d)) less in
      omega (arith, one, rest)
]

-- something was taken of a task, and then all tasks aged
pub taken_fewer : (most n : ℕ) (at : Moment) (u v : TablesOf) (task : ℕ) (old new : Row) → AreNumbered u.rows → task_row u task ≡ Some old → task ≤ n → Ages old new → left_of most new + 1 ≤ left_of most old → AllAge at (with_row u new) v → left most n v + 1 ≤ left most n u
taken_fewer most n at u v task old new numbered there high ages less all =
    let number : new.task.0 ≡ task = ap (λ (id : TaskId). id.0) ages.task ∙ numbered task old there in
    let place = within u.rows old task there in
    let low = place.0 in
    let last = place.1 in
    let next : IsNext u.rows new = (omega (arith, low, number), omega (arith, last, number)) in
    let found : task_row (with_row u new) task ≡ Some new = row_at-put_in u.rows new task next ∙ ap (λ (b : Bool). if b then Some new else row_at task u.rows) (eq-eqb new.task.0 task number) in
    let after = all.there task new found in
    let first = put_ages at u task old new numbered there ages in
    let was : left_at most (task_row u task) ≡ left_of most old = ap (left_at most) there in
    let is : left_at most (task_row v task) ≡ left_of most after.0 = ap (left_at most) after.1 in
    let further = ages_less most new after.0 after.2 in
    left_fewer most n at u v task (all_age_further at u (with_row u new) v first all) low high (omega (arith, was, is, further, less))
