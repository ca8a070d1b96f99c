-- Which due is of which row, and what it says of it.
use Rattle.std.proofs.Common.{◌≡◌, ℕ, ◌+◌, zero, suc, Bool, true, false, if◌then◌else◌, List, [], ◌∷◌, ◌++◌, Option, Some, None, refl, sym, ap, subst, ◌∙◌, inl, inr, ◌⊎◌, ◌||◌, ◌&&◌, ◌==◌, ◌≤◌, length, leb-false, eq-eqb, arith}
use Rattle.std.specs.Prelude.{nat_le, nat_lt, slice_get}
use Rattle.std.proofs.lemmas.Bool.{cases_eq}
use Rattle.std.proofs.lemmas.Bool.Decides.{nat_tests}
use Rattle.std.specs.Option.{option_map_or}
use Rattle.std.specs.List.{flat_map}
use Rattle.std.specs.Ordering.{is_eq}
use Rattle.std.specs.declared.cmp.Ordering.{Ordering}
use Rattle.std.specs.declared.cmp.Ordering.TheVariants.{Less, Equal, Greater}
use Rattle.ht_base.specs.declared.moment.Moment.{Moment}
use Rattle.ht_base.specs.Persons as persons
use Rattle.ht_due.specs.declared.due.Due.{Due}
use Rattle.ht_due.specs.Dues.{Ascends, compare_dues, has}
use Rattle.ht_due.proofs.PublicLaws.{exact, itself, has_append, has_in_order, in_order_ascends}
use Rattle.ht_entries.specs.declared.deadlines.DeadlineKind.{DeadlineKind}
use Rattle.ht_entries.specs.declared.deadlines.DeadlineKind.TheVariants.{Start, Completion}
use Rattle.ht_models.specs.Model.{DeadlineOf, ModelOf}
use Rattle.ht_tree.specs.declared.row.Row.{Row}
use Rattle.ht_tree.specs.Plans.{IsPlanOf, PlanOf, planned}
use Rattle.ht_tree.specs.Soundness.{IsSound}
use Rattle.ht_tree.specs.RowDues.{all_dues, changed_dues, deadline_as, deadline_due, deadline_dues, deadline_moment, deadlines_of, due_of, is_obsolete, kind_of, moment_as, open_moment, row_dues, task_dues}
use Rattle.ht_tree.specs.Rows.{row_at}
use Rattle.ht_tree.specs.Tables.{TablesOf}
use Rattle.ht_tree.proofs.DuesInStep.{Numbered, has_flat, kept_or_new, new_there, not_of_task, or_false}
use Rattle.ht_tree.proofs.Sounding.{within}

-- ---- of all rows

of_its_task : (u : TablesOf) (q : Due) → Numbered u.rows → has q (all_dues u) ≡ has q (task_dues u.models u.rows q.task.0)
of_its_task u q numbered = has_in_order q (flat_map (row_dues u.models) u.rows) ∙ has_flat u.models u.rows q numbered

pub by_its_row : (u : TablesOf) (q : Due) (row : Row) → Numbered u.rows → row_at q.task.0 u.rows ≡ Some row → has q (all_dues u) ≡ has q (row_dues u.models row)
by_its_row u q row numbered there = of_its_task u q numbered ∙ ap (λ (o : Option Row). has q (option_map_or (row_dues u.models) o [])) there

pub by_no_row : (u : TablesOf) (q : Due) → Numbered u.rows → row_at q.task.0 u.rows ≡ None → has q (all_dues u) ≡ false
by_no_row u q numbered none = of_its_task u q numbered ∙ ap (λ (o : Option Row). has q (option_map_or (row_dues u.models) o [])) none

-- the row of a due
pub record HasRow (u : TablesOf) (q : Due) : Type 0 where
  pub row : Row
  pub there : row_at q.task.0 u.rows ≡ Some row
  pub due : has q (row_dues u.models row) ≡ true

pub row_of_due : (u : TablesOf) (q : Due) → Numbered u.rows → has q (all_dues u) ≡ true → HasRow u q
row_of_due u q numbered h = go (row_at q.task.0 u.rows) refl
  where
    go : (o : Option Row) → row_at q.task.0 u.rows ≡ o → HasRow u q
    go None at = let none = by_no_row u q numbered at in absurd cc
    go (Some row) at = record { row = row; there = at; due = sym (by_its_row u q row numbered at) ∙ h }

pub due_of_row : (u : TablesOf) (q : Due) (row : Row) → Numbered u.rows → row_at q.task.0 u.rows ≡ Some row → has q (row_dues u.models row) ≡ true → has q (all_dues u) ≡ true
due_of_row u q row numbered there h = by_its_row u q row numbered there ∙ h

pub all_dues_ascend : (u : TablesOf) → Ascends (all_dues u)
all_dues_ascend u = in_order_ascends (flat_map (row_dues u.models) u.rows)

-- ---- of a plan

module _ (t : TablesOf) (p : PlanOf) (fit : IsPlanOf t p) (before : IsSound t) (after : IsSound (planned t p)) (q : Due) where
  abbrev changed : List Due
  changed = changed_dues t.models (planned t p).rows (p.changes).rows

  -- what is due after it was due before, or is of a task that it changes
  pub kept_or_changed : has q (all_dues (planned t p)) ≡ true → (has q (all_dues t) || has q changed) ≡ true
  kept_or_changed h = kept_or_new t (p.changes).rows fit.changes_fit before.numbered after.numbered q h

  pub changed_there : has q changed ≡ true → q.task.0 ≤ length (planned t p).rows
  changed_there h =
      let its = row_of_due (planned t p) q after.numbered (of_its_task (planned t p) q after.numbered ∙ new_there t (p.changes).rows fit.changes_fit before.numbered after.numbered q h) in
      (within (planned t p).rows its.row q.task.0 its.there).1

-- ---- of the tasks behind a number

-- those of one task more
module _ (models : List ModelOf) (rows : List Row) (numbered : Numbered rows) (last id : ℕ) where
  abbrev Has : List Due → ℕ → Type 0
  Has xs id = (q : Due) → has q xs ≡ ((nat_lt last q.task.0 && nat_le q.task.0 id) && has q (task_dues models rows q.task.0))

  pub one_task_more : (xs ys : List Due) (o : Option Row) → last ≤ id → o ≡ row_at (id + 1) rows → ys ≡ xs ++ option_map_or (row_dues models) o [] → Has xs id → Has ys (id + 1)
  one_task_more xs ys o low at more h q =
      ap (λ (l : List Due). has q l) more
      ∙ ap (λ (r : Option Row). has q (xs ++ option_map_or (row_dues models) r [])) at
      ∙ has_append q xs (task_dues models rows (id + 1))
      ∙ ap (λ b. b || has q (task_dues models rows (id + 1))) (h q)
      ∙ elim (cases_eq q.task.0 (id + 1)) [ inl e ↦ here e | inr d ↦ other d ]
    where
      here : q.task.0 ≡ id + 1 → (((nat_lt last q.task.0 && nat_le q.task.0 id) && has q (task_dues models rows q.task.0)) || has q (task_dues models rows (id + 1))) ≡ ((nat_lt last q.task.0 && nat_le q.task.0 (id + 1)) && has q (task_dues models rows q.task.0))
      here e =
          let not_yet : nat_le q.task.0 id ≡ false = grind (arith, nat_tests) in
          let now : nat_le q.task.0 (id + 1) ≡ true = grind (arith, nat_tests) in
          let behind : nat_lt last q.task.0 ≡ true = grind (arith, nat_tests) in
          rw (not_yet, now, behind) (ap (λ (n : ℕ). has q (task_dues models rows n)) (sym e))

      other : (q.task.0 ≡ id + 1 → ⊥) → (((nat_lt last q.task.0 && nat_le q.task.0 id) && has q (task_dues models rows q.task.0)) || has q (task_dues models rows (id + 1))) ≡ ((nat_lt last q.task.0 && nat_le q.task.0 (id + 1)) && has q (task_dues models rows q.task.0))
      other d =
          let none = not_of_task models rows q (id + 1) numbered (λ e. d (sym e)) in
          let same : nat_le q.task.0 id ≡ nat_le q.task.0 (id + 1) = grind (arith, nat_tests) in
          ap (λ b. ((nat_lt last q.task.0 && nat_le q.task.0 id) && has q (task_dues models rows q.task.0)) || b) none
          ∙ or_false ((nat_lt last q.task.0 && nat_le q.task.0 id) && has q (task_dues models rows q.task.0))
          ∙ ap (λ b. (nat_lt last q.task.0 && b) && has q (task_dues models rows q.task.0)) same

-- and once all tasks are passed
pub all_tasks : (u : TablesOf) (last id : ℕ) (q : Due) → Numbered u.rows → length u.rows ≤ id → ((nat_lt last q.task.0 && nat_le q.task.0 id) && has q (task_dues u.models u.rows q.task.0)) ≡ (nat_lt last q.task.0 && has q (all_dues u))
all_tasks u last id q numbered all = ap (λ b. (nat_lt last q.task.0 && nat_le q.task.0 id) && b) (sym (of_its_task u q numbered)) ∙ go (nat_le q.task.0 id) refl
  where
    go : (b : Bool) → nat_le q.task.0 id ≡ b → ((nat_lt last q.task.0 && nat_le q.task.0 id) && has q (all_dues u)) ≡ (nat_lt last q.task.0 && has q (all_dues u))
    go true e = rw e (ap (λ b. b && has q (all_dues u)) (and_true (nat_lt last q.task.0)))
      where
        and_true : (b : Bool) → (b && true) ≡ b
        and_true true = refl
        and_true false = refl
    go false e =
        let high = leb-false q.task.0 id e in
        let none : has q (all_dues u) ≡ false = not_there (has q (all_dues u)) refl in
        rw (e, none) (and_false (nat_lt last q.task.0 && false) ∙ sym (and_false (nat_lt last q.task.0)))
      where
        and_false : (b : Bool) → (b && false) ≡ false
        and_false true = refl
        and_false false = refl

        not_there : (b : Bool) → has q (all_dues u) ≡ b → has q (all_dues u) ≡ false
        not_there false h = h
        not_there true h =
            let its = row_of_due u q numbered h in
            let place = within u.rows its.row q.task.0 its.there in
            let low = place.1 in
            let high = leb-false q.task.0 id e in
            absurd (omega arith)

-- ---- of one row

-- a deadline of the row's model that is due then
pub record IsOfDeadline (row : Row) (ds : List DeadlineOf) (place : ℕ) (q : Due) : Type 0 where
  pub d : DeadlineOf
  pub there : slice_get ds place ≡ Some d
  pub kind : q.kind ≡ kind_of d.kind
  pub not_taken : persons.has q.place row.taken ≡ false
  pub not_obsolete : is_obsolete d.kind row ≡ false
  pub moment : deadline_moment row d ≡ Some q.at

-- its moment says that it is neither taken nor obsolete
of_open : (row : Row) (ds : List DeadlineOf) (place : ℕ) (q : Due) (d : DeadlineOf) → slice_get ds place ≡ Some d → q.kind ≡ kind_of d.kind → open_moment row q.place d ≡ Some q.at → IsOfDeadline row ds place q
of_open row ds place q d there kind is = go (persons.has q.place row.taken) (is_obsolete d.kind row) refl refl is
  where
    go : (a b : Bool) → persons.has q.place row.taken ≡ a → is_obsolete d.kind row ≡ b → (if a || b then None else deadline_moment row d) ≡ Some q.at → IsOfDeadline row ds place q
    go true b e f is = absurd cc
    go false true e f is = absurd cc
    go false false e f is = record { d = d; there = there; kind = kind; not_taken = e; not_obsolete = f; moment = is }

is_open : (row : Row) (ds : List DeadlineOf) (place : ℕ) (q : Due) (is : IsOfDeadline row ds place q) → open_moment row q.place is.d ≡ Some q.at
is_open row ds place q is =
    ap (λ (b : Bool). if b || is_obsolete (is.d).kind row then None else deadline_moment row is.d) is.not_taken
    ∙ ap (λ (b : Bool). if b then None else deadline_moment row is.d) is.not_obsolete
    ∙ is.moment

-- what a due says of its row
pub data IsOfRow (models : List ModelOf) (row : Row) (q : Due) : Type 0 where
  waits : q.kind ≡ 0 → q.place ≡ 0 → row.waits ≡ Some q.at → IsOfRow models row q
  until : q.kind ≡ 1 → q.place ≡ 0 → row.until ≡ Some q.at → IsOfRow models row q
  deadline : IsOfDeadline row (deadlines_of models row) q.place q → IsOfRow models row q

either : (q : Due) (xs ys : List Due) → has q (xs ++ ys) ≡ true → (has q xs ≡ true) ⊎ (has q ys ≡ true)
either q xs ys h = go (has q xs) refl
  where
    go : (b : Bool) → has q xs ≡ b → (has q xs ≡ true) ⊎ (has q ys ≡ true)
    go true e = inl e
    go false e = inr (ap (λ b. b || has q ys) (sym e) ∙ sym (has_append q xs ys) ∙ h)

record IsAlone (row : Row) (kind place : ℕ) (at : Option Moment) (q : Due) : Type 0 where
  kind_is : q.kind ≡ kind
  place_is : q.place ≡ place
  moment_is : at ≡ Some q.at

alone : (row : Row) (kind place : ℕ) (at : Option Moment) (q : Due) → has q (due_of row kind place at) ≡ true → IsAlone row kind place at q
alone row kind place None q h = absurd cc
alone row kind place (Some at) q h = go (compare_dues q due) refl
  where
    due : Due
    due = record { at = at; task = row.task; kind = kind; place = place }

    go : (o : Ordering) → compare_dues q due ≡ o → IsAlone row kind place (Some at) q
    go Equal e =
        let same = exact q due e in
        record { kind_is = ap (λ (d : Due). d.kind) same; place_is = ap (λ (d : Due). d.place) same; moment_is = ap (λ (d : Due). Some d.at) (sym same) }
    go Less e = let none : has q (due ∷ []) ≡ false = ap (λ o. is_eq o || false) e in absurd cc
    go Greater e = let none : has q (due ∷ []) ≡ false = ap (λ o. is_eq o || false) e in absurd cc

of_deadlines : (row : Row) (from : ℕ) (ds : List DeadlineOf) (q : Due) → has q (deadline_dues row from ds) ≡ true → (n : ℕ) × (q.place ≡ from + n) × IsOfDeadline row ds n q
of_deadlines row from [] q h = absurd cc
of_deadlines row from (d ∷ ds) q h = elim (either q (deadline_due row from d) (deadline_dues row (from + 1) ds) h) [
  | inl first ↦
      let a = alone row (kind_of d.kind) from (open_moment row from d) q first in
      let place = a.place_is in
      (zero, omega (arith, place), of_open row (d ∷ ds) zero q d refl a.kind_is (ap (λ (n : ℕ). open_moment row n d) place ∙ a.moment_is))
  | inr later ↦
      let rest = of_deadlines row (from + 1) ds q later in
      let e = rest.1 in
      let it = rest.2 in (
        suc rest.0,
        omega (arith, e),
        record { d = it.d; there = it.there; kind = it.kind; not_taken = it.not_taken; not_obsolete = it.not_obsolete; moment = it.moment },
      )
]

pub means_due : (models : List ModelOf) (row : Row) (q : Due) → has q (row_dues models row) ≡ true → IsOfRow models row q
means_due models row q h = elim (either q (due_of row 0 0 row.waits ++ due_of row 1 0 row.until) (deadline_dues row 0 (deadlines_of models row)) h) [
  | inl two ↦ elim (either q (due_of row 0 0 row.waits) (due_of row 1 0 row.until) two) [
    | inl w ↦ let a = alone row 0 0 row.waits q w in waits a.kind_is a.place_is a.moment_is
    | inr u ↦ let a = alone row 1 0 row.until q u in until a.kind_is a.place_is a.moment_is
  ]
  | inr ds ↦
      let its = of_deadlines row 0 (deadlines_of models row) q ds in
      let place : its.0 ≡ q.place = let e = its.1 in omega (arith, e) in
      let P : ℕ → Type 0 = λ n. IsOfDeadline row (deadlines_of models row) n q in
      deadline (subst P place its.2)
]

-- ---- and back

first_of : (q : Due) (xs ys : List Due) → has q xs ≡ true → has q (xs ++ ys) ≡ true
first_of q xs ys h = has_append q xs ys ∙ ap (λ b. b || has q ys) h

second_of : (q : Due) (xs ys : List Due) → has q ys ≡ true → has q (xs ++ ys) ≡ true
second_of q xs ys h = has_append q xs ys ∙ ap (λ b. has q xs || b) h ∙ always (has q xs)
  where
    always : (b : Bool) → (b || true) ≡ true
    always true = refl
    always false = refl

module _ (row : Row) (q : Due) (task : q.task ≡ row.task) where
  has_alone : (kind place : ℕ) (at : Option Moment) → q.kind ≡ kind → q.place ≡ place → at ≡ Some q.at → has q (due_of row kind place at) ≡ true
  has_alone kind place at k p m =
      let same : q ≡ record { at = q.at; task = row.task; kind = kind; place = place } = λ i. record { at = q.at; task = task i; kind = k i; place = p i } in
      ap (λ (o : Option Moment). has q (due_of row kind place o)) m
      ∙ ap (λ (d : Due). is_eq (compare_dues q d) || false) (sym same)
      ∙ ap (λ o. is_eq o || false) (itself q)

  has_deadline : (from : ℕ) (ds : List DeadlineOf) (n : ℕ) → q.place ≡ from + n → IsOfDeadline row ds n q → has q (deadline_dues row from ds) ≡ true
  has_deadline from [] n place is = let there = is.there in absurd cc
  has_deadline from (d ∷ ds) zero place is =
      let same : d ≡ is.d = (let there = is.there in cc) in
      let here : q.place ≡ from = omega (arith, place) in
      let moment : open_moment row from d ≡ Some q.at =
      ap (λ (n : ℕ). open_moment row n d) (sym here) ∙ ap (λ (x : DeadlineOf). open_moment row q.place x) same ∙ is_open row (d ∷ ds) zero q is in
      first_of q (deadline_due row from d) (deadline_dues row (from + 1) ds)
      (has_alone (kind_of d.kind) from (open_moment row from d) (is.kind ∙ ap (λ (x : DeadlineOf). kind_of x.kind) (sym same)) here moment)
  has_deadline from (d ∷ ds) (suc n) place is =
      second_of q (deadline_due row from d) (deadline_dues row (from + 1) ds)
      (has_deadline (from + 1) ds n (omega (arith, place)) (record { d = is.d; there = is.there; kind = is.kind; not_taken = is.not_taken; not_obsolete = is.not_obsolete; moment = is.moment }))

  pub is_due : (models : List ModelOf) → IsOfRow models row q → has q (row_dues models row) ≡ true
  is_due models (waits k p m) =
      first_of q (due_of row 0 0 row.waits ++ due_of row 1 0 row.until) (deadline_dues row 0 (deadlines_of models row))
      (first_of q (due_of row 0 0 row.waits) (due_of row 1 0 row.until) (has_alone 0 0 row.waits k p m))
  is_due models (until k p m) =
      first_of q (due_of row 0 0 row.waits ++ due_of row 1 0 row.until) (deadline_dues row 0 (deadlines_of models row))
      (second_of q (due_of row 0 0 row.waits) (due_of row 1 0 row.until) (has_alone 1 0 row.until k p m))
  is_due models (deadline is) =
      second_of q (due_of row 0 0 row.waits ++ due_of row 1 0 row.until) (deadline_dues row 0 (deadlines_of models row))
      (has_deadline 0 (deadlines_of models row) q.place (omega arith) is)

-- ---- told by the moment

module _ (models : List ModelOf) (row : Row) (q : Due) where
  of_deadline : (k p : ℕ) (o : Option DeadlineOf) → q.kind ≡ k → q.place ≡ p → slice_get (deadlines_of models row) p ≡ o → deadline_as row k p o ≡ Some q.at → IsOfRow models row q
  of_deadline k p None kind place there m = absurd cc
  of_deadline k p (Some d) kind place there m = go (k == kind_of d.kind) refl m
    where
      go : (b : Bool) → (k == kind_of d.kind) ≡ b → (if b then open_moment row p d else None) ≡ Some q.at → IsOfRow models row q
      go false e m = absurd cc
      go true e m =
          let its : k ≡ kind_of d.kind = grind (arith, nat_tests) in
          let P : ℕ → Type 0 = λ n. slice_get (deadlines_of models row) n ≡ Some d in
          IsOfRow.deadline (of_open row (deadlines_of models row) q.place q d (subst P (sym place) there) (kind ∙ its) (ap (λ (n : ℕ). open_moment row n d) place ∙ m))

  by_moment : (k p : ℕ) → q.kind ≡ k → q.place ≡ p → moment_as models row k p ≡ Some q.at → IsOfRow models row q
  by_moment zero zero kind place m = IsOfRow.waits kind place m
  by_moment (suc zero) zero kind place m = IsOfRow.until kind place m
  by_moment zero (suc p) kind place m = of_deadline zero (suc p) (slice_get (deadlines_of models row) (suc p)) kind place refl m
  by_moment (suc zero) (suc p) kind place m = of_deadline (suc zero) (suc p) (slice_get (deadlines_of models row) (suc p)) kind place refl m
  by_moment (suc (suc k)) p kind place m = of_deadline (suc (suc k)) p (slice_get (deadlines_of models row) p) kind place refl m

  its_deadline : (k : DeadlineKind) (p : ℕ) → moment_as models row (kind_of k) p ≡ deadline_as row (kind_of k) p (slice_get (deadlines_of models row) p)
  its_deadline Start p = refl
  its_deadline Completion p = refl

  its_moment : IsOfRow models row q → moment_as models row q.kind q.place ≡ Some q.at
  its_moment (IsOfRow.waits k p m) = ap (λ (n : ℕ). moment_as models row n q.place) k ∙ ap (λ (n : ℕ). moment_as models row 0 n) p ∙ m
  its_moment (IsOfRow.until k p m) = ap (λ (n : ℕ). moment_as models row n q.place) k ∙ ap (λ (n : ℕ). moment_as models row 1 n) p ∙ m
  its_moment (IsOfRow.deadline is) =
      let kind = (is.d).kind in
      let same : (kind_of kind == kind_of kind) ≡ true = grind (arith, nat_tests) in
      ap (λ (n : ℕ). moment_as models row n q.place) is.kind
      ∙ its_deadline kind q.place
      ∙ ap (λ (o : Option DeadlineOf). deadline_as row (kind_of kind) q.place o) is.there
      ∙ ap (λ (b : Bool). if b then open_moment row q.place is.d else None) same
      ∙ is_open row (deadlines_of models row) q.place q is

  -- a test of the moment tells whether the due is one of the row's
  pub told_due : (told : Bool) → q.task ≡ row.task → (told ≡ true → moment_as models row q.kind q.place ≡ Some q.at) → (moment_as models row q.kind q.place ≡ Some q.at → told ≡ true) → told ≡ has q (row_dues models row)
  told_due told task there back = both told (has q (row_dues models row)) (λ e. is_due row q task models (by_moment q.kind q.place refl refl (there e))) (λ e. back (its_moment (means_due models row q e)))
    where
      both : (a b : Bool) → (a ≡ true → b ≡ true) → (b ≡ true → a ≡ true) → a ≡ b
      both true b f g = sym (f refl)
      both false true f g = g refl
      both false false f g = refl

  pub told_by_moment : (at : Moment) → q.task ≡ row.task → moment_as models row q.kind q.place ≡ Some at → (at.0 == (q.at).0) ≡ has q (row_dues models row)
  told_by_moment at task is = told_due (at.0 == (q.at).0) task (λ e. is ∙ same e) (λ m. equal (sym is ∙ m))
    where
      same : (at.0 == (q.at).0) ≡ true → Some at ≡ Some q.at
      same e = let n : at.0 ≡ (q.at).0 = grind (arith, nat_tests) in ap (λ (k : ℕ). let m : Moment = record { 0 = k } in Some m) n

      equal : Some at ≡ Some q.at → (at.0 == (q.at).0) ≡ true
      equal e = let m : at ≡ q.at = cc in eq-eqb at.0 (q.at).0 (ap (λ (x : Moment). x.0) m)

  pub told_by_none : q.task ≡ row.task → moment_as models row q.kind q.place ≡ None → false ≡ has q (row_dues models row)
  told_by_none task none = told_due false task (λ e. absurd cc) (λ m. absurd cc)
