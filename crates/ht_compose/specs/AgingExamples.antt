-- Worked examples of how tasks may change so that nothing more is due of them. A wrong reading of a
-- definition fails the check.
use Rattle.std.specs.Prelude.{◌≡◌, ◌==◌, refl, ℕ, zero, suc, nat_lt, Bool, false, is_some, List, [], ◌∷◌, Option, Some, unwrap_or}
use Rattle.std.specs.Option.{option_map_or}
use Rattle.std.proofs.Common.{ap, inl, inr, subst}
use Rattle.std.proofs.lemmas.Bool.{false≢true, true≢false}
use Rattle.ht_base.specs.declared.moment.Moment.{Moment}
use Rattle.ht_base.specs.declared.state.State.TheVariants.{Completed, Created, Exited, InProgress, Ready, SuspendedReady}
use Rattle.ht_compose.specs.Aging.{Ages, AllAge, IsNewAt}
use Rattle.ht_compose.specs.Downward.{closed, freed}
use Rattle.ht_compose.specs.Examples.{at, begun, step, tables, task}
use Rattle.ht_due.specs.declared.due.Due.{Due}
use Rattle.ht_tree.specs.declared.row.Row.{Row}
use Rattle.ht_tree.specs.RowDues.{row_dues}
use Rattle.ht_tree.specs.Rows.{row_at}
use Rattle.ht_tree.specs.Tables.{TablesOf}

abbrev later : Moment
later = record { 0 = 2000 }

-- suspended up to a moment
abbrev paused : Moment → Row
paused moment = record (task 1 SuspendedReady) { until = Some moment }

abbrev waiting : Moment → Row
waiting moment = record (task 1 Created) { waits = Some moment }

-- its first deadline was taken
abbrev passed : Row
passed = record (task 1 Ready) { taken = 0 ∷ [] }

-- ---- what ages

a_freed_task : Ages (paused later) (freed (paused later))
a_freed_task = record { task = refl; model = refl; input = refl; created = refl; started = λ h. h; ended = λ h. h; waits = inr refl; until = inl refl; taken = λ place h. h }

one_that_ends_while_it_waits : Ages (waiting later) (closed Exited (waiting later))
one_that_ends_while_it_waits = record { task = refl; model = refl; input = refl; created = refl; started = λ h. h; ended = λ h. refl; waits = inl refl; until = inl refl; taken = λ place h. h }

one_that_is_begun : Ages (task 1 InProgress) (begun (task 1 InProgress))
one_that_is_begun = record { task = refl; model = refl; input = refl; created = refl; started = λ h. refl; ended = λ h. h; waits = inr refl; until = inr refl; taken = λ place h. h }

-- ---- what is due of it

abbrev its_end : Due
its_end = record { at = later; task = record { 0 = 1 }; kind = 1; place = 0 }

the_end_of_its_suspension : row_dues (step ∷ []) (paused later) ≡ its_end ∷ []
the_end_of_its_suspension = refl

nothing_of_a_freed_task : row_dues (step ∷ []) (freed (paused later)) ≡ []
nothing_of_a_freed_task = refl

-- ---- what doesn't age

not_another_task : Ages (task 1 Ready) (task 2 Ready) → ⊥
not_another_task ages = true≢false (ap (λ id. id.0 == 2) ages.task)

not_one_whose_start_is_forgotten : Ages (begun (task 1 InProgress)) (task 1 InProgress) → ⊥
not_one_whose_start_is_forgotten ages = false≢true (ages.started refl)

not_one_that_comes_back : Ages (task 1 Completed) (task 1 Ready) → ⊥
not_one_that_comes_back ages = false≢true (ages.ended refl)

not_one_whose_deadline_is_no_longer_taken : Ages passed (task 1 Ready) → ⊥
not_one_whose_deadline_is_no_longer_taken ages = false≢true (ages.taken 0 refl)

-- it is for a moment after the first
abbrev is_later : Option Moment → Bool
is_later moment = option_map_or (λ m. nat_lt at.0 m.0) moment false

not_one_that_waits_anew : Ages (task 1 Created) (waiting later) → ⊥
not_one_that_waits_anew ages = true≢false (elim ages.waits [ inl h ↦ ap is_later h | inr h ↦ ap is_later h ])

not_one_that_waits_longer : Ages (waiting at) (waiting later) → ⊥
not_one_that_waits_longer ages = true≢false (elim ages.waits [ inl h ↦ ap is_later h | inr h ↦ ap is_later h ])

not_one_that_is_suspended_longer : Ages (paused at) (paused later) → ⊥
not_one_that_is_suspended_longer ages = true≢false (elim ages.until [ inl h ↦ ap is_later h | inr h ↦ ap is_later h ])

-- ---- all tasks

abbrev with_tasks : List Row → TablesOf
with_tasks rows = tables (step ∷ []) rows

one_comes : AllAge at (with_tasks []) (with_tasks (task 1 Ready ∷ []))
one_comes = record { there = λ id row is. absurd (nobody id row is); new = λ id row is none. it id row is }
  where
    nobody : (id : ℕ) (row : Row) → row_at id [] ≡ Some row → ⊥
    nobody zero row is = false≢true (ap is_some is)
    nobody (suc id) row is = false≢true (ap is_some is)

    it : (id : ℕ) (row : Row) → row_at id (task 1 Ready ∷ []) ≡ Some row → IsNewAt at id row
    it zero row is = absurd (false≢true (ap is_some is))
    it (suc zero) row is = let N : Row → Type 0 = λ r. IsNewAt at 1 r in subst N (ap (λ o. unwrap_or o (task 1 Ready)) is) (refl, refl, refl, refl)
    it (suc (suc id)) row is = absurd (false≢true (ap is_some is))

not_one_that_was_created_before : AllAge later (with_tasks []) (with_tasks (task 1 Ready ∷ [])) → ⊥
not_one_that_was_created_before age = true≢false (ap (λ moment. moment.0 == 1000) (age.new 1 (task 1 Ready) refl refl).0)

not_one_that_comes_and_waits : AllAge at (with_tasks []) (with_tasks (waiting later ∷ [])) → ⊥
not_one_that_comes_and_waits age = true≢false (ap is_some (age.new 1 (waiting later) refl refl).1)

no_task_goes : AllAge at (with_tasks (task 1 Ready ∷ [])) (with_tasks []) → ⊥
no_task_goes age = false≢true (ap is_some (age.there 1 (task 1 Ready) refl).1)
