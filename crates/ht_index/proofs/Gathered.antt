-- The list of the tasks whose bits are set.
use Rattle.std.proofs.Common.{◌≡◌, ℕ, ◌+◌, ◌*◌, ◌/◌, ◌%◌, ◌<◌, ◌≤◌, ◌==◌, ◌&&◌, ◌||◌, zero, suc, not, true, false, List, [], length, map, Less, refl, sym, ap, ◌∙◌, inl, inr, arith, eq-eqb}
use Rattle.std.specs.Int.{bit_at}
use Rattle.std.specs.List.{AllByRecursion, range_with_len}
use Rattle.std.specs.Ordering.{nat_cmp}
use Rattle.std.specs.Cmp.{nat_cmp_is}
use Rattle.std.proofs.lemmas.Bool.{cases_eq, cases_lt}
use Rattle.ht_base.specs.declared.task_id.TaskId.{TaskId}
use Rattle.ht_index.specs.Indexes.{Ascends, has, with_task, without_task}
use Rattle.ht_index.specs.Sets.{TasksOf, is_set, tasks_below, tasks_in, word_at}
use Rattle.ht_index.proofs.Members.{filter_ascends, has_filter, has_with, one_list, without_it, without_other}
use Rattle.ht_index.proofs.Places.{apart, ascends_with, ascends_without}
use Rattle.ht_index.proofs.Setting.{none_set_behind}

-- ---- the tasks of a run of numbers

abbrev run : ℕ → ℕ → List TaskId
run from count = map (λ k. record { 0 = k }) (range_with_len from count)

behind_it : (n from count : ℕ) → n < from → AllByRecursion (λ (y : TaskId). nat_cmp n y.0 ≡ Less) (run from count)
behind_it n from zero low = tt
behind_it n from (suc count) low = (sym (nat_cmp_is n from Less (omega arith)), behind_it n (from + 1) count (omega arith))

run_ascends : (from count : ℕ) → Ascends (run from count)
run_ascends from zero = tt
run_ascends from (suc count) = (behind_it from (from + 1) count (omega arith), run_ascends (from + 1) count)

in_run : (n from count : ℕ) → from ≤ n → n < from + count → has n (run from count) ≡ true
in_run n from zero low high = absurd (omega arith)
in_run n from (suc count) low high = elim (cases_eq from n) [
  | inl e ↦ ap (λ b. b || has n (run (from + 1) count)) (eq-eqb from n e)
  | inr other ↦ ap (λ b. b || has n (run (from + 1) count)) (apart from n other) ∙ in_run n (from + 1) count (omega arith) (omega arith)
]

behind_run : (n from count : ℕ) → from + count ≤ n → has n (run from count) ≡ false
behind_run n from zero high = refl
behind_run n from (suc count) high = ap (λ b. b || has n (run (from + 1) count)) (apart from n (λ e. omega arith)) ∙ behind_run n (from + 1) count (omega arith)

-- ---- the tasks of a set

pub tasks_ascend : (words : List ℕ) → Ascends (tasks_in words)
unfolding tasks_in
tasks_ascend words = filter_ascends (λ t. is_set t.0 words) (tasks_below (64 * length words)) (run_ascends 0 (64 * length words))

pub has_set : (n : ℕ) (words : List ℕ) → has n (tasks_in words) ≡ is_set n words
unfolding tasks_in
has_set n words =
    has_filter (λ t. is_set t.0 words) n (tasks_below (64 * length words))
    ∙ elim (cases_lt n (64 * length words)) [
      | inl low ↦ ap (λ b. b && is_set n words) (in_run n 0 (64 * length words) (omega arith) (omega arith))
      | inr high ↦ ap (λ b. b && is_set n words) (behind_run n 0 (64 * length words) (omega arith)) ∙ sym (none_set_behind n words high)
    ]

-- ---- as bits change

pub same_tasks : (old new : List ℕ) → ((place : ℕ) → word_at place new ≡ word_at place old) → tasks_in new ≡ tasks_in old
same_tasks old new same = one_list (tasks_in new) (tasks_in old) (tasks_ascend new) (tasks_ascend old) (λ n. has_set n new ∙ ap (λ w. bit_at w (n % 64) == 1) (same (n / 64)) ∙ sym (has_set n old))

pub one_put : (old new : List ℕ) (task : TaskId) → ((k : ℕ) → is_set k new ≡ ((task.0 == k) || is_set k old)) → tasks_in new ≡ with_task task (tasks_in old)
one_put old new task bits =
    one_list (tasks_in new) (with_task task (tasks_in old)) (tasks_ascend new) (ascends_with task (tasks_in old) (tasks_ascend old))
    (λ n. has_set n new ∙ bits n ∙ sym (has_with n task (tasks_in old) ∙ ap (λ b. (task.0 == n) || b) (has_set n old)))

has_without : (n : ℕ) (task : TaskId) (xs : List TaskId) → has n (without_task task xs) ≡ (not (task.0 == n) && has n xs)
has_without n task xs = elim (cases_eq task.0 n) [
  | inl e ↦ ap (λ k. has k (without_task task xs)) (sym e) ∙ without_it task xs ∙ sym (ap (λ b. not b && has n xs) (eq-eqb task.0 n e))
  | inr other ↦ without_other n task xs other ∙ sym (ap (λ b. not b && has n xs) (apart task.0 n other))
]

pub one_removed : (old new : List ℕ) (task : TaskId) → ((k : ℕ) → is_set k new ≡ (not (task.0 == k) && is_set k old)) → tasks_in new ≡ without_task task (tasks_in old)
one_removed old new task bits =
    one_list (tasks_in new) (without_task task (tasks_in old)) (tasks_ascend new) (ascends_without task (tasks_in old) (tasks_ascend old))
    (λ n. has_set n new ∙ bits n ∙ sym (has_without n task (tasks_in old) ∙ ap (λ b. not (task.0 == n) && b) (has_set n old)))

-- ---- a set of these words

abbrev pub made_of : List ℕ → TasksOf
made_of words = record { tasks = tasks_in words; reach = 64 * length words }

pub none_made : made_of [] ≡ record { tasks = []; reach = 0 }
unfolding tasks_in
none_made = refl

pub no_tasks : tasks_in [] ≡ []
unfolding tasks_in
no_tasks = refl
