-- Lists as they change.
use Rattle.std.specs.Prelude.{◌≡◌, ℕ, ◌^◌, ◌+◌, true, false, List, [], ◌∷◌, fold, map, refl}
use Rattle.ht_base.specs.declared.task_id.TaskId.{TaskId}
use Rattle.ht_index.specs.declared.moves.Move.{Move}
use Rattle.ht_index.specs.Indexes.{has, moved, with_task, without_task}
use Rattle.ht_index.specs.SetMoves.{reach_at, tasks_at}
use Rattle.ht_index.specs.Sets.{TasksOf, is_set, tasks_in, words_left}

abbrev task : ℕ → TaskId
task number = record { 0 = number }

abbrev tasks : List ℕ → List TaskId
tasks numbers = map task numbers

in_between : with_task (task 4) (tasks (2 ∷ 3 ∷ 7 ∷ [])) ≡ tasks (2 ∷ 3 ∷ 4 ∷ 7 ∷ [])
in_between = refl

the_first_of_all : with_task (task 4) [] ≡ tasks (4 ∷ [])
the_first_of_all = refl

behind_all : with_task (task 9) (tasks (2 ∷ 7 ∷ [])) ≡ tasks (2 ∷ 7 ∷ 9 ∷ [])
behind_all = refl

-- none stands twice
not_twice : with_task (task 3) (tasks (2 ∷ 3 ∷ 7 ∷ [])) ≡ tasks (2 ∷ 3 ∷ 7 ∷ [])
not_twice = refl

taken_out : without_task (task 3) (tasks (2 ∷ 3 ∷ 7 ∷ [])) ≡ tasks (2 ∷ 7 ∷ [])
taken_out = refl

not_there : without_task (task 4) (tasks (2 ∷ 3 ∷ 7 ∷ [])) ≡ tasks (2 ∷ 3 ∷ 7 ∷ [])
not_there = refl

one_of_them : map (λ n. has n (tasks (2 ∷ 7 ∷ []))) (2 ∷ 3 ∷ 7 ∷ []) ≡ true ∷ false ∷ true ∷ []
one_of_them = refl

-- ---- moves

abbrev comes : ℕ → ℕ → Move
comes key number = record { key = key; task = task number; comes = true }

abbrev goes : ℕ → ℕ → Move
goes key number = record { key = key; task = task number; comes = false }

-- those of other keys change nothing
of_one_key : fold (moved 5) (tasks (2 ∷ 7 ∷ [])) (comes 5 3 ∷ goes 6 2 ∷ comes 6 8 ∷ goes 5 7 ∷ []) ≡ tasks (2 ∷ 3 ∷ [])
of_one_key = refl

-- of two moves of a task the later counts
the_later : fold (moved 5) (tasks (2 ∷ [])) (comes 5 3 ∷ goes 5 3 ∷ []) ≡ tasks (2 ∷ [])
the_later = refl

-- ---- sets as bits

-- each bit is a task, and 2 ^ 63 the last of a word
of_one_word : tasks_in ((2 ^ 63 + 2 ^ 5 + 2 ^ 2 + 1) ∷ []) ≡ tasks (0 ∷ 2 ∷ 5 ∷ 63 ∷ [])
unfolding tasks_in
of_one_word = refl

-- the first of the second word is the 64th
of_two_words : tasks_in (0 ∷ (2 ^ 63 + 1) ∷ []) ≡ tasks (64 ∷ 127 ∷ [])
unfolding tasks_in
of_two_words = refl

no_bits : tasks_in (0 ∷ 0 ∷ []) ≡ []
unfolding tasks_in
no_bits = refl

set_or_not : map (λ n. is_set n (4 ∷ 1 ∷ [])) (2 ∷ 3 ∷ 64 ∷ 65 ∷ 128 ∷ []) ≡ true ∷ false ∷ true ∷ false ∷ false ∷ []
set_or_not = refl

one_more_bit : tasks_in (13 ∷ []) ≡ with_task (task 2) (tasks_in (9 ∷ []))
unfolding tasks_in
one_more_bit = refl

one_bit_less : tasks_in (0 ∷ 2 ∷ []) ≡ without_task (task 64) (tasks_in (0 ∷ 3 ∷ []))
unfolding tasks_in
one_bit_less = refl

-- words of zeros behind are no tasks
with_more_room : tasks_in (9 ∷ 0 ∷ []) ≡ tasks_in (9 ∷ [])
unfolding tasks_in
with_more_room = refl

-- of the first word one bit is left, and the second is left as it is
in_the_first_word : tasks_in (words_left 0 4 (5 ∷ 3 ∷ [])) ≡ tasks (2 ∷ 64 ∷ 65 ∷ [])
unfolding tasks_in
in_the_first_word = refl

in_the_last_word : tasks_in (words_left 1 2 (5 ∷ 3 ∷ [])) ≡ tasks (65 ∷ [])
unfolding tasks_in
in_the_last_word = refl

at_the_end : tasks_in (words_left 1 0 (5 ∷ 3 ∷ [])) ≡ []
unfolding tasks_in
at_the_end = refl

-- ---- sets of all keys

abbrev two_sets : List TasksOf
two_sets = record { tasks = tasks (2 ∷ 7 ∷ []); reach = 64 } ∷ record { tasks = tasks (90 ∷ []); reach = 128 } ∷ []

under_a_key : tasks_at 1 two_sets ≡ tasks (90 ∷ [])
under_a_key = refl

behind_the_last : tasks_at 2 two_sets ≡ []
behind_the_last = refl

room_of_keys : map (λ key. reach_at key two_sets) (0 ∷ 1 ∷ 2 ∷ []) ≡ 64 ∷ 128 ∷ 0 ∷ []
room_of_keys = refl
