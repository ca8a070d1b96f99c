-- A set of tasks, kept as bits: task n is bit n % 64 of word n / 64. What it means is the list of its tasks.
use Rattle.std.specs.Prelude.{◌≡◌, ℕ, ◌+◌, ◌*◌, ◌/◌, ◌%◌, ◌<◌, ◌≤◌, ◌==◌, not, Bool, true, false, List, ◌∷◌, ◌++◌, drop, filter, length, map, replicate, slice_index, Option, Some, None}
use Rattle.std.specs.Int.{bit_at}
use Rattle.std.specs.List.{range_with_len}
use Rattle.ht_base.specs.declared.task_id.TaskId.{TaskId}

-- the tasks of a set, ascending by number, and below which number it has room for each
pub record TasksOf : Type 0 where
  pub tasks : List TaskId
  pub reach : ℕ

-- behind the last word they are 0
abbrev pub word_at : ℕ → List ℕ → ℕ
word_at place words = slice_index words place

-- a bit of the words, counted from the lowest of the first
abbrev pub is_set : ℕ → List ℕ → Bool
is_set n words = bit_at (word_at (n / 64) words) (n % 64) == 1

-- these bits tell which words aren't 0
abbrev pub Mark : List ℕ → List ℕ → Type 0
Mark full words = (place : ℕ) → is_set place full ≡ not (word_at place words == 0)

-- all tasks below a number
abbrev pub tasks_below : ℕ → List TaskId
tasks_below n = map (λ k. record { 0 = k }) (range_with_len 0 n)

-- those whose bit is set
unfoldable pub tasks_in : List ℕ → List TaskId
tasks_in words = filter (λ t. is_set t.0 words) (tasks_below (64 * length words))

-- ---- going over a set

-- where there are left, of the word at a place, these bits, and all words behind it
abbrev pub words_left : ℕ → ℕ → List ℕ → List ℕ
words_left place bits words = replicate place 0 ++ bits ∷ drop (place + 1) words

-- the first bit that is set, from this number on
abbrev pub IsFirst : ℕ → List ℕ → Option ℕ → Type 0
IsFirst from words None = (n : ℕ) → from ≤ n → is_set n words ≡ false
IsFirst from words (Some first) = (from ≤ first) × (is_set first words ≡ true) × ((n : ℕ) → from ≤ n → n < first → is_set n words ≡ false)
