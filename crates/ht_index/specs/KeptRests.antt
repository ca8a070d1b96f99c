-- How far one has gone over a set of tasks.
use Rattle.std.specs.Prelude.{◌≡◌, ◌/◌, ◌%◌, ◌^◌, ◌≤◌, List, length}
use Rattle.ht_base.specs.declared.task_id.TaskId.{TaskId}
use Rattle.ht_index.specs.declared.rest.Rest.TheInside.{Inside}
use Rattle.ht_index.specs.Sets.{Mark, tasks_in, words_left}

abbrev pub left_in : Inside → List TaskId
left_in r = tasks_in (words_left (r.base / 64) r.bits r.words.now)

-- it goes by words
pub record GoesByWords (r : Inside) : Type 0 where
  pub whole : r.base % 64 ≡ 0
  pub few : length r.words.now ≤ 2 ^ 26
  pub few_marks : length r.full.now ≤ 2 ^ 26
  pub marks : Mark r.full.now r.words.now
