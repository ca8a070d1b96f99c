-- How sets of tasks are kept.
use Rattle.std.specs.Prelude.{◌*◌, ◌^◌, ◌≤◌, length}
use Rattle.ht_index.specs.declared.tasks.Tasks.TheInside.{Inside}
use Rattle.ht_index.specs.Sets.{Mark, TasksOf, tasks_in}

abbrev pub set_in : Inside → TasksOf
set_in s = record { tasks = tasks_in s.words.items; reach = 64 * length s.words.items }

-- there are no more words than tasks have numbers, and a bit for each that tells whether it is 0
pub record AreMarked (s : Inside) : Type 0 where
  pub few : length s.words.items ≤ 2 ^ 26
  pub few_marks : length s.full.items ≤ 2 ^ 26
  pub room : length s.words.items ≤ 64 * length s.full.items
  pub marks : Mark s.full.items s.words.items
