-- How the sets of all keys are kept.
use Rattle.std.specs.Prelude.{◌≡◌, All, [], map}
use Rattle.ht_index.specs.declared.task_sets.TaskSets.TheInside.{Inside}
use Rattle.ht_index.specs.Indexes.{IndexOf}
use Rattle.ht_index.specs.SetMoves.{HasRoomFor}

abbrev pub sets_in : Inside → IndexOf
sets_in i = record { lists = map (λ s. s.tasks) i.sets.items; moves = i.moves.items }

-- there is room for each task that comes, and one set stands for all behind the last
pub record AreReady (i : Inside) : Type 0 where
  pub room : All (HasRoomFor i.sets.items) i.moves.items
  pub none : i.none.tasks ≡ []
