use Rattle.std.proofs.Common.{◌≡◌, take}
use Rattle.ht_tree.specs.Places.{last_place, tasks_of}
use Rattle.ht_tree.proofs.puts.place_in.Given as goal

abbrev pub invariant-loop-place : goal.invariant-loop-place
invariant-loop-place l = l.last ≡ last_place l.task.0 (tasks_of (take l.place l.rows))
