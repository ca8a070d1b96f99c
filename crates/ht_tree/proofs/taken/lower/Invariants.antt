use Rattle.std.proofs.Common.{◌≡◌, ◌++◌, drop, take}
use Rattle.ht_tree.specs.Passed.{with_place}
use Rattle.ht_tree.proofs.taken.lower.Given as goal

abbrev pub invariant-loop-at : goal.invariant-loop-at
invariant-loop-at l = take l.at l.places ++ with_place (drop l.at l.places) l.place ≡ with_place l.places l.place
