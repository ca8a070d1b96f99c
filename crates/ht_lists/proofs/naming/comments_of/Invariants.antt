use Rattle.std.proofs.Common.{◌≡◌, take}
use Rattle.ht_lists.specs.Naming as spec
use Rattle.ht_lists.proofs.naming.comments_of.Given as goal

abbrev pub invariant-loop-place : goal.invariant-loop-place
invariant-loop-place l = l.shown ≡ spec.comments_of l.people (take l.place l.comments)
