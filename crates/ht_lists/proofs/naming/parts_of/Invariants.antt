use Rattle.std.proofs.Common.{◌≡◌, take}
use Rattle.ht_lists.specs.Naming as spec
use Rattle.ht_lists.proofs.naming.parts_of.Given as goal

abbrev pub invariant-loop-name : goal.invariant-loop-name
invariant-loop-name l = l.parts ≡ spec.parts_of l.people (take l.name-index l.name-items)
