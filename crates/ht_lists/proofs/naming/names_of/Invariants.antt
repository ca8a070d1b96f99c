use Rattle.std.proofs.Common.{◌≡◌, take}
use Rattle.ht_lists.specs.Naming as spec
use Rattle.ht_lists.proofs.naming.names_of.Given as goal

abbrev pub invariant-loop-person : goal.invariant-loop-person
invariant-loop-person l = l.names ≡ spec.names_of l.people (take l.person-index l.persons)
