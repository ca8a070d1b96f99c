use Rattle.std.proofs.Common.{◌≡◌, false, filter}
use Rattle.std.specs.List.{range_with_len}
use Rattle.std.specs.Prelude.{slice_index_or}
use Rattle.ht_base.specs.Persons.{AllBelow}
use Rattle.ht_people.proofs.directory.marked_persons.Given as goal

abbrev pub invariant-loop-person : goal.invariant-loop-person
invariant-loop-person l = record {
  persons : l.persons ≡ filter (λ person. slice_index_or l.marks person false) (range_with_len 0 l.person);
  below : AllBelow l.person l.persons;
}
