use Rattle.std.specs.Prelude.{option_map, take}
use Rattle.ht_base.specs.Persons.{has}
use Rattle.ht_tree.specs.declared.listed_by.ListedBy.TheVariants as by
use Rattle.ht_tree.specs.ListedBy.{AddsOf, stands_under}
use Rattle.ht_tree.proofs.person_moves.add_each.Given as goal

abbrev pub invariant-loop-person : goal.invariant-loop-person
invariant-loop-person l = AddsOf l.task l.comes (λ key. has key (take l.person-index l.person-items)) (λ key. stands_under by.Person key (option_map (λ r. r.now) l.other)) l.fn.moves.items l.moves.items
