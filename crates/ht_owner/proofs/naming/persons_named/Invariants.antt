use Rattle.std.proofs.Common.{◌≡◌, ℕ, nat_lt, ◌&&◌, length, take}
use Rattle.ht_base.specs.Persons.{Ascends, has}
use Rattle.ht_owner.specs.Naming.{is_named}
use Rattle.ht_owner.proofs.naming.persons_named.Given as goal

abbrev pub invariant-loop-name : goal.invariant-loop-name
invariant-loop-name l = Ascends l.persons × ((p : ℕ) → has p l.persons ≡ (nat_lt p (length (l.people).persons) && is_named l.people (take l.name-index l.names) p))
