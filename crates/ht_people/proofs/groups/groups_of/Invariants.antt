use Rattle.std.proofs.Common.{◌≡◌, ◌<◌, ℕ, map, take}
use Rattle.ht_people.specs.Directory.{group_from}
use Rattle.ht_people.specs.Refusals.{HasUnknown}
use Rattle.ht_people.proofs.groups.groups_of.Given as goal

abbrev pub invariant-loop-i : goal.invariant-loop-i
invariant-loop-i l = record {
  groups : l.groups.items ≡ map (group_from l.text) (take l.i l.text.groups);
  known : (j : ℕ) → j < l.i → HasUnknown l.text j → ⊥;
}
