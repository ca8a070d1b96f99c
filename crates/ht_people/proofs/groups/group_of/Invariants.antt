use Rattle.std.proofs.Common.{◌≡◌, ◌<◌, ℕ, take}
use Rattle.ht_people.proofs.Unknown.{IsUnknown, places_of}
use Rattle.ht_people.proofs.groups.group_of.Given as goal

abbrev pub invariant-loop-member : goal.invariant-loop-member
invariant-loop-member l = record {
  places : l.members.items ≡ places_of l.text (take l.member-index l.member-items);
  known : (j : ℕ) → j < l.member-index → IsUnknown l.text l.member-items j → ⊥;
}
