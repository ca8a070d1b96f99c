use Rattle.std.proofs.Common.{ℕ, ◌<◌}
use Rattle.ht_people.specs.Refusals.{HasTwiceMember}
use Rattle.ht_people.proofs.places.first_twice_member.Given as goal

abbrev pub invariant-loop-place : goal.invariant-loop-place
invariant-loop-place l = (i : ℕ) → i < l.place → HasTwiceMember l.groups i → ⊥
