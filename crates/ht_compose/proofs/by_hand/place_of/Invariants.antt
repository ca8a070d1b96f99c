use Rattle.std.proofs.Common.{◌≡◌, drop}
use Rattle.ht_compose.specs.ByHand.{named_from}
use Rattle.ht_compose.proofs.by_hand.place_of.Given as goal

abbrev pub invariant-loop-place : goal.invariant-loop-place
invariant-loop-place l = named_from 0 l.name l.model.subs.items ≡ named_from l.place l.name (drop l.place l.model.subs.items)
