use Rattle.std.proofs.Common.{◌≡◌, ◌+◌, length, take}
use Rattle.ht_graph.specs.Walking.{Meets, unmet}
use Rattle.ht_graph.proofs.walking.meet.Given as goal

abbrev pub invariant-loop-place : goal.invariant-loop-place
invariant-loop-place l = record {
  meets : Meets (take l.place-index l.places) l.fn.met l.met l.fn.pending.items l.pending.items;
  counted : unmet l.met + length l.pending.items ≡ unmet l.fn.met + length l.fn.pending.items;
}
