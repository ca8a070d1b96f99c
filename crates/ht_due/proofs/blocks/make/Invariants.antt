use Rattle.std.proofs.Common.{◌≡◌, ◌+◌, ◌≤◌, vec_capacity, vec_len}
use Rattle.ht_due.proofs.blocks.make.Given as goal

abbrev pub invariant-loop : goal.invariant-loop
invariant-loop l = record {
  len : vec_len l.free ≡ vec_len l.fn.free + l.counter;
  most : l.counter ≤ l.more;
  capacity : vec_capacity l.free ≡ vec_capacity l.fn.free;
}
