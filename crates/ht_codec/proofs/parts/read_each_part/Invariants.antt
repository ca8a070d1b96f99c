use Rattle.std.proofs.Common.{◌≡◌, ◌-◌, []}
use Rattle.ht_codec.specs.Forms.{read_items}
use Rattle.ht_codec.specs.Fields.{new_part}
use Rattle.ht_codec.proofs.parts.read_each_part.Given as goal

abbrev pub invariant-loop : goal.invariant-loop
invariant-loop l = record {
  so_far : read_items new_part (l.count - l.counter) l.parts l.r.whole l.r.left.now ≡ read_items new_part l.count [] l.fn.r.whole l.fn.r.left.now;
  whole : l.r.whole ≡ l.fn.r.whole;
}
