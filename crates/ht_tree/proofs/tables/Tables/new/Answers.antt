use Rattle.std.proofs.Common.{arith, refl}
use Rattle.ht_tree.proofs.Sounding.{empty_sound}
use Rattle.ht_tree.proofs.tables.Tables.new.Goals as goal

pub invariant_of-result : goal.invariant_of-result
invariant_of-result c = record {
  sound = rw (c.new.ensures.items, c.new-2.ensures.items, c.new-3.ensures.items) (empty_sound c.args.models c.args.people);
  counted = rw c.new.ensures.items refl;
  due = rw c.new.ensures.items c.new-4.ensures;
  notices_few = rw c.new-2.ensures.items (omega arith);
  subs = rw c.new.ensures.items c.new-7.ensures.lists;
  persons = rw c.new.ensures.items c.new-8.ensures.lists;
  live = rw c.new.ensures.items c.new-9.ensures.lists;
  owners = rw c.new.ensures.items c.new-10.ensures.lists;
}
