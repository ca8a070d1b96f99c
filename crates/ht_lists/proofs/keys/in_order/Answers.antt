use Rattle.ht_lists.specs.Keys.{compare_keys}
use Rattle.ht_lists.proofs.KeyOrder.{exact, key_order}
use Rattle.ht_lists.proofs.OneOrder.{unstable_is}
use Rattle.ht_lists.proofs.keys.in_order.Goals as goal

pub returns : goal.returns
returns c = unstable_is compare_keys key_order exact c.args.keys.now.items c.sort_unstable.new.self.items c.sort_unstable.ensures.sorted c.sort_unstable.ensures.permutation
