use Rattle.std.proofs.Common.{rules}
use Rattle.std.proofs.lemmas.Fn.{always_returns_same}
use Rattle.ht_tree.specs.Slots.{slot_order}
use Rattle.ht_tree.proofs.Slots.{searched_slot}
use Rattle.ht_tree.proofs.slot.place_of.Goals as goal

pub returns : goal.returns
returns c =
    let facts = c.binary_search_by.ensures in
    let by_order = facts.position (slot_order c.args.person c.args.device) (always_returns_same _ _ _ (λ a r f called. (search rules, search rules))) in
    searched_slot c.args.person c.args.device c.args.slots.now _ c.requires facts.bound by_order
