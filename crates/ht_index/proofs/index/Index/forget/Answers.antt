use Rattle.std.proofs.Common.{ap, sym, ◌∙◌}
use Rattle.ht_index.specs.Indexes.{IndexOf, list_of}
use Rattle.ht_index.proofs.Slots.{seen}
use Rattle.ht_index.proofs.index.Index.forget.Goals as goal

pub returns-clause-lists : goal.returns-clause-lists
returns-clause-lists c = λ k.
    seen k c.give_all_back.new.lists.items c.clear.new.self.items
    ∙ c.give_all_back.ensures.lists k
    ∙ sym (seen k c.self.inside.lists.items c.self.inside.moves.items)
    ∙ ap (λ (i : IndexOf). list_of k i) c.self.view_is
