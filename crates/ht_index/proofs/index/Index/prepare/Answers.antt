use Rattle.std.proofs.Common.{ap, sym, ◌∙◌}
use Rattle.ht_index.specs.Indexes.{IndexOf, list_of}
use Rattle.ht_index.proofs.Slots.{seen}
use Rattle.ht_index.proofs.index.Index.prepare.Goals as goal

pub returns-in_err-ask_all-clause-lists : goal.returns-in_err-ask_all-clause-lists
returns-in_err-ask_all-clause-lists c = λ k.
    let i = c.self.inside in
    seen k c.ask_all.new.lists.items i.moves.items
    ∙ c.ask_all.ensures.lists k
    ∙ sym (seen k i.lists.items i.moves.items)
    ∙ ap (λ (it : IndexOf). list_of k it) c.self.view_is
    ∙ c.forget.ensures.lists k

pub returns-clause-lists : goal.returns-clause-lists
returns-clause-lists c = λ k.
    let i = c.self.inside in
    seen k c.ask_all.new.lists.items c.args.moves.items
    ∙ c.ask_all.ensures.lists k
    ∙ sym (seen k i.lists.items i.moves.items)
    ∙ ap (λ (it : IndexOf). list_of k it) c.self.view_is
    ∙ c.forget.ensures.lists k
