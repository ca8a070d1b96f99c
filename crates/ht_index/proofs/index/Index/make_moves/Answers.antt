use Rattle.std.proofs.Common.{fold, ap, sym, ◌∙◌}
use Rattle.ht_index.specs.Indexes.{IndexOf, list_of, moved}
use Rattle.ht_index.specs.Kept.{list_at}
use Rattle.ht_index.proofs.Slots.{seen}
use Rattle.ht_index.proofs.index.Index.make_moves.Goals as goal

pub returns-clause-lists : goal.returns-clause-lists
returns-clause-lists c = λ k.
    let lists = c.self.inside.lists.items in
    let moves = c.self.inside.moves.items in
    seen k c.move_all.new.lists.items c.clear.new.self.items
    ∙ c.move_all.ensures k
    ∙ ap (λ ms. fold (moved k) (list_at k lists) ms) c.deref.ensures.value
    ∙ ap (λ tasks. fold (moved k) tasks moves) (sym (seen k lists moves))
    ∙ ap (λ (i : IndexOf). fold (moved k) (list_of k i) i.moves) c.self.view_is
