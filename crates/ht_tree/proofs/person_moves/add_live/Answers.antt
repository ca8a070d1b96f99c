use Rattle.std.proofs.Common.{option_map}
use Rattle.ht_tree.specs.declared.listed_by.ListedBy.TheVariants as by
use Rattle.ht_tree.specs.ListedBy.{stands_under}
use Rattle.ht_tree.proofs.Moving.{on_ok, same_adds}
use Rattle.ht_tree.proofs.person_moves.add_live.Goals as goal

pub returns : goal.returns
returns c =
    on_ok c.add_persons.result
    (λ adds.
    same_adds c.args.task _ _
    (λ key. stands_under by.Live key (option_map (λ r. r.now) c.args.was))
    (λ key. stands_under by.Live key (option_map (λ r. r.now) c.args.is))
    c.args.moves.now.items c.add_persons.new.moves.items
    c.live.ensures c.live-2.ensures adds)
    c.add_persons.ensures
