use Rattle.std.proofs.Common.{option_map}
use Rattle.ht_tree.specs.declared.listed_by.ListedBy.TheVariants as by
use Rattle.ht_tree.specs.ListedBy.{stands_under}
use Rattle.ht_tree.proofs.Moving.{adds_held, on_ok}
use Rattle.ht_tree.proofs.owner_moves.add_owners.Goals as goal

pub returns : goal.returns
returns c =
    on_ok c.add_owner-2.result
    (λ last.
    adds_held c.args.task
    (λ key. stands_under by.Owner key (option_map (λ r. r.now) c.args.was))
    (λ key. stands_under by.Owner key (option_map (λ r. r.now) c.args.is))
    (λ key. stands_under by.Owner key (option_map (λ r. r.now) c.args.was))
    c.args.moves.now.items c.add_owner.new.moves.items c.add_owner-2.new.moves.items
    (λ key on. on) c.in_ok-add_owner.ensures last)
    c.add_owner-2.ensures
