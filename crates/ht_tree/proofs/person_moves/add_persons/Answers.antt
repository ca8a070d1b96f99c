use Rattle.std.proofs.Common.{option_map}
use Rattle.ht_tree.specs.declared.listed_by.ListedBy.TheVariants as by
use Rattle.ht_tree.specs.ListedBy.{stands_under}
use Rattle.ht_tree.proofs.Moving.{adds_held, on_ok}
use Rattle.ht_tree.proofs.person_moves.add_persons.Goals as goal

pub returns : goal.returns
returns c =
    on_ok c.add_those_of-2.result
    (λ last.
    adds_held c.args.task
    (λ key. stands_under by.Person key (option_map (λ r. r.now) c.args.was))
    (λ key. stands_under by.Person key (option_map (λ r. r.now) c.args.is))
    (λ key. stands_under by.Person key (option_map (λ r. r.now) c.args.was))
    c.args.moves.now.items c.add_those_of.new.moves.items c.add_those_of-2.new.moves.items
    (λ key is. is) c.in_ok-add_those_of.ensures last)
    c.add_those_of-2.ensures
