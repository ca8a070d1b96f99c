use Rattle.std.proofs.Common.{◌≡◌, true, false, option_map, ap, sym, ◌∙◌}
use Rattle.ht_tree.specs.declared.listed_by.ListedBy.TheVariants as by
use Rattle.ht_tree.specs.ListedBy.{stands_under}
use Rattle.ht_tree.proofs.Moving.{adds_none}
use Rattle.ht_tree.proofs.person_moves.add_those_of.Goals as goal

pub returns-in-None : goal.returns-in-None
returns-in-None c = adds_none c.args.task c.args.comes _ _ _ (λ key on. let no : false ≡ true = sym (ap (λ o. stands_under by.Person key (option_map (λ r. r.now) o)) c.in-None.is) ∙ on in absurd cc)
