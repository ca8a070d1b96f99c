use Rattle.std.proofs.Common.{◌≡◌, true, false, ap, sym, ◌∙◌}
use Rattle.ht_tree.specs.ListedBy.{is_person}
use Rattle.ht_tree.proofs.Moving.{adds_none}
use Rattle.ht_tree.proofs.person_moves.add_owner.Goals as goal

pub returns-in-None : goal.returns-in-None
returns-in-None c = adds_none c.args.task c.args.comes _ _ _ (λ key on. let no : false ≡ true = sym (ap (is_person key) c.in-None.is) ∙ on in absurd cc)
