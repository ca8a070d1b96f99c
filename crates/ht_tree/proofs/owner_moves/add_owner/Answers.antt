use Rattle.std.proofs.Common.{◌≡◌, true, false, ap, sym, ◌∙◌}
use Rattle.ht_tree.specs.ListedBy.{is_person}
use Rattle.ht_tree.proofs.Moving.{adds_none, on_ok, same_adds_of}
use Rattle.ht_tree.proofs.owner_moves.add_owner.Goals as goal

pub returns-in-None : goal.returns-in-None
returns-in-None c = adds_none c.args.task c.args.comes _ _ _ (λ key on. let no : false ≡ true = sym (c.owner_of.ensures key ∙ ap (is_person key) c.in-None.is) ∙ on in absurd cc)

pub returns-in-Some : goal.returns-in-Some
returns-in-Some c =
    on_ok c.add_unless.result
    (same_adds_of c.args.task c.args.comes _ _ _ _ c.args.moves.now.items c.add_unless.new.moves.items
    (λ key. sym (c.owner_of.ensures key ∙ ap (is_person key) c.in-Some.is))
    (λ key. sym (c.owner_of-in-Some.ensures key)))
    c.add_unless.ensures
