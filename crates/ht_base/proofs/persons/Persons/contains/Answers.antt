use Rattle.std.proofs.Common.{◌∙◌, ap, ℕ, List}
use Rattle.ht_base.specs.Persons.{has}
use Rattle.ht_base.proofs.Ascending.{searched_has}
use Rattle.ht_base.proofs.persons.Persons.contains.Goals as goal

pub returns : goal.returns
returns c =
    c.is_ok.ensures.value
    ∙ searched_has c.self.inside.items.items c.args.person c.binary_search.result c.self.invariant (rw c.deref.ensures.value at c.binary_search.ensures.position)
    ∙ ap (λ (ps : List ℕ). has c.args.person ps) c.self.view_is
