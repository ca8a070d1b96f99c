use Rattle.std.proofs.Common.{sym, ◌∙◌}
use Rattle.std.proofs.lemmas.Slice.Eq.{slice_eq-Decides}
use Rattle.std.proofs.lemmas.Bool.Decides.{Decides-eqb}
use Rattle.ht_tree.proofs.person_moves.are_same.Goals as goal

pub returns : goal.returns
returns c = λ is.
    let d = slice_eq-Decides (λ a b. Decides-eqb a b) c.as_slice.result.now c.as_slice-2.result.now c.eq.result c.eq.ensures in
    sym c.as_slice.ensures.value ∙ d.0 is ∙ c.as_slice-2.ensures.value
