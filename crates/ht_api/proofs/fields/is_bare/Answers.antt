use Rattle.std.proofs.Common.{◌≡◌, ℕ, List, Some, codes, sym, subst, ◌∙◌}
use Rattle.std.proofs.lemmas.Slice.Eq.{bytes_eq-Decides}
use Rattle.serde_json.specs.Data.{object, no_members}
use Rattle.ht_api.specs.Bodies.{json_in}
use Rattle.ht_api.proofs.JsonIn.{braces}
use Rattle.ht_api.proofs.fields.is_bare.Goals as goal

pub returns-else-is_empty-clause-bare : goal.returns-else-is_empty-clause-bare
returns-else-is_empty-clause-bare c = λ yes.
    let same : c.args.body.now ≡ codes "{}" = (bytes_eq-Decides c.args.body.now c.as_slice.result.now).0 (sym c.eq.ensures ∙ yes) ∙ c.as_slice.ensures in
    subst (λ (l : List ℕ). json_in l ≡ Some (object no_members)) (sym same) braces
