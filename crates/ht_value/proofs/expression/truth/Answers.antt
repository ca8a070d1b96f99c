use Rattle.std.proofs.Common.{◌∙◌, ap, sym}
use Rattle.ht_base.specs.declared.kind.Kind.TheVariants.{Truth}
use Rattle.ht_expr.specs.Nodes.{shown_node}
use Rattle.ht_value.specs.Values as values
use Rattle.ht_value.proofs.Agreeing.{has_kind, truth_there}
use Rattle.ht_value.proofs.expression.truth.Goals as goal

pub returns-in-None : goal.returns-in-None
returns-in-None c =
    let e = c.args.expr.now in
    let env = c.args.env.now in
    let here = ap (λ k. values.value k env (shown_node c.node.result.now)) c.kinds.ensures ∙ ap (values.value e.kinds env) c.node.ensures in
    let none = ap values.truth_in (sym here) ∙ ap values.truth_in (sym c.value.ensures) ∙ sym c.truth.ensures ∙ c.in-None.is in
    absurd (truth_there (values.value e.kinds env e.tree) (has_kind e.kinds env e.tree Truth c.requires.parts c.requires.kind) none)
