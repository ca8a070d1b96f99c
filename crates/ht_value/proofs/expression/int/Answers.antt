use Rattle.std.proofs.Common.{◌∙◌, ap, sym}
use Rattle.ht_base.specs.declared.kind.Kind.TheVariants.{Int}
use Rattle.ht_expr.specs.Nodes.{shown_node}
use Rattle.ht_value.specs.Values as values
use Rattle.ht_value.proofs.Agreeing.{has_kind, number_there}
use Rattle.ht_value.proofs.expression.int.Goals as goal

pub returns-in-None : goal.returns-in-None
returns-in-None c =
    let e = c.args.expr.now in
    let env = c.args.env.now in
    let here = ap (λ k. values.value k env (shown_node c.node.result.now)) c.kinds.ensures ∙ ap (values.value e.kinds env) c.node.ensures in
    let none = ap values.number_in (sym here) ∙ ap values.number_in (sym c.value.ensures) ∙ sym c.number.ensures ∙ c.in-None.is in
    absurd (number_there (values.value e.kinds env e.tree) (has_kind e.kinds env e.tree Int c.requires.parts c.requires.kind) none)
