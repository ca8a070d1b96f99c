use Rattle.std.proofs.Common.{◌≡◌, ◌∙◌, Some, ap, sym, subst}
use Rattle.ht_base.specs.declared.kind.Kind.{Kind}
use Rattle.std.proofs.lemmas.Result.{err_from_is_err_and}
use Rattle.ht_expr.specs.Kinds.{Declared}
use Rattle.ht_expr.specs.KindTable.{kind_of}
use Rattle.ht_models.proofs.Spellings.{no_expression, other_kind, same_is}
use Rattle.ht_models.proofs.expressions.expression.Goals as goal

pub returns-in_err-expression-clause-refused : goal.returns-in_err-expression-clause-refused
returns-in_err-expression-clause-refused c =
    let p = err_from_is_err_and c.from_residual.result c.from_residual.ensures.1 in
    rw (p.1, p.2) (no_expression c.args.kinds.now c.args.kind c.args.text.now _ (rw c.as_str.ensures at c.in_err-expression.ensures.exact))

pub returns-else-is_of_kind-clause-refused : goal.returns-else-is_of_kind-clause-refused
returns-else-is_of_kind-clause-refused c =
    let read = c.in_ok-expression in
    let found = subst (λ (kinds : Declared). kind_of kinds read.expression.tree ≡ Some c.kind.result) read.ensures.kinds (c.kind.ensures read.ensures.kind) in
    λ some. other_kind c.args.kinds.now c.args.kind c.kind.result c.args.text.now read.expression.tree (rw c.as_str.ensures at read.ensures.reads) found (sym c.if-is_of_kind.ensures)

pub returns-then-is_of_kind-clause-kinds : goal.returns-then-is_of_kind-clause-kinds
returns-then-is_of_kind-clause-kinds c =
    let read = c.in_ok-expression in
    let found = subst (λ (kinds : Declared). kind_of kinds read.expression.tree ≡ Some c.kind.result) read.ensures.kinds (c.kind.ensures read.ensures.kind) in
    record { declared = read.ensures.kinds; is = found ∙ ap (λ (k : Kind). Some k) (same_is c.args.kind c.kind.result (sym c.if-is_of_kind.ensures)) }
