use Rattle.std.proofs.Common.{ap, sym}
use Rattle.std.specs.Prelude.{is_some}
use Rattle.std.proofs.lemmas.Result.{err_from_is_err_and}
use Rattle.ht_expr.specs.Nodes.{shown_node}
use Rattle.ht_expr.specs.Trees.{an_expression}
use Rattle.ht_expr.proofs.Answering.{only, writes_tree}
use Rattle.ht_expr.proofs.expression.Expr.read.Goals as goal

pub returns-in_err-tokens-clause-reads : goal.returns-in_err-tokens-clause-reads
returns-in_err-tokens-clause-reads c =
    let p = err_from_is_err_and c.from_residual.result c.from_residual.ensures.1 in
    rw (p.1, p.2) (c.in_err-tokens.ensures.refused c.args.kinds.now)

pub returns-in_err-tokens-clause-exact : goal.returns-in_err-tokens-clause-exact
returns-in_err-tokens-clause-exact c =
    let p = err_from_is_err_and c.from_residual.result c.from_residual.ensures.1 in
    rw (p.1, p.2) (only c.args.kinds.now an_expression c.args.text.now _ (c.in_err-tokens.ensures.refused c.args.kinds.now))

pub returns-in-Some-clause-reads : goal.returns-in-Some-clause-reads
returns-in-Some-clause-reads c =
    let written = writes_tree an_expression c.args.text.now c.in_ok-tokens.tokens.items (shown_node c.in_ok-node.node) c.utf8.text c.in_ok-tokens.ensures.tokens (rw c.deref.ensures.value at c.in_ok-node.ensures) in
    (written, ap is_some (sym c.in-Some.ensures))

pub returns-in-Some-clause-exact : goal.returns-in-Some-clause-exact
returns-in-Some-clause-exact c =
    let written = writes_tree an_expression c.args.text.now c.in_ok-tokens.tokens.items (shown_node c.in_ok-node.node) c.utf8.text c.in_ok-tokens.ensures.tokens (rw c.deref.ensures.value at c.in_ok-node.ensures) in
    only c.args.kinds.now an_expression c.args.text.now _ (written, ap is_some (sym c.in-Some.ensures))

pub returns-clause-reads : goal.returns-clause-reads
returns-clause-reads c =
    let written = writes_tree an_expression c.args.text.now c.in_ok-tokens.tokens.items (shown_node c.in_ok-node.node) c.utf8.text c.in_ok-tokens.ensures.tokens (rw c.deref.ensures.value at c.in_ok-node.ensures) in
    (shown_node c.in_ok-node.node, written, ap is_some (sym c.in-None.ensures))

pub returns-clause-exact : goal.returns-clause-exact
returns-clause-exact c =
    let written = writes_tree an_expression c.args.text.now c.in_ok-tokens.tokens.items (shown_node c.in_ok-node.node) c.utf8.text c.in_ok-tokens.ensures.tokens (rw c.deref.ensures.value at c.in_ok-node.ensures) in
    only c.args.kinds.now an_expression c.args.text.now _ (shown_node c.in_ok-node.node, written, ap is_some (sym c.in-None.ensures))
