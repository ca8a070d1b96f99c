use Rattle.std.proofs.Common.{◌∙◌, sym}
use Rattle.std.proofs.lemmas.Result.{err_from_is_err_and}
use Rattle.ht_expr.specs.Shown.{shown}
use Rattle.ht_expr.specs.Trees.{an_assignment}
use Rattle.ht_expr.proofs.Answering.{only, writes_tree}
use Rattle.ht_expr.proofs.assignment.Assign.read.Goals as goal

pub returns-in_err-tokens-clause-reads : goal.returns-in_err-tokens-clause-reads
returns-in_err-tokens-clause-reads c =
    let p = err_from_is_err_and c.from_residual.result c.from_residual.ensures.1 in
    rw (p.1, p.2) (c.in_err-tokens.ensures.refused c.args.kinds.now)

pub returns-in_err-tokens-clause-exact : goal.returns-in_err-tokens-clause-exact
returns-in_err-tokens-clause-exact c =
    let p = err_from_is_err_and c.from_residual.result c.from_residual.ensures.1 in
    rw (p.1, p.2) (only c.args.kinds.now an_assignment c.args.text.now _ (c.in_err-tokens.ensures.refused c.args.kinds.now))

pub returns-then-kinds_fit-clause-reads : goal.returns-then-kinds_fit-clause-reads
returns-then-kinds_fit-clause-reads c =
    let written = writes_tree an_assignment c.args.text.now c.in_ok-tokens.tokens.items (shown c.in_ok-assign.assign) c.utf8.text c.in_ok-tokens.ensures.tokens (rw c.deref.ensures.value at c.in_ok-assign.ensures.tree) in
    (written, sym c.kinds_fit.ensures ∙ c.if-kinds_fit.true)

pub returns-then-kinds_fit-clause-exact : goal.returns-then-kinds_fit-clause-exact
returns-then-kinds_fit-clause-exact c =
    let written = writes_tree an_assignment c.args.text.now c.in_ok-tokens.tokens.items (shown c.in_ok-assign.assign) c.utf8.text c.in_ok-tokens.ensures.tokens (rw c.deref.ensures.value at c.in_ok-assign.ensures.tree) in
    only c.args.kinds.now an_assignment c.args.text.now _ (written, sym c.kinds_fit.ensures ∙ c.if-kinds_fit.true)

pub returns-clause-reads : goal.returns-clause-reads
returns-clause-reads c =
    let written = writes_tree an_assignment c.args.text.now c.in_ok-tokens.tokens.items (shown c.in_ok-assign.assign) c.utf8.text c.in_ok-tokens.ensures.tokens (rw c.deref.ensures.value at c.in_ok-assign.ensures.tree) in
    (shown c.in_ok-assign.assign, written, sym c.kinds_fit.ensures ∙ c.if-kinds_fit.false)

pub returns-clause-exact : goal.returns-clause-exact
returns-clause-exact c =
    let written = writes_tree an_assignment c.args.text.now c.in_ok-tokens.tokens.items (shown c.in_ok-assign.assign) c.utf8.text c.in_ok-tokens.ensures.tokens (rw c.deref.ensures.value at c.in_ok-assign.ensures.tree) in
    only c.args.kinds.now an_assignment c.args.text.now _ (shown c.in_ok-assign.assign, written, sym c.kinds_fit.ensures ∙ c.if-kinds_fit.false)
