use Rattle.std.proofs.Common.{List, map, subst, sym}
use Rattle.std.proofs.lemmas.Result.{err_from_is_err_and}
use Rattle.ht_expr.specs.declared.token.Placed.{Placed as BorrowedPlaced}
use Rattle.ht_expr.specs.Reading.{HasTokens}
use Rattle.ht_expr.specs.Scanning.{placed}
use Rattle.ht_expr.proofs.Answering.{refuses, refuses_shape}
use Rattle.ht_expr.proofs.expected.whole_tokens.Goals as goal

pub returns-in_err-tokens-clause-refused : goal.returns-in_err-tokens-clause-refused
returns-in_err-tokens-clause-refused c =
    let p = err_from_is_err_and c.from_residual.result c.from_residual.ensures.1 in rw (p.1, p.2) (λ kinds. refuses kinds c.args.level c.args.text.now _ c.in_err-tokens.ensures)

pub returns-in_err-check-clause-refused : goal.returns-in_err-check-clause-refused
returns-in_err-check-clause-refused c =
    let p = err_from_is_err_and c.from_residual-in_err-check.result c.from_residual-in_err-check.ensures.1 in
    let text = c.args.text.now in
    let has = subst (λ (l : List BorrowedPlaced). HasTokens text (map placed l)) (sym c.deref.ensures.value) c.in_ok-tokens.ensures in
    rw (p.1, p.2) (λ kinds. refuses_shape (Unit {0}) kinds c.args.level text (map placed c.deref.result.now) _ c.requires c.utf8.text has c.in_err-check.ensures)
