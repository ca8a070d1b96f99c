use Rattle.std.proofs.Common.{sym, subst}
use Rattle.ht_expr.specs.Building.{IsAt}
use Rattle.ht_expr.specs.Scanning.{seen}
use Rattle.ht_expr.proofs.Checking.{at_place}
use Rattle.ht_expr.proofs.building.token_at.Goals as goal

pub returns-in-Some : goal.returns-in-Some
returns-in-Some c =
    let h = c.in-Some.ensures.lookup in
    let t = c.in-Some.found.now in
    subst (λ u. IsAt c.args.tokens.now c.args.at (seen u.token)) (sym h.1) (at_place c.args.tokens.now c.args.at t h.3.0)
