use Rattle.std.proofs.Common.{◌≡◌, ◌∷◌, [], Some, refl, subst, sym}
use Rattle.std.proofs.lemmas.List.{take_all}
use Rattle.std.specs.Prelude.{map, reverse}
use Rattle.ht_expr.specs.Expected.{run}
use Rattle.ht_expr.specs.Reading.{bare}
use Rattle.ht_expr.specs.Scanning.{placed}
use Rattle.ht_expr.specs.declared.expected.Symbol.TheVariants as symbol
use Rattle.ht_expr.specs.declared.token.Placed.{Placed as BorrowedPlaced}
use Rattle.std.proofs.Common.{List}
use Rattle.ht_expr.proofs.Checking.{broke, ended, went}
use Rattle.ht_expr.proofs.expected.check.Goals as goal

pub returns-in-No : goal.returns-in-No
returns-in-No c = broke _ _ _ _ _ _ c.loop-i.invariant (c.in-No.ensures.no refl) c.loop-i-test.true

pub loop-i-preserved : goal.loop-i-preserved
loop-i-preserved c = went _ _ _ _ _ _ c.loop-i.invariant (c.in-Yes.ensures.yes refl) c.loop-i-test.true

pub returns-then-is_done : goal.returns-then-is_done
returns-then-is_done c =
    let whole = take_all c.loop-i.i c.args.tokens.now c.loop-i-test.false in
    (reverse c.loop-i.expected.items, subst (λ (l : List BorrowedPlaced). run (symbol.Tree c.args.level ∷ []) (bare (map placed l)) ≡ Some (reverse c.loop-i.expected.items)) whole c.loop-i.invariant, sym c.if-is_done.ensures)

pub returns-else-is_done : goal.returns-else-is_done
returns-else-is_done c = ended _ _ _ _ _ c.loop-i.invariant (sym c.if-is_done.ensures) c.loop-i-test.false
