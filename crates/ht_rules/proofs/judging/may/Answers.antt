use Rattle.std.proofs.Common.{true, false, sym, ◌∙◌}
use Rattle.ht_rules.proofs.judging.may.Goals as goal
use Rattle.ht_rules.proofs.Judged.{judged}

pub returns-then-contains : goal.returns-then-contains
returns-then-contains c =
    judged c.args.op c.args.state c.args.roles.now c.allowances-allowance-items.result.now c.loop-allowance.allowance-index c.loop-allowance.has_role c.loop-allowance.allowed true
    c.allowances-allowance-items.ensures c.loop-allowance-test.false c.loop-allowance.invariant.has_role c.loop-allowance.invariant.allowed c.if-not-has_role.false (sym c.contains.ensures ∙ c.if-contains.true)

pub returns-else-contains : goal.returns-else-contains
returns-else-contains c =
    judged c.args.op c.args.state c.args.roles.now c.allowances-allowance-items.result.now c.loop-allowance.allowance-index c.loop-allowance.has_role c.loop-allowance.allowed false
    c.allowances-allowance-items.ensures c.loop-allowance-test.false c.loop-allowance.invariant.has_role c.loop-allowance.invariant.allowed c.if-not-has_role.false (sym c.contains.ensures ∙ c.if-contains.false)
