use Rattle.std.proofs.Common.{◌≡◌, ◌∙◌, Some, ap, sym, subst}
use Rattle.ht_machine.specs.Deciding.{last_after}
use Rattle.ht_machine.proofs.AppliedAgain.{it_applies, never_applies}
use Rattle.ht_machine.proofs.applying.apply.Goals as goal
use Rattle.ht_tree.specs.Plans.{committed}
use Rattle.ht_tree.specs.Soundness.{IsSound}
use Rattle.ht_tree.specs.Tables.{TablesOf}

pub returns-then-not-is_of-clause-refused : goal.returns-then-not-is_of-clause-refused
returns-then-not-is_of-clause-refused c = λ is. never_applies c.args.tables.now.tables c.plan_kept.new.plan c.in_ok-left.left c.args.kept.now (sym c.is_of.ensures ∙ c.if-not-is_of.true) c.in_ok-left.ensures

pub commit-requires-clause-sound : goal.commit-requires-clause-sound
commit-requires-clause-sound c =
    let t = c.args.tables.now.tables in
    let kept = c.args.kept.now in
    let at = c.moment_behind-at.result.0 in
    let same : c.prepare.new.self.tables ≡ t = c.in_ok-prepare.ensures.tables in
    let last : at ≡ last_after t (Some kept) = c.moment_behind-at.ensures ∙ ap (λ (u : TablesOf). last_after u (Some kept)) same in
    let S : TablesOf → Type 0 = λ u. IsSound (committed u c.plan_kept.new.plan at) in
    subst S (sym same) (it_applies t c.plan_kept.new.plan c.in_ok-left.left kept (sym c.is_of.ensures ∙ c.if-not-is_of.false) c.in_ok-left.ensures at last).sound
