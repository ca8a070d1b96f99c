use Rattle.std.proofs.Common.{Some, ap, sym, subst, ◌∙◌, ◌≡◌, max, ℕ}
use Rattle.ht_base.specs.declared.record.Record.{Record}
use Rattle.ht_machine.proofs.AppliedAgain.{PlansKept, asked_plans}
use Rattle.ht_machine.proofs.applying.plan_kept.Goals as goal
use Rattle.ht_machine.proofs.applying.plan_kept.Goals.{in-Sheet-2, in-Page-2, in-Notices-2, in-Done-2}

asked : (c : goal.Joined-branch-4) → PlansKept c.args.tables.now.tables c.turn_then_ask.new.plan c.args.kept.now c.in_ok-turn_then_ask-in-Asked.field-0.0
asked c =
    let t = c.args.tables.now.tables in
    let P : Record → Type 0 = λ k. PlansKept t c.turn_then_ask.new.plan k c.in_ok-turn_then_ask-in-Asked.field-0.0 in
    subst P (sym c.in-Asked.is) (c.in_ok-turn_then_ask-in-Asked.field-0.1, asked_plans t c.turn_then_ask.new.plan _ c.in-Asked.at _ _ (c.effective.ensures ∙ ap (λ (n : ℕ). max c.in-Asked.at.0 n) c.last-last.ensures.value) c.in_ok-turn_then_ask-in-Asked.ensures)

pub returns-in_ok-turn_then_ask-in-Asked : goal.returns-in_ok-turn_then_ask-in-Asked
returns-in_ok-turn_then_ask-in-Asked c = elim c.match-branch-4.branch [
  | in-Sheet-2 w ↦ asked (c)
  | in-Page-2 w ↦ asked (c)
  | in-Notices-2 w ↦ asked (c)
  | in-Done-2 w ↦ asked (c)
]
