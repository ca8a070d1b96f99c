use Rattle.std.proofs.Common.{◌≡◌, Option, ap, subst, sym, ◌∙◌}
use Rattle.ht_base.specs.declared.record.Record.{Record}
use Rattle.ht_base.specs.declared.reply.Answer.{Answer}
use Rattle.ht_machine.specs.declared.answering.Response.{Response}
use Rattle.ht_machine.specs.Deciding.{left_with}
use Rattle.ht_machine.specs.declared.leaving.Left.{Left}
use Rattle.ht_machine.specs.Planning.{PlansBehindTurn, answer_given, record_as, record_by, record_left}
use Rattle.ht_machine.proofs.BehindTurn.{nothing_planned, then_asks}
use Rattle.ht_machine.proofs.deciding.turn_then_ask.Goals as goal
use Rattle.ht_machine.proofs.deciding.turn_then_ask.Goals.{in-Accepted, in-Answered, in-Refused}

pub turn-requires-clause-plan : goal.turn-requires-clause-plan
turn-requires-clause-plan c = nothing_planned c.args.tables.now.tables c.args.plan.now c.requires.plan c.requires.sound

-- where the record and the answer are those of the response
reached : (c : goal.Joined-branch-3) (left : Option Record) (answer : Answer) → left ≡ left_with c.args.asked.now.at.0 c.in_ok-taken.taken (record_left c.args.asked.now c.in_ok-kept.field-0) → answer ≡ answer_given c.in_ok-kept.field-0 → PlansBehindTurn c.args.tables.now.tables c.ask.new.plan c.args.asked.now left (record { taken = c.in_ok-taken.taken; answer = answer })
reached c left answer kept told =
    let t = c.args.tables.now.tables in
    let a = c.args.asked.now in
    let response = c.in_ok-kept.field-0 in
    let r = then_asks t c.args.plan.now c.turn.new.plan a.at.0 c.in_ok-taken.taken c.requires.plan c.in_ok-taken.ensures.turns a c.mark.new.self c.ask.new.plan (record_left a response) left (answer_given response) c.mark.ensures.value c.requires.asked.within c.requires.later kept c.in_ok-kept.ensures in
    let P : Answer → Type 0 = λ x. PlansBehindTurn t c.ask.new.plan a left (record { taken = c.in_ok-taken.taken; answer = x }) in
    subst P (sym told) (record { after = r.0; decides = r.1; leaves = r.2 })

pub returns : goal.returns
returns c =
    let left = c.match-branch-3.left in
    let a = c.args.asked.now in
    let Pair : Type 0 = Left × Answer in
    let kept_by : Response → Option Record = λ r. left_with a.at.0 c.in_ok-taken.taken (record_left a r) in
    let kept : Pair → Option Record = λ p. record_by (record_as a) p.0 in
    elim c.match-branch-3.branch [
      | in-Accepted w ↦ reached c (kept left) left.1 (ap kept w.left-is ∙ sym (ap kept_by w.in-Accepted.is)) (ap (λ (p : Pair). p.1) w.left-is ∙ w.answer_of.ensures ∙ sym (ap answer_given w.in-Accepted.is))
      | in-Answered w ↦ reached c (kept left) left.1 (ap kept w.left-is ∙ w.by_turn.ensures (record_as a) ∙ sym (ap kept_by w.in-Answered.is)) (ap (λ (p : Pair). p.1) w.left-is ∙ w.answer_of-in-Answered.ensures ∙ sym (ap answer_given w.in-Answered.is))
      | in-Refused w ↦ reached c (kept left) left.1 (ap kept w.left-is ∙ w.by_turn-in-Refused.ensures (record_as a) ∙ sym (ap kept_by w.in-Refused.is)) (ap (λ (p : Pair). p.1) w.left-is ∙ sym (ap answer_given w.in-Refused.is))
    ]
