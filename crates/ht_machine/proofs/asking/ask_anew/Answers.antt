use Rattle.std.proofs.Common.{◌≡◌, Err, Some, ap, sym, subst, ◌∙◌}
use Rattle.ht_base.specs.declared.operation.Op.{Op}
use Rattle.ht_base.specs.Events.{op_of}
use Rattle.ht_machine.specs.Commands.{Comes}
use Rattle.ht_machine.specs.Planning.{PlansNew, Tries, record_of}
use Rattle.ht_machine.specs.Sending.{answer_of, keeping_reply}
use Rattle.ht_machine.proofs.Asked.{asked_anew, refused_anew}
use Rattle.ht_machine.proofs.asking.ask_anew.Goals as goal
use Rattle.ht_owner.specs.declared.refusal.ActRefusal.{ActRefusal}
use Rattle.ht_owner.specs.declared.refusal.ActRefusal.TheVariants as why
use Rattle.ht_tree.specs.Plans.{PlanOf, planned}

pub returns-in-Ok : goal.returns-in-Ok
returns-in-Ok c =
    let t = c.args.tables.now.tables in
    let a = c.args.asked.now in
    let p = c.args.plan.now in
    let q = c.command.new.plan in
    let person = c.args.person in
    let kept = c.done-kept.result in
    let P : PlanOf → Type 0 = λ x. PlansNew t p x a.at.0 person a.retry a.task a.command.now (record_of a) (Some (record_of a)) (answer_of kept) in
    let plan_is : c.keep.new.plan ≡ keeping_reply q person a.retry (op_of a.command.now) a.task kept = c.keep.ensures ∙ ap (λ (o : Op). keeping_reply q person a.retry o a.task kept) c.op.ensures in
    subst P (sym plan_is) (asked_anew t p q person a c.requires.ready c.in-Ok.about kept c.requires.later c.requires.person c.requires.asked c.in-Ok.ensures c.done-kept.ensures.shows c.done-kept.ensures.known)

pub returns-in-Err-Refused : goal.returns-in-Err-Refused
returns-in-Err-Refused c =
    let t = c.args.tables.now.tables in
    let a = c.args.asked.now in
    let old = c.args.plan.now in
    let refusal = c.in-Err-Refused.refusal in
    let T : ActRefusal → Type 0 = λ r. Tries t old c.command.new.plan (Comes (planned t old) c.args.person a.at.0 a.task.0 a.command.now) (Err r) in
    let tried : T (why.Refused refusal) = subst T c.in-Err-Refused.field-0-is c.in-Err-Refused.ensures in
    rw c.in-Err-Refused.field-0-is (refused_anew t old c.command.new.plan c.args.person a c.requires.ready c.back.new.self refusal c.back.ensures.value tried.1 tried.0)
