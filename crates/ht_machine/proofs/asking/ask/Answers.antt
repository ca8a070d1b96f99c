use Rattle.std.proofs.Common.{refl}
use Rattle.ht_base.specs.declared.reply.Answer.TheVariants as answer
use Rattle.ht_machine.specs.declared.sending.Sending.TheVariants as sending
use Rattle.ht_machine.proofs.Asked.{idle_asked}
use Rattle.ht_machine.proofs.asking.ask.Goals as goal

pub returns-in-Refused : goal.returns-in-Refused
returns-in-Refused c =
    let refusal = c.in-Refused.refusal in
    idle_asked c.args.tables.now.tables c.args.plan.now c.args.asked.now c.op-op.result (sending.Refused refusal) c.op-op.ensures c.in-Refused.ensures.sent c.requires.ready (answer.Refused refusal) ((refl, refl), refl)
