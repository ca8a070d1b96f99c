use Rattle.std.proofs.Common.{◌≡◌, ◌≤◌, ℕ, None, ap, refl, sym, subst, ◌∙◌, arith, max}
use Rattle.ht_base.specs.declared.event.Event.{Event}
use Rattle.ht_base.specs.declared.event.Event.TheVariants as event
use Rattle.ht_base.specs.Events.{IsValid}
use Rattle.ht_base.specs.Moment.{last_moment}
use Rattle.ht_base.specs.declared.reply.Answer.TheVariants.{Turned}
use Rattle.ht_base.specs.declared.reply.Reply.{Reply}
use Rattle.ht_machine.specs.Deciding.{Behind, Decides, Rests, effective, reply_of}
use Rattle.ht_machine.specs.History.{record_at}
use Rattle.ht_machine.specs.Planning.{Plans, record_in}
use Rattle.ht_machine.proofs.BehindTurn.{nothing_planned, read_leaves, turn_plans}
use Rattle.ht_machine.proofs.deciding.plan_event.Goals as goal
use Rattle.ht_tree.specs.Soundness.{IsSound}
use Rattle.ht_tree.specs.Tables.{TablesOf}

pub returns-in_ok-reply-in-Read : goal.returns-in_ok-reply-in-Read
returns-in_ok-reply-in-Read c =
    let t = c.args.tables.now.tables in
    let D : Event → Type 0 = λ e. Decides t e None c.in_ok-reply-in-Read.reply t in
    record {
      after = t;
      decides = subst D (sym c.in-Read.is) ((refl, refl), c.in_ok-reply-in-Read.ensures);
      leaves = read_leaves t c.args.plan.now c.requires.plan c.last-last.ensures.sound;
    }
