use Rattle.std.proofs.Common.{Option, sym, subst}
use Rattle.ht_base.specs.declared.record.Record.{Record}
use Rattle.ht_machine.specs.Deciding.{last_after}
use Rattle.ht_machine.specs.Once.{ActsOnce}
use Rattle.ht_machine.specs.Planning.{record_in}
use Rattle.ht_machine.proofs.Remembering.{acts_once}
use Rattle.ht_machine.proofs.deciding.decide.Goals as goal
use Rattle.ht_tree.specs.Plans.{committed}
use Rattle.ht_tree.specs.Tables.{TablesOf}

pub returns-clause-once : goal.returns-clause-once
returns-clause-once c =
    let t = c.prepare_event.new.tables.tables in
    let e = c.args.event.now in
    let kept = record_in e c.in_ok-left.left in
    let reply = c.in_ok-left.reply in
    let p = c.prepare_event.new.plan in
    let plans = c.in_ok-left.ensures.plans in
    let A : TablesOf → Type 0 = λ u. ActsOnce t e kept reply.answer u in
    let R : Option Record → Type 0 = λ r. ActsOnce t e r reply.answer (committed t p (last_after t r)) in
    subst R (sym c.in_ok-left-2.ensures) (subst A (sym (plans.leaves).makes) (acts_once t e kept reply plans.after plans.decides))
