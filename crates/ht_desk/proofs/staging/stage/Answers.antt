use Rattle.std.proofs.Common.{None, refl, subst, sym}
use Rattle.ht_base.specs.declared.event.Event.{Event}
use Rattle.ht_machine.specs.Deciding.{Decides}
use Rattle.ht_desk.proofs.Staged.{not_of_a_disk}
use Rattle.ht_desk.proofs.staging.stage.Goals as goal

pub returns-in-Read-clause-staged : goal.returns-in-Read-clause-staged
returns-in-Read-clause-staged c =
    let t = c.args.tables.now.tables in
    let D : Event → Type 0 = λ e. Decides t e None c.in_ok-reply.reply t in
    (t, subst D (sym c.in-Read.is) ((refl, refl), c.in_ok-reply.ensures))

pub returns-in-Read-clause-not_store : goal.returns-in-Read-clause-not_store
returns-in-Read-clause-not_store c =
    let t = c.args.tables.now.tables in
    let D : Event → Type 0 = λ e. Decides t e None c.in_ok-reply.reply t in
    not_of_a_disk t c.args.event.now None c.in_ok-reply.reply t (subst D (sym c.in-Read.is) ((refl, refl), c.in_ok-reply.ensures))
