use Rattle.std.proofs.Common.{◌∙◌, ap, subst}
use Rattle.ht_shared.specs.Passes.{Called}
use Rattle.ht_shared.proofs.Seen.{if_ok, shown, called_from}
use Rattle.ht_shared.proofs.shared.Shared.call.Goals as goal

pub returns-clause-called : goal.returns-clause-called
returns-clause-called g c =
    let old = c.pass.inside.place in
    let new = c.call_at.new.place in
    if_ok c.call_at.result (λ reply acts.
    subst (λ p. Called g.T.Stepper.relates c.args.self.now.start p c.args.event.now reply (shown new.table_id new.me.0)) c.pass.view_is
    (called_from g.T.Stepper.relates c.args.self.now.start old.table_id new.table_id old.me.0 new.me c.args.event.now reply c.call_at.ensures.board (ap (λ p. p.start) c.pass.view_is ∙ c.requires.pass.1) acts)) c.call_at.ensures.acts
