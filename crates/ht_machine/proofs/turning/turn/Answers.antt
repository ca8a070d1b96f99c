use Rattle.std.proofs.Common.{refl, sym, ◌∙◌}
use Rattle.ht_machine.proofs.UnderWay.{sets_out, turns_then}
use Rattle.ht_machine.proofs.turning.turn.Goals as goal

pub returns-in-None-clause-turns : goal.returns-in-None-clause-turns
returns-in-None-clause-turns c =
    let t = c.args.tables.now.tables in
    let p = c.args.plan.now in
    turns_then t p p c.args.at.0 0 (sets_out t p c.args.at.0 0 c.requires.plan.fits c.requires.plan.sound refl) (sym c.first.ensures ∙ c.in-None.is)
