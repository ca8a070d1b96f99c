use Rattle.std.proofs.Common.{Option, OnOk, sym, subst}
use Rattle.std.proofs.lemmas.Result.{on_ok_weaker}
use Rattle.ht_base.specs.declared.moment.Moment.{Moment}
use Rattle.ht_machine.specs.Planning.{IsActivated}
use Rattle.ht_machine.proofs.Created.{activated}
use Rattle.ht_machine.proofs.creating.activate_unless.Goals as goal

pub returns-in-None : goal.returns-in-None
returns-in-None c =
    let t = c.args.tables.now.tables in
    let P : Option Moment → Type 0 = λ w. OnOk c.activate.result (IsActivated t c.args.plan.now c.activate.new.plan c.args.at w c.args.task.0) in
    subst P (sym c.in-None.is) (on_ok_weaker c.activate.result (activated t c.args.plan.now c.activate.new.plan c.args.at c.args.task.0 c.requires.there) c.activate.ensures.runs)
