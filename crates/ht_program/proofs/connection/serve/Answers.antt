use Rattle.std.proofs.Common.{sym, subst}
use Rattle.ht_program.specs.Running.{streams}
use Rattle.ht_program.specs.Words.WorkOf.{running}
use Rattle.ht_program.specs.Working.{DidOver}
use Rattle.ht_program.proofs.Worked.{ran_over, same_disk, through}
use Rattle.ht_program.proofs.connection.serve.Goals as goal

pub returns : goal.returns
returns g c =
    let served = c.serve_lent-ending.ensures in
    let named = same_disk g.D.Disk (λ m. m.disk.now) (λ m. m.state) (λ m. m.disk.ghost_name) _ _ _ served.serves.made in
    let before = streams (g.S.Source.source_state c.args.input.now) (g.K.Sink.sink_state c.args.output.now) in
    let after = streams (g.S.Source.source_state c.serve_lent-ending.new.input) (g.K.Sink.sink_state c.serve_lent-ending.new.output) in
    let Over : _ → Type 0 = λ d. DidOver g.D.Disk (running c.args.run.now.from c.args.run.now.step) c.args.desk c.args.disk.now d before after c.serve_lent-ending.result in
    through Over _ c.disk-1.given (sym named)
    (subst Over (sym c.close.ensures.disk)
    (ran_over g.D.Disk (λ m. m.disk.now) (λ m. m.state) (λ m. m.disk.ghost_name) _ _ _ _ before after _ _ (rw (c.clock-clock.ensures.next, c.clock-clock.ensures.step) at served)))
