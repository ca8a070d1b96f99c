use Rattle.std.proofs.Common.{refl}
use Rattle.ht_program.specs.Running.{streams}
use Rattle.ht_program.proofs.OfDesk.{exported, loaded}
use Rattle.ht_program.proofs.working.work_at.Goals as goal

pub returns-in-Run : goal.returns-in-Run
returns-in-Run g c = rw c.in-Run.is c.serve.ensures

pub returns-in-Export : goal.returns-in-Export
returns-in-Export g c =
    let input = g.S.Source.source_state c.args.input.now in
    let before = streams input (g.K.Sink.sink_state c.args.output.now) in
    let after = streams input (g.K.Sink.sink_state c.export_tasks.new.output) in
    rw c.in-Export.is (exported g.D.Disk c.args.desk before after c.export_tasks.result refl c.args.disk.now c.export_tasks.ensures)

pub returns-in-Load : goal.returns-in-Load
returns-in-Load g c =
    let input = g.S.Source.source_state c.args.input.now in
    let before = streams input (g.K.Sink.sink_state c.args.output.now) in
    let after = streams input (g.K.Sink.sink_state c.load_office.new.output) in
    rw c.in-Load.is (loaded g.D.Disk c.args.desk before after c.load_office.result refl c.in-Load.seed c.in-Load.count c.args.disk.now c.load_office.new.disk c.load_office.ensures)
