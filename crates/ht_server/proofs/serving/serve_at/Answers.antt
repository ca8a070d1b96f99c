use Rattle.std.proofs.Common.{rules, refl, sym, ap, subst, ◌∙◌}
use Rattle.ht_desk.specs.Steps.{Steps}
use Rattle.ht_pool.specs.Crews.{RunsCrew}
use Rattle.ht_pool.proofs.PublicLaws.{from_before, not_begun}
use Rattle.ht_server.specs.Services.{ServesOver}
use Rattle.ht_server.proofs.Followed.{listening_failed, serves_over, still_there, through}
use Rattle.ht_server.proofs.serving.serve_at.Goals as goal

pub returns-then-is_err : goal.returns-then-is_err
returns-then-is_err g c = listening_failed g.D.Disk c.args.crew.now c.args.desk c.args.disk.now (g.L.Door.door_state c.args.door.now) (g.L.Door.door_state c.listen.new.self) (g.K.Sink.sink_state c.args.output.now) c.listen.result (sym c.is_err.ensures.value ∙ c.if-is_err.true) c.listen.ensures.cause

pub returns : goal.returns
returns g c =
    let ran = from_before _ c.args.crew.now _ _ (g.L.Door.door_state c.args.door.now) (g.L.Door.door_state c.listen.new.self) (g.L.Door.door_state c.run_office-machine.new.door) c.run_office-machine.new.ending c.listen.ensures.links c.listen.ensures.back c.listen.ensures.cause.later c.run_office-machine.ensures.ran in
    let there = still_there g.D.Disk (λ m. m.disk.now) (λ m. m.state) (λ m. m.disk.ghost_name) c.args.crew.now _ _ _ _ _ ran in
    let Over : _ → Type 0 = λ d. ServesOver g.D.Disk c.args.crew.now c.lengthen_ahead.new.self c.args.disk.now d (g.L.Door.door_state c.args.door.now) (g.L.Door.door_state c.run_office-machine.new.door) (g.K.Sink.sink_state c.args.output.now) (g.K.Sink.sink_state c.tell.new.output) c.tell.result in
    λ beside texts s at.
    through Over _ c.disk-1.given (sym there)
    (subst Over (sym c.close-desk.ensures.disk)
    (serves_over g.D.Disk (λ m. m.disk.now) (λ m. m.state) (λ m. m.disk.ghost_name) c.args.crew.now _ _ _ _ _ ran _ _ c.tell.result (rw (← c.close-desk.ensures.state) c.tell.ensures))) beside texts s (c.lengthen_ahead.ensures.same beside texts s at)
