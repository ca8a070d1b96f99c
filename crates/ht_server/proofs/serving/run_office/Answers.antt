use mir.Syntax.{named, of_param}
use denote.Exit.{no}
use denote.Param.Send.{Quiet-if, param_send}
use Rattle.ht_server.proofs.Sent.{machine_send}
use Rattle.ht_server.proofs.serving.run_office.Goals as goal

pub run_crew-requires-send-T : goal.run_crew-requires-send-T
run_crew-requires-send-T g c κs within =
    let sent = machine_send (record { mir = named 5; lft = κs.1.1.1.1.1.0 }) _ c.type_bounds.send-D in
    record { owned = sent.owned; leaving = λ k. Quiet-if (k (of_param 0)) _ _ (sent.leaving no) (λ x w. tt) }
