use Rattle.std.proofs.Common.{[]}
use Rattle.ht_serve.specs.Serving.{Goes, sides}
use Rattle.ht_serve.proofs.serving.serve_connection.Given as goal

abbrev pub invariant-loop-number : goal.invariant-loop-number
invariant-loop-number g l = record {
  goes : Goes (g.Q.Caller.made l.fn.caller l.caller) (g.Q.Caller.spent l.caller) l.closing l.budget 0 l.number
      (sides (g.L.Source.source_state l.fn.link) (g.L.Sink.sink_state l.fn.link) (g.C.Clock.moments l.fn.clock)) (sides (g.L.Source.source_state l.link) (g.L.Sink.sink_state l.link) (g.C.Clock.moments l.clock)) [] l.buffers.input;
  kept : g.Q.Caller.spent l.fn.caller → g.Q.Caller.spent l.caller;
  stands : g.Q.Caller.stands l.caller;
  same_caller : g.Q.Caller.same l.fn.caller l.caller;
  same : g.L.Link.same l.fn.link l.link;
}
