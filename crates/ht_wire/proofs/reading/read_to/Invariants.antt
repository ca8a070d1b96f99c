use Rattle.std.proofs.Common.{◌≡◌, ◌-◌, ◌<◌, ◌≤◌, length}
use Rattle.ht_wire.specs.Buffering.{ReadsOn}
use Rattle.ht_wire.proofs.reading.read_to.Given as goal

abbrev pub invariant-loop-buffer : goal.invariant-loop-buffer
invariant-loop-buffer g l = record {
  took : ReadsOn (λ bytes. length bytes < l.end) (g.L.Source.source_state l.fn.link).flow (g.L.Source.source_state l.link).flow l.fn.buffer l.buffer;
  still : l.end ≤ length l.fn.buffer → l.link ≡ l.fn.link;
  longer : length l.fn.buffer ≤ length l.buffer;
  later : (g.L.Source.source_state l.fn.link).faults ≤ (g.L.Source.source_state l.link).faults;
  beside : g.L.Sink.sink_state l.link ≡ g.L.Sink.sink_state l.fn.link;
  same : g.L.Link.same l.fn.link l.link;
}

abbrev pub decreases-loop-buffer : goal.decreases-loop-buffer
decreases-loop-buffer g l = l.end - length l.buffer
