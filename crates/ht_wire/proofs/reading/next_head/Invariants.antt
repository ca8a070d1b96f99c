use Rattle.std.proofs.Common.{◌≡◌, ◌≤◌, length}
use Rattle.ht_wire.specs.declared.limits.TheConstants.{LONGEST_HEAD}
use Rattle.ht_wire.specs.Buffering.{ReadsOn, ReadsWhereNeeded}
use Rattle.ht_wire.specs.Requests.{IsUnfinished}
use Rattle.ht_wire.proofs.reading.next_head.Given as goal

abbrev pub invariant-loop : goal.invariant-loop
invariant-loop g l = record {
  took : ReadsOn IsUnfinished (g.L.Source.source_state l.fn.link).flow (g.L.Source.source_state l.link).flow l.fn.buffer l.buffer;
  buffered : ReadsWhereNeeded l.fn.link l.link l.fn.buffer l.buffer;
  grown : l.counter ≤ length l.buffer;
  few : l.counter ≤ LONGEST_HEAD;
  later : (g.L.Source.source_state l.fn.link).faults ≤ (g.L.Source.source_state l.link).faults;
  beside : g.L.Sink.sink_state l.link ≡ g.L.Sink.sink_state l.fn.link;
  same : g.L.Link.same l.fn.link l.link;
}
