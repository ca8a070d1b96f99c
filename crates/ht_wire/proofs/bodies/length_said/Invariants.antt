use Rattle.std.proofs.Common.{◌≡◌, drop, map}
use Rattle.httparse.specs.Spans.{header_bytes}
use Rattle.ht_wire.specs.Fields.{values_of}
use Rattle.ht_wire.proofs.bodies.length_said.Given as goal

abbrev pub invariant-loop-place : goal.invariant-loop-place
invariant-loop-place l = values_of l.name (map (header_bytes l.bytes) l.headers) ≡ values_of l.name (map (header_bytes l.bytes) (drop l.place l.headers))
