use Rattle.std.proofs.Common.{◌≡◌, bytes_eq, drop, map}
use Rattle.std.specs.List.{list_all}
use Rattle.httparse.specs.Spans.{header_bytes}
use Rattle.ht_wire.specs.Fields.{values_of}
use Rattle.ht_wire.proofs.bodies.all_say.Given as goal

abbrev pub invariant-loop-header : goal.invariant-loop-header
invariant-loop-header l = list_all (bytes_eq l.value) (values_of l.name (map (header_bytes l.bytes) l.headers)) ≡ list_all (bytes_eq l.value) (values_of l.name (map (header_bytes l.bytes) (drop l.header-index l.headers)))
