use Rattle.std.proofs.Common.{◌≡◌, ◌||◌, true, codes, drop, map, option_map}
use Rattle.std.specs.List.{list_any}
use Rattle.httparse.specs.Spans.{header_bytes}
use Rattle.ht_wire.specs.Fields.{is_close, only, values_of}
use Rattle.ht_wire.specs.Walking.{only_after}
use Rattle.ht_wire.proofs.fields.said_in.Given as goal

abbrev pub invariant-loop-header : goal.invariant-loop-header
invariant-loop-header l = record {
  person : only (values_of (codes "x-person") (map (header_bytes l.bytes) l.headers)) ≡ only_after l.several (option_map (λ v. v.now) l.first) (values_of (codes "x-person") (map (header_bytes l.bytes) (drop l.header-index l.headers)));
  close : list_any is_close (map (header_bytes l.bytes) l.headers) ≡ (l.close || list_any is_close (map (header_bytes l.bytes) (drop l.header-index l.headers)));
  coding : l.bare ≡ true → values_of (codes "transfer-encoding") (map (header_bytes l.bytes) l.headers) ≡ values_of (codes "transfer-encoding") (map (header_bytes l.bytes) (drop l.header-index l.headers));
  size : l.bare ≡ true → values_of (codes "content-length") (map (header_bytes l.bytes) l.headers) ≡ values_of (codes "content-length") (map (header_bytes l.bytes) (drop l.header-index l.headers));
}
