use Rattle.std.proofs.Common.{◌≡◌, Some, map, take}
use Rattle.toml.specs.View.{view}
use Rattle.ht_toml.specs.Entries as spec
use Rattle.ht_toml.proofs.entries.each.Given as goal

abbrev pub invariant-loop-place : goal.invariant-loop-place
invariant-loop-place g l = spec.each g.E.Shape.of (take l.place (map view l.values)) ≡ Some l.entries.items
