use Rattle.std.proofs.Common.{◌≡◌, map, take}
use Rattle.ht_toml.proofs.names.names_of.Given as goal

abbrev pub invariant-loop-item : goal.invariant-loop-item
invariant-loop-item g l = l.names.items ≡ map g.T.Named.name_of (take l.item-index l.items)
