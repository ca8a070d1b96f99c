use Rattle.std.proofs.Common.{◌≡◌, take}
use Rattle.ht_base.proofs.parts.Parts.copy.Given as goal

abbrev pub invariant-loop-name : goal.invariant-loop-name
invariant-loop-name l = l.items.items ≡ take l.name-index l.self
