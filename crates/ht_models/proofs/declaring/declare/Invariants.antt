use Rattle.std.proofs.Common.{◌≡◌, ◌++◌, map, take}
use Rattle.ht_models.proofs.declaring.declare.Given as goal

abbrev pub invariant-loop-part : goal.invariant-loop-part
invariant-loop-part l = l.kinds ≡ l.fn.kinds ++ map (λ p. (l.side, p.name, p.kind)) (take l.part-index l.parts)
