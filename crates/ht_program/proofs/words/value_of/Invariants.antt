use Rattle.std.proofs.Common.{◌≡◌, map, string_bytes, length}
use Rattle.ht_program.specs.Words as spec
use Rattle.ht_program.proofs.words.value_of.Given as goal

abbrev pub invariant-loop-rest : goal.invariant-loop-rest
invariant-loop-rest l = spec.value_of l.name (map string_bytes l.words) ≡ spec.value_of l.name (map string_bytes l.rest)

abbrev pub decreases-loop-rest : goal.decreases-loop-rest
decreases-loop-rest l = length l.rest
