use Rattle.std.proofs.Common.{◌≡◌, map, string_bytes, length}
use Rattle.ht_program.specs.Words as spec
use Rattle.ht_program.proofs.words.are_options.Given as goal

abbrev pub invariant-loop-rest : goal.invariant-loop-rest
invariant-loop-rest l = spec.are_options (map (λ s. s.now) l.names) (map string_bytes l.words) ≡ spec.are_options (map (λ s. s.now) l.names) (map string_bytes l.rest)

abbrev pub decreases-loop-rest : goal.decreases-loop-rest
decreases-loop-rest l = length l.rest
