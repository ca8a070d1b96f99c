-- Writes that begin within the file.
use Rattle.std.proofs.Common.{◌≡◌, ℕ, ◌+◌, ◌≤◌, List, ◌++◌, length, take, drop, min, ap, ◌∙◌, subst, arith}
use Rattle.ht_outside.specs.Disks.{Holds, Torn}
use Rattle.ht_outside.specs.TornWrites.{padded-within}

-- a whole write that begins within the file
pub Holds-within : (at : ℕ) (piece old new : List ℕ) → at ≤ length old → Holds at piece old new → new ≡ take at old ++ piece ++ drop (at + length piece) old
Holds-within at piece old new within holds = holds ∙ ap (λ (file : List ℕ). take at file ++ piece ++ drop (at + length piece) old) (padded-within 0 at old within)

-- a torn write that begins within the file leaves what is before it
pub Torn-within : (at n : ℕ) (old new : List ℕ) → at ≤ length old → Torn at n old new → take at new ≡ take at old
Torn-within at n old new within torn = let e : min at (length old) ≡ at = omega arith in subst (λ (m : ℕ). take m new ≡ take m old) e torn.before
