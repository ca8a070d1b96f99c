-- One name alone is a list of names.
use Rattle.std.proofs.Common.{◌≡◌, ℕ, ◌<◌, zero, suc, List, [], ◌∷◌, arith}
use Rattle.ht_base.specs.Events.{AreNames}
use Rattle.ht_base.specs.Places.{IsRepeated}

alone : (name : List ℕ) (i : ℕ) → IsRepeated (name ∷ []) i → ⊥
alone name zero r = let below = r.1 in absurd (omega arith)
alone name (suc i) r = let there = r.4 in cc

pub are_names : (name : List ℕ) → AreNames (name ∷ [])
are_names name = record { few = omega arith; distinct = alone name }
