use Rattle.std.proofs.Common.{◌<◌, ℕ}
use Rattle.ht_models.specs.Refusals.{IsTooMuch}
use Rattle.ht_models.proofs.limits.first_too_much.Given as goal

abbrev pub invariant-loop-place : goal.invariant-loop-place
invariant-loop-place l = (p : ℕ) → p < l.place → IsTooMuch l.entries p → ⊥
