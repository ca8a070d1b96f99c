-- The sum of the numbers among values, one value at a time.
use Rattle.std.proofs.Common.{◌≡◌, ℕ, ◌+◌, ◌<◌, ℤ, pos, ◌+ℤ◌, List, length, get_or, drop, Option, Some, None, refl, ap, ◌∙◌, arith}
use Rattle.std.proofs.lemmas.Int.{ints}
use Rattle.std.specs.List.{cons_option}
use Rattle.ht_base.specs.declared.value.Value.{Value}
use Rattle.ht_aggregate.specs.Given.{number_in, numbers}
use Rattle.ht_aggregate.specs.Numbers.{total}
use Rattle.ht_aggregate.proofs.Steps.{given_more}

-- what a number adds, if there is one
abbrev pub added : Option ℤ → ℤ
added None = pos 0
added (Some n) = n

total-cons_option : (o : Option ℤ) (ns : List ℤ) → total (cons_option o ns) ≡ added o +ℤ total ns
total-cons_option None ns = let n = total ns in omega (arith, ints)
total-cons_option (Some n) ns = refl

pub total_more : (vs : List Value) (i : ℕ) (v : Value) (o : Option ℤ) → i < length vs → v ≡ get_or vs i v → o ≡ number_in v
    → total (numbers (drop i vs)) ≡ added o +ℤ total (numbers (drop (i + 1) vs))
total_more vs i v o within is held = ap total (given_more number_in vs i v o within is held) ∙ total-cons_option o (numbers (drop (i + 1) vs))
