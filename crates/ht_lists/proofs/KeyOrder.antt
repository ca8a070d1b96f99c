-- The order of keys.
use Rattle.std.proofs.Common.{◌≡◌, Ordering, Less, Equal, Greater, refl}
use Rattle.std.specs.Cmp.{IsTotalOrder}
use Rattle.std.specs.Ordering.{nat_cmp, ordering_then}
use Rattle.std.proofs.lemmas.Cmp.{nat_cmp_total, on_total, then_total}
use Rattle.std.proofs.lemmas.Map.Lookups.{exact_unsigned}
use Rattle.ht_lists.specs.declared.keys.Key.{Key}
use Rattle.ht_lists.specs.Keys.{compare_keys}

pub key_order : IsTotalOrder compare_keys
key_order =
    then_total (on_total (λ (k : Key). k.priority) nat_cmp_total)
    (then_total (on_total (λ (k : Key). k.created.0) nat_cmp_total) (on_total (λ (k : Key). k.task.0) nat_cmp_total))

both_equal : (a b : Ordering) → ordering_then a b ≡ Equal → (a ≡ Equal) × (b ≡ Equal)
both_equal Less b e = absurd (no e)
  where
    no : Less ≡ Equal → ⊥
    no e = cc
both_equal Equal b e = (refl, e)
both_equal Greater b e = absurd (no e)
  where
    no : Greater ≡ Equal → ⊥
    no e = cc

pub exact : (a b : Key) → compare_keys a b ≡ Equal → a ≡ b
exact a b e =
    let one = both_equal (nat_cmp a.priority b.priority) (ordering_then (nat_cmp a.created.0 b.created.0) (nat_cmp a.task.0 b.task.0)) e in
    let two = both_equal (nat_cmp a.created.0 b.created.0) (nat_cmp a.task.0 b.task.0) one.1 in
    let p = exact_unsigned a.priority b.priority one.0 in
    let c = exact_unsigned a.created.0 b.created.0 two.0 in
    let t = exact_unsigned a.task.0 b.task.0 two.1 in
    λ i. record { created = record { 0 = c i }; task = record { 0 = t i }; priority = p i }
