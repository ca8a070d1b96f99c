-- The first of the keys that were offered.
use Rattle.std.proofs.Common.{◌≡◌, ℕ, ◌+◌, ◌-◌, ◌<◌, ◌≤◌, Bool, true, false, not, List, [], ◌∷◌, ◌++◌, length, fold, drop, take, Option, Some, None, unwrap_or, slice_get, Ordering, Less, Equal, Greater, refl, ap, sym, subst, ◌∙◌, arith}
use Rattle.std.specs.List.{AllByRecursion}
use Rattle.std.specs.Cmp.{ranks}
use Rattle.std.specs.Ordering.{MatchOrdering, is_lt, nat_cmp, ordering_then}
use Rattle.std.proofs.lemmas.List.{drop-take, length-take-le, take-take, take_all}
use Rattle.ht_lists.specs.declared.keys.Key.{Key}
use Rattle.ht_lists.specs.Best.{Bounds, IsBounded, best_of, first_of, is_behind, none_of, with_key}
use Rattle.ht_lists.specs.Keys.{compare_keys}
use Rattle.ht_lists.specs.Sorted.{put_by, sorted_by}
use Rattle.ht_lists.proofs.CommentsShown.{there_is}
use Rattle.ht_lists.proofs.FirstFew.{Low, all_take, first_again, last_bounds, length-put, length-sorted, low_put, put_behind, rises_first, sorted_more, take_nil, take_put}
use Rattle.ht_lists.proofs.KeyOrder.{key_order}
use Rattle.ht_lists.proofs.OneOrder.{Rises}

flipped : (b c : Bool) → not b ≡ c → b ≡ not c
flipped true c e = ap not e
flipped false c e = ap not e

-- one key more is held
pub held_more : (n : ℕ) (keys : List Key) (key : Key) → first_of n (keys ++ key ∷ []) ≡ take n (put_by compare_keys (first_of n keys) key)
held_more n keys key = ap (take n) (sorted_more compare_keys keys key) ∙ sym (take_put compare_keys n (sorted_by compare_keys keys) key)

-- what doesn't come before the bound has no higher priority
no_higher : (key bound : Key) → is_lt (compare_keys key bound) ≡ false → bound.priority ≤ key.priority
no_higher key bound late = at (nat_cmp key.priority bound.priority) (ranks key.priority bound.priority) late
  where
    later : Ordering
    later = ordering_then (nat_cmp key.created.0 bound.created.0) (nat_cmp key.task.0 bound.task.0)

    at : (o : Ordering) → MatchOrdering o (key.priority < bound.priority) (key.priority ≡ bound.priority) (bound.priority < key.priority) → is_lt (ordering_then o later) ≡ false → bound.priority ≤ key.priority
    at Less m e = absurd (no e)
      where
        no : true ≡ false → ⊥
        no e = cc
    at Equal m e = omega (arith, m)
    at Greater m e = omega (arith, m)

-- one that is behind the bound needn't be
pub behind_is : (n : ℕ) (first : List Key) (key bound : Key) → is_behind key bound ≡ true → key.priority < 255 → Bounds n first bound
    → take n (put_by compare_keys first key) ≡ first
behind_is n first key bound e some bounds =
    let late = flipped (is_lt (compare_keys key bound)) true e in
    let bounded = bounds (omega (arith, no_higher key bound late, some)) in
    put_behind compare_keys key_order bound key n first (omega (arith, bounded.full)) (all_take (Low compare_keys key_order bound) n first bounded.low) late
    ∙ take_all n first (omega (arith, bounded.full))

-- a bound stays one with one key more
more_bounded : (n : ℕ) (first : List Key) (key bound : Key) → IsBounded n first bound → IsBounded n (take n (put_by compare_keys first key)) bound
more_bounded n first key bound bounded = record {
  full = length-take-le n (put_by compare_keys first key) (omega (arith, bounded.full, length-put compare_keys first key));
  low = at (is_lt (compare_keys key bound)) refl;
}
  where
    low : AllByRecursion (Low compare_keys key_order bound) (take n first)
    low = all_take (Low compare_keys key_order bound) n first bounded.low

    at : (b : Bool) → is_lt (compare_keys key bound) ≡ b → AllByRecursion (Low compare_keys key_order bound) (take n (put_by compare_keys first key))
    at true e = low_put compare_keys key_order bound key n first low e
    at false e = subst (AllByRecursion (Low compare_keys key_order bound)) (sym (put_behind compare_keys key_order bound key n first (omega (arith, bounded.full)) low e)) low

pub bounds_more : (n : ℕ) (keys : List Key) (key bound : Key) → Bounds n (first_of n keys) bound → Bounds n (first_of n (keys ++ key ∷ [])) bound
bounds_more n keys key bound bounds some =
    subst (λ l. IsBounded n l bound) (sym (held_more n keys key)) (more_bounded n (first_of n keys) key bound (bounds some))

-- the last of the first so many is a bound of them
last_bounded : (n : ℕ) (first : List Key) (bound : Key) (last : Option Key) → length first ≡ n → Rises compare_keys key_order first → last ≡ slice_get first (length first - 1)
    → IsBounded n first (unwrap_or last bound)
last_bounded n first bound (Some last) full up is = record { full = full; low = last_bounds compare_keys key_order first last up (sym is) }
last_bounded n [] bound None full up is = record { full = full; low = tt }
last_bounded n (x ∷ xs) bound None full up is = absurd (there_is (x ∷ xs) (length (x ∷ xs) - 1) (omega arith) (sym is))

pub cut_bounds : (n : ℕ) (keys : List Key) (bound : Key) (last : Option Key) → n ≤ length keys → last ≡ slice_get (first_of n keys) (length (first_of n keys) - 1)
    → Bounds n (first_of n (first_of n keys)) (unwrap_or last bound)
cut_bounds n keys bound last full is some =
    let whole : n ≤ length (sorted_by compare_keys keys) = omega (arith, full, length-sorted compare_keys keys) in
    subst (λ l. IsBounded n l (unwrap_or last bound)) (sym (first_again compare_keys key_order n keys))
    (last_bounded n (first_of n keys) bound last (length-take-le n (sorted_by compare_keys keys) whole) (rises_first compare_keys key_order n keys) is)

all_offered : (n m : ℕ) (held keys : List Key) → fold with_key (record { limit = n; keys = take n held; total = m }) keys ≡ record { limit = n; keys = take n (fold (put_by compare_keys) held keys); total = m + length keys }
all_offered n m held [] = let e : m ≡ m + 0 = omega arith in λ i. record { limit = n; keys = take n held; total = e i }
all_offered n m held (k ∷ ks) =
    let more : m + 1 + length ks ≡ m + length (k ∷ ks) = omega arith in
    ap (λ l. fold with_key (record { limit = n; keys = l; total = m + 1 }) ks) (take_put compare_keys n held k)
    ∙ all_offered n (m + 1) (put_by compare_keys held k) ks
    ∙ (λ i. record { limit = n; keys = take n (fold (put_by compare_keys) (put_by compare_keys held k) ks); total = more i })

-- of all that were offered one after another the first so many are kept
pub best_is : (n : ℕ) (keys : List Key) → fold with_key (none_of n) keys ≡ best_of n keys
best_is n keys =
    ap (λ l. fold with_key (record { limit = n; keys = l; total = 0 }) keys) (sym (take_nil n))
    ∙ all_offered n 0 [] keys
    ∙ (let e : 0 + length keys ≡ length keys = omega arith in λ i. record { limit = n; keys = take n (sorted_by compare_keys keys); total = e i })

-- the part of the first so many is the part of all
pub part_of_first : {A : Type 0} (from count : ℕ) (xs : List A) → take count (drop from (take (from + count) xs)) ≡ take count (drop from xs)
part_of_first from count xs = ap (take count) (drop-take from count xs) ∙ take-take count count (drop from xs) (omega arith)
