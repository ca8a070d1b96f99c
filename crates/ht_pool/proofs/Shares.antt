-- The shares of the workers together are all connections.
use Rattle.std.proofs.Common.{◌≡◌, ℕ, zero, suc, ◌+◌, ◌*◌, ◌/◌, ◌%◌, ◌<◌, ◌≤◌, min, Bool, true, false, cond, nat_lt, arith, List, [], ◌∷◌, ◌++◌, Option, Some, None, refl, sym, ap, subst, ◌∙◌, map, mod-lt, div-add-mod', suc-mul, mul_comm, ltb-true, ltb-false}
use Rattle.std.proofs.lemmas.List.{map-append}
use Rattle.ht_doors.specs.Doors.{DoorState}
use Rattle.ht_pool.specs.Shares.{share_of, shares_to}
use Rattle.ht_pool.specs.Gathering.{SeatOf, fork_of, seat_of, seats_to}

-- the sum of a list
abbrev pub sum_of : List ℕ → ℕ
sum_of [] = 0
sum_of (n ∷ ns) = n + sum_of ns

sum_push : (ns : List ℕ) (n : ℕ) → sum_of (ns ++ n ∷ []) ≡ sum_of ns + n
sum_push [] n = omega arith
sum_push (m ∷ ns) n = ap (λ k. m + k) (sum_push ns n) ∙ omega arith

module _ (workers connections : ℕ) where
  one_more : (k : ℕ) (t : Bool) → nat_lt k (connections % workers) ≡ t → min k (connections % workers) + cond t 1 0 ≡ min (suc k) (connections % workers)
  one_more k true is = let low : k < connections % workers = ltb-true k (connections % workers) is in omega (arith, low)
  one_more k false is = let high : connections % workers ≤ k = ltb-false k (connections % workers) is in omega (arith, high)

  sum_to : (k : ℕ) → sum_of (shares_to workers connections k) ≡ k * (connections / workers) + min k (connections % workers)
  sum_to zero = omega arith
  sum_to (suc k) =
      sum_push (shares_to workers connections k) (share_of workers connections k)
      ∙ ap (λ s. s + share_of workers connections k) (sum_to k)
      ∙ together (k * (connections / workers)) (connections / workers) (min k (connections % workers)) (cond (nat_lt k (connections % workers)) 1 0) _ _ (suc-mul k (connections / workers)) (one_more k (nat_lt k (connections % workers)) refl)
    where
      together : (p q m c s t : ℕ) → s ≡ p + q → m + c ≡ t → p + m + (q + c) ≡ s + t
      together p q m c s t a b = omega (arith, a, b)

  pub all_shared : 1 ≤ workers → sum_of (shares_to workers connections workers) ≡ connections
  all_shared some = sum_to workers ∙ whole
    where
      small : connections % workers < workers
      small = mod-lt connections some

      whole : workers * (connections / workers) + min workers (connections % workers) ≡ connections
      whole = let e = div-add-mod' connections workers in let m = mul_comm workers (connections / workers) in let s = small in omega (arith, e, m, s)

-- the seats of a crew that takes so many connections
pub seats_are : (workers connections : ℕ) (door : DoorState) (k : ℕ) → seats_to workers (Some connections) door k ≡ map (λ s. seat_of (fork_of door) (Some s)) (shares_to workers connections k)
seats_are workers connections door zero = refl
seats_are workers connections door (suc k) =
    ap (λ (ss : List SeatOf). ss ++ seat_of (fork_of door) (Some (share_of workers connections k)) ∷ []) (seats_are workers connections door k)
    ∙ sym (map-append (λ s. seat_of (fork_of door) (Some s)) (shares_to workers connections k) (share_of workers connections k ∷ []))
