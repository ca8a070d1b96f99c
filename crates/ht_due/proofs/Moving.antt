-- Blocks as they are written.
use Rattle.std.proofs.Common.{◌≡◌, ℕ, ◌+◌, ◌<◌, ◌≤◌, zero, suc, Bool, true, false, if◌then◌else◌, List, [], ◌∷◌, ◌++◌, length, Some, slice_set, refl, ap, ◌∙◌, arith}
use Rattle.std.specs.Prelude.{nat_le, nat_lt, slice_get}
use Rattle.std.specs.List.{insert, remove}
use Rattle.std.proofs.lemmas.Bool.Decides.{nat_tests}
use Rattle.ht_due.specs.declared.due.Due.{Due}
use Rattle.ht_due.specs.Blocks.{joined_at, pushed_on}

pub joins_none : (bs : List (List Due)) (n : ℕ) → length bs ≤ n + 1 → joined_at n bs ≡ bs
joins_none [] n l = refl
joins_none (b ∷ []) zero l = refl
joins_none (b ∷ c ∷ bs) zero l = absurd (omega arith)
joins_none (b ∷ bs) (suc n) l = ap (λ xs. b ∷ xs) (joins_none bs n (omega arith))

pub joins_not : (bs : List (List Due)) (n : ℕ) (b c : List Due) → slice_get bs n ≡ Some b → slice_get bs (suc n) ≡ Some c → 128 < length b + length c → joined_at n bs ≡ bs
joins_not [] n b c at next full = refl
joins_not (d ∷ []) zero b c at next full = refl
joins_not (d ∷ e ∷ bs) zero b c at next full =
    let one : d ≡ b = cc in
    let two : e ≡ c = cc in
    let m : length d ≡ length b = ap length one in
    let n : length e ≡ length c = ap length two in
    go (nat_le (length d + length e) 128) (grind (arith, nat_tests))
  where
    go : (o : Bool) → o ≡ false → (if o then (d ++ e) ∷ bs else d ∷ e ∷ bs) ≡ d ∷ e ∷ bs
    go true is = cc
    go false is = refl
joins_not (d ∷ bs) (suc n) b c at next full = ap (λ xs. d ∷ xs) (joins_not bs n b c at next full)

pub joins_two : (bs : List (List Due)) (n : ℕ) (b c : List Due) → slice_get bs n ≡ Some b → slice_get bs (suc n) ≡ Some c → length b + length c ≤ 128 → joined_at n bs ≡ slice_set (remove bs (suc n)) n (b ++ c)
joins_two [] n b c at next low = cc
joins_two (d ∷ []) zero b c at next low = cc
joins_two (d ∷ e ∷ bs) zero b c at next low =
    let one : d ≡ b = cc in
    let two : e ≡ c = cc in
    let m : length d ≡ length b = ap length one in
    let n : length e ≡ length c = ap length two in
    go (nat_le (length d + length e) 128) (grind (arith, nat_tests)) ∙ ap (λ x. (x ++ e) ∷ bs) one ∙ ap (λ x. (b ++ x) ∷ bs) two
  where
    go : (o : Bool) → o ≡ true → (if o then (d ++ e) ∷ bs else d ∷ e ∷ bs) ≡ (d ++ e) ∷ bs
    go true is = refl
    go false is = cc
joins_two (d ∷ bs) (suc n) b c at next low = ap (λ xs. d ∷ xs) (joins_two bs n b c at next low)

pub pushes_room : (bs : List (List Due)) (n : ℕ) (d : Due) (b : List Due) → slice_get bs n ≡ Some b → length b < 128 → pushed_on n d bs ≡ slice_set bs n (d ∷ b)
pushes_room [] n d b at low = cc
pushes_room (c ∷ bs) zero d b at low =
    let same : c ≡ b = cc in
    let m : length c ≡ length b = ap length same in
    go (nat_lt (length c) 128) (grind (arith, nat_tests)) ∙ ap (λ x. (d ∷ x) ∷ bs) same
  where
    go : (o : Bool) → o ≡ true → (if o then (d ∷ c) ∷ bs else (d ∷ []) ∷ c ∷ bs) ≡ (d ∷ c) ∷ bs
    go true is = refl
    go false is = cc
pushes_room (c ∷ bs) (suc n) d b at low = ap (λ xs. c ∷ xs) (pushes_room bs n d b at low)

pub pushes_full : (bs : List (List Due)) (n : ℕ) (d : Due) (b : List Due) → slice_get bs n ≡ Some b → 128 ≤ length b → pushed_on n d bs ≡ insert bs n (d ∷ [])
pushes_full [] n d b at full = cc
pushes_full (c ∷ bs) zero d b at full =
    let same : c ≡ b = cc in
    let m : length c ≡ length b = ap length same in
    go (nat_lt (length c) 128) (grind (arith, nat_tests))
  where
    go : (o : Bool) → o ≡ false → (if o then (d ∷ c) ∷ bs else (d ∷ []) ∷ c ∷ bs) ≡ (d ∷ []) ∷ c ∷ bs
    go true is = cc
    go false is = refl
pushes_full (c ∷ bs) (suc n) d b at full = ap (λ xs. c ∷ xs) (pushes_full bs n d b at full)

pub pushes_end : (bs : List (List Due)) (n : ℕ) (d : Due) → n ≤ length bs → length bs ≤ n → pushed_on n d bs ≡ insert bs n (d ∷ [])
pushes_end [] zero d l h = refl
pushes_end [] (suc n) d l h = absurd (omega arith)
pushes_end (c ∷ bs) zero d l h = absurd (omega arith)
pushes_end (c ∷ bs) (suc n) d l h = ap (λ xs. c ∷ xs) (pushes_end bs n d (omega arith) (omega arith))
