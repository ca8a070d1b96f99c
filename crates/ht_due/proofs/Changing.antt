-- Blocks as dues come and go.
use Rattle.std.proofs.Common.{◌≡◌, ℕ, ◌+◌, ◌*◌, ◌≤◌, zero, suc, true, false, List, [], ◌∷◌, ◌++◌, length, Some, slice_set, refl, sym, ap, subst, ◌∙◌, ◌||◌, arith, append_assoc}
use Rattle.std.specs.Prelude.{slice_get}
use Rattle.std.specs.Ordering.{is_eq, match_ordering}
use Rattle.std.specs.declared.cmp.Ordering.{Ordering}
use Rattle.std.specs.declared.cmp.Ordering.TheVariants.{Less, Equal, Greater}
use Rattle.ht_due.specs.declared.due.Due.{Due}
use Rattle.ht_due.specs.Blocks.{AreApart, AreBlocks, AreFew, IsIn, joined, pushed_on, tidied}
use Rattle.ht_due.specs.Dues.{Ascends, compare_dues, has, put_due, without}
use Rattle.ht_due.proofs.Apart.{apart_more, apart_pushed, apart_tidied, few_at, few_pushed, few_set, few_tidied, joined_pushed, joined_tidied, not_many}
use Rattle.ht_due.proofs.Ascending.{absent, ascends_put, ascends_without}
use Rattle.ht_due.proofs.Order.{before_more}
use Rattle.ht_due.proofs.Between.{put_there, without_there}

-- ---- how many there are

pub length_put : (xs : List Due) (y : Due) → has y xs ≡ false → length (put_due xs y) ≡ length xs + 1
length_put [] y none = omega arith
length_put (x ∷ xs) y none = go (compare_dues y x) none (length_put xs y)
  where
    go : (o : Ordering) → (is_eq o || has y xs) ≡ false → (has y xs ≡ false → length (put_due xs y) ≡ length xs + 1) → length (match_ordering o (y ∷ x ∷ xs) (x ∷ xs) (x ∷ put_due xs y)) ≡ length (x ∷ xs) + 1
    go Less none more = omega arith
    go Equal none more = cc
    go Greater none more = let e : length (put_due xs y) ≡ length xs + 1 = more none in omega arith

pub length_without : (xs : List Due) (y : Due) → has y xs ≡ true → Ascends xs → length (without xs y) + 1 ≡ length xs
length_without [] y there up = cc
length_without (x ∷ xs) y there up = go (compare_dues y x) refl there (length_without xs y)
  where
    go : (o : Ordering) → compare_dues y x ≡ o → (is_eq o || has y xs) ≡ true → (has y xs ≡ true → Ascends xs → length (without xs y) + 1 ≡ length xs) → length (match_ordering o (x ∷ xs) xs (x ∷ without xs y)) + 1 ≡ length (x ∷ xs)
    go Less e there more = let no : has y xs ≡ false = absent y xs (before_more y x xs e up.0) in cc
    go Equal e there more = omega arith
    go Greater e there more = let f : length (without xs y) + 1 ≡ length xs = more there up.1 in omega arith

pub stays : (xs : List Due) (y : Due) → has y xs ≡ false → without xs y ≡ xs
stays [] y none = refl
stays (x ∷ xs) y none = go (compare_dues y x) none (stays xs y)
  where
    go : (o : Ordering) → (is_eq o || has y xs) ≡ false → (has y xs ≡ false → without xs y ≡ xs) → match_ordering o (x ∷ xs) xs (x ∷ without xs y) ≡ x ∷ xs
    go Less none more = refl
    go Equal none more = cc
    go Greater none more = ap (λ l. x ∷ l) (more none)

pub length_less : (xs : List Due) (y : Due) → length (without xs y) ≤ length xs
length_less [] y = omega arith
length_less (x ∷ xs) y = go (compare_dues y x) (length_less xs y)
  where
    go : (o : Ordering) → length (without xs y) ≤ length xs → length (match_ordering o (x ∷ xs) xs (x ∷ without xs y)) ≤ length (x ∷ xs)
    go Less more = omega arith
    go Equal more = omega arith
    go Greater more = omega arith

-- ---- one comes

get_set : (bs : List (List Due)) (n : ℕ) (b c : List Due) → slice_get bs n ≡ Some b → slice_get (slice_set bs n c) n ≡ Some c
get_set [] n b c at = cc
get_set (d ∷ bs) zero b c at = refl
get_set (d ∷ bs) (suc n) b c at = get_set bs n b c at

pushed_there : (bs : List (List Due)) (n : ℕ) (last : Due) (b f : List Due) → slice_get bs n ≡ Some b → joined (pushed_on (suc n) last (slice_set bs n f)) ≡ joined (slice_set bs n (f ++ last ∷ []))
pushed_there [] n last b f at = cc
pushed_there (d ∷ bs) zero last b f at = ap (λ xs. f ++ xs) (joined_pushed zero last bs (omega arith)) ∙ sym (append_assoc f (last ∷ []) (joined bs))
pushed_there (d ∷ bs) (suc n) last b f at = ap (λ xs. d ++ xs) (pushed_there bs n last b f at)

pub over_dues : (due last : Due) (bs : List (List Due)) (n : ℕ) (b f : List Due) → IsIn due bs n (n + 1) → slice_get bs n ≡ Some b → f ++ last ∷ [] ≡ put_due b due → joined (pushed_on (n + 1) last (slice_set bs n f)) ≡ put_due (joined bs) due
over_dues due last bs n b f is at made =
    let e : n + 1 ≡ suc n = omega arith in
    ap (λ m. joined (pushed_on m last (slice_set bs n f))) e
    ∙ pushed_there bs n last b f at
    ∙ ap (λ c. joined (slice_set bs n c)) made
    ∙ put_there due bs n b is at

over_apart : (last : Due) (bs : List (List Due)) (n : ℕ) (b f : List Due) → AreBlocks bs → slice_get bs n ≡ Some b → length f ≡ 128 → AreApart (pushed_on (n + 1) last (slice_set bs n f))
over_apart last bs n b f blocks at long =
    let e : n + 1 ≡ suc n = omega arith in
    let low : length b ≤ 128 = few_at bs n b at blocks.few in
    let P : ℕ → Type 0 = λ m. AreApart (pushed_on m last (slice_set bs n f)) in
    subst P (sym e) (apart_pushed (slice_set bs n f) n last f (get_set bs n b f at) (omega arith) (apart_more bs n b f at (omega arith) blocks.apart))

pub over_blocks : (due last : Due) (bs : List (List Due)) (n : ℕ) (b f : List Due) → AreBlocks bs → IsIn due bs n (n + 1) → slice_get bs n ≡ Some b → f ++ last ∷ [] ≡ put_due b due → length f ≡ 128 → AreBlocks (pushed_on (n + 1) last (slice_set bs n f))
over_blocks due last bs n b f blocks is at made long =
    let P : List Due → Type 0 = λ l. Ascends l in
    record {
      ascend = subst P (sym (over_dues due last bs n b f is at made)) (ascends_put (joined bs) due blocks.ascend);
      few = few_pushed (n + 1) last (slice_set bs n f) (few_set bs n f (omega arith) blocks.few);
      apart = over_apart last bs n b f blocks at long;
    }

pub over_room : (due last : Due) (bs : List (List Due)) (n all : ℕ) (b f : List Due) → AreBlocks bs → IsIn due bs n (n + 1) → slice_get bs n ≡ Some b → f ++ last ∷ [] ≡ put_due b due → length f ≡ 128 → has due (joined bs) ≡ false → 2 * length (joined bs) + 128 + 2 ≤ 128 * all → length (pushed_on (n + 1) last (slice_set bs n f)) ≤ all
over_room due last bs n all b f blocks is at made long none enough =
    let new = pushed_on (n + 1) last (slice_set bs n f) in
    let few : 128 * length new ≤ 2 * length (joined new) + 128 = not_many new (over_apart last bs n b f blocks at long) in
    let one : length (joined new) ≡ length (joined bs) + 1 = ap length (over_dues due last bs n b f is at made) ∙ length_put (joined bs) due none in
    omega arith

pub within_blocks : (due : Due) (bs : List (List Due)) (n : ℕ) (b c : List Due) → AreBlocks bs → IsIn due bs n (n + 1) → slice_get bs n ≡ Some b → c ≡ put_due b due → length b ≤ length c → length c ≤ 128 → AreBlocks (slice_set bs n c)
within_blocks due bs n b c blocks is at made more low =
    let P : List Due → Type 0 = λ l. Ascends l in
    record {
      ascend = subst P (sym (ap (λ x. joined (slice_set bs n x)) made ∙ put_there due bs n b is at)) (ascends_put (joined bs) due blocks.ascend);
      few = few_set bs n c low blocks.few;
      apart = apart_more bs n b c at more blocks.apart;
    }

-- ---- one goes

pub lost_few : (due : Due) (bs : List (List Due)) (n : ℕ) (b c : List Due) → AreBlocks bs → slice_get bs n ≡ Some b → c ≡ without b due → AreFew (slice_set bs n c)
lost_few due bs n b c blocks at made =
    let low : length b ≤ 128 = few_at bs n b at blocks.few in
    let less : length (without b due) ≤ length b = length_less b due in
    let e : length c ≡ length (without b due) = ap length made in
    few_set bs n c (omega arith) blocks.few

pub lost_dues : (due : Due) (bs : List (List Due)) (n : ℕ) (b c : List Due) → IsIn due bs n (n + 1) → slice_get bs n ≡ Some b → c ≡ without b due → joined (tidied n (slice_set bs n c)) ≡ without (joined bs) due
lost_dues due bs n b c is at made = joined_tidied n (slice_set bs n c) ∙ ap (λ x. joined (slice_set bs n x)) made ∙ without_there due bs n b is at

pub lost_blocks : (due : Due) (bs : List (List Due)) (n : ℕ) (b c : List Due) → AreBlocks bs → IsIn due bs n (n + 1) → slice_get bs n ≡ Some b → c ≡ without b due → AreBlocks (tidied n (slice_set bs n c))
lost_blocks due bs n b c blocks is at made =
    let P : List Due → Type 0 = λ l. Ascends l in
    record {
      ascend = subst P (sym (lost_dues due bs n b c is at made)) (ascends_without (joined bs) due blocks.ascend);
      few = few_tidied n (slice_set bs n c) (lost_few due bs n b c blocks at made);
      apart = apart_tidied n bs c blocks.apart;
    }
