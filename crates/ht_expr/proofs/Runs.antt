-- Where a run of bytes ends, the text may be cut.
use Rattle.std.proofs.Common.{◌≡◌, ℕ, zero, suc, ◌+◌, ◌<◌, ◌≤◌, Bool, true, false, cond, List, [], ◌∷◌, length, get_or, take, drop, refl, ap, subst, arith, inl, inr}
use Rattle.std.specs.Prelude.{◌⊎◌}
use Rattle.std.specs.List.{prefix_len, list_all}
use Rattle.std.specs.Str.{IsUtf8, IsCharBoundary}
use Rattle.std.proofs.lemmas.Bool.{and_from, cases_lt}
use Rattle.std.proofs.lemmas.Bool.Decides.{nat_tests}
use Rattle.std.proofs.lemmas.List.Sums.{prefix_len_passes, prefix_len_stops, prefix_len-le-length}
use Rattle.std.proofs.lemmas.Str.{IsCharBoundary-start, IsCharBoundary-end, IsCharBoundary-before_ascii, IsCharBoundary-after_ascii}
use Rattle.ht_expr.specs.Scanning.{IsRun, is_of}
use Rattle.ht_expr.specs.declared.scanning.Class.{Class}
use Rattle.ht_expr.specs.declared.scanning.Class.TheVariants as class

run_more : (test : ℕ → Bool) (x : ℕ) (xs : List ℕ) (n : ℕ) (b : Bool) → test x ≡ b → IsRun test xs (take n xs) (drop n xs)
    → IsRun test (x ∷ xs) (take (cond b (1 + n) 0) (x ∷ xs)) (drop (cond b (1 + n) 0) (x ∷ xs))
run_more test x xs n true passes run =
    let e : suc n ≡ 1 + n = omega arith in
    subst (λ k. IsRun test (x ∷ xs) (take k (x ∷ xs)) (drop k (x ∷ xs))) e
    (record { split = ap (λ l. x ∷ l) run.split; inside = and_from (test x) (list_all test (take n xs)) passes run.inside; stops = run.stops })
run_more test x xs n false fails run = record { split = refl; inside = refl; stops = fails }

-- the longest front that passes is a run
pub run_of_prefix : (test : ℕ → Bool) (xs : List ℕ) → IsRun test xs (take (prefix_len test xs) xs) (drop (prefix_len test xs) xs)
run_of_prefix test [] = record { split = refl; inside = refl; stops = refl }
run_of_prefix test (x ∷ xs) = run_more test x xs (prefix_len test xs) (test x) refl (run_of_prefix test xs)

-- behind a run of bytes below 128 the text may be cut
behind_ascii : (test : ℕ → Bool) → ((b : ℕ) → test b ≡ true → b < 128) → (bs : List ℕ) (n : ℕ) → IsUtf8 bs → prefix_len test bs ≡ n → IsCharBoundary bs n
behind_ascii test low bs zero utf8 is = IsCharBoundary-start bs utf8
behind_ascii test low bs (suc n) utf8 is =
    let within = prefix_len-le-length test bs in
    let inside : n < length bs = omega arith in
    let ascii = low (get_or bs n 0) (prefix_len_passes test bs n 0 (omega arith)) in
    let e : n + 1 ≡ suc n = omega arith in
    subst (λ k. IsCharBoundary bs k) e (IsCharBoundary-after_ascii bs n utf8 inside ascii)

-- before a byte below 128 the text may be cut
before_ascii : (test : ℕ → Bool) → ((b : ℕ) → test b ≡ false → b < 128) → (bs : List ℕ) (n : ℕ) → prefix_len test bs ≡ n → (n < length bs) ⊎ (length bs ≤ n) → IsCharBoundary bs n
before_ascii test low bs n is (inl lt) =
    let at : prefix_len test bs < length bs = omega arith in
    IsCharBoundary-before_ascii bs n lt (subst (λ k. get_or bs k 0 < 128) is (low (get_or bs (prefix_len test bs) 0) (prefix_len_stops test bs 0 at)))
before_ascii test low bs n is (inr le) =
    let within = prefix_len-le-length test bs in
    let e : length bs ≡ n = omega arith in
    subst (λ k. IsCharBoundary bs k) e (IsCharBoundary-end bs)

low_blank : (b : ℕ) → is_of class.Blank b ≡ true → b < 128
low_blank b h = grind (arith, nat_tests)

low_digit : (b : ℕ) → is_of class.Digit b ≡ true → b < 128
low_digit b h = grind (arith, nat_tests)

low_word : (b : ℕ) → is_of class.Word b ≡ true → b < 128
low_word b h = grind (arith, nat_tests)

low_outside : (b : ℕ) → is_of class.Inside b ≡ false → b < 128
low_outside b h = grind (arith, nat_tests)

pub run_boundary : (c : Class) (bs : List ℕ) → IsUtf8 bs → IsCharBoundary bs (prefix_len (is_of c) bs)
run_boundary class.Blank bs utf8 = behind_ascii (is_of class.Blank) low_blank bs _ utf8 refl
run_boundary class.Digit bs utf8 = behind_ascii (is_of class.Digit) low_digit bs _ utf8 refl
run_boundary class.Word bs utf8 = behind_ascii (is_of class.Word) low_word bs _ utf8 refl
run_boundary class.Inside bs utf8 = before_ascii (is_of class.Inside) low_outside bs _ refl (cases_lt _ _)
