-- The block in which a due stands or belongs.
use Rattle.std.proofs.Common.{◌≡◌, ℕ, ◌+◌, ◌<◌, ◌≤◌, zero, suc, true, false, List, [], ◌∷◌, ◌++◌, get_or, length, take, drop, Some, None, slice_set, refl, sym, ap, subst, ◌∙◌, arith, append_assoc}
use Rattle.std.specs.Prelude.{slice_get}
use Rattle.std.specs.Option.{option_and_then}
use Rattle.std.specs.Ordering.{is_gt}
use Rattle.std.specs.declared.cmp.Ordering.{Ordering}
use Rattle.std.specs.declared.cmp.Ordering.TheVariants.{Less, Equal, Greater}
use Rattle.std.proofs.lemmas.Option.{slice_get_read}
use Rattle.ht_due.specs.declared.due.Due.{Due}
use Rattle.ht_due.specs.Blocks.{AreApart, AreBlocks, AreFew, IsIn, joined}
use Rattle.ht_due.specs.Dues.{Ascends, compare_dues, has, next_after, put_due, without}
use Rattle.ht_due.proofs.Order.{Before, before_more, exact, flip}
use Rattle.ht_due.proofs.Parts.{After, after_more, after_those, ascends_left, ascends_right, has_back, has_front, next_beyond, next_front, next_within, put_back, put_front, without_back, without_front}

-- ---- blocks around one

pub at_place : (bs : List (List Due)) (n : ℕ) (b : List Due) → n + 1 ≤ length bs → b ≡ get_or bs n b → slice_get bs n ≡ Some b
at_place bs n b l e = slice_get_read bs (length bs) n b refl (omega arith) e

pub joined_split : (n : ℕ) (bs : List (List Due)) → joined bs ≡ joined (take n bs) ++ joined (drop n bs)
joined_split zero bs = refl
joined_split (suc n) [] = refl
joined_split (suc n) (b ∷ bs) = ap (λ xs. b ++ xs) (joined_split n bs) ∙ sym (append_assoc b (joined (take n bs)) (joined (drop n bs)))

pub joined_set : (n : ℕ) (bs : List (List Due)) (b c : List Due) → slice_get bs n ≡ Some b → joined (slice_set bs n c) ≡ joined (take n bs) ++ (c ++ joined (drop (suc n) bs))
joined_set n [] b c at = cc
joined_set zero (d ∷ bs) b c at = refl
joined_set (suc n) (d ∷ bs) b c at = ap (λ xs. d ++ xs) (joined_set n bs b c at) ∙ sym (append_assoc d (joined (take n bs)) (c ++ joined (drop (suc n) bs)))

pub drop_at : (n : ℕ) (bs : List (List Due)) (b : List Due) → slice_get bs n ≡ Some b → drop n bs ≡ b ∷ drop (suc n) bs
drop_at n [] b at = cc
drop_at zero (d ∷ bs) b at = let same : d ≡ b = cc in ap (λ x. x ∷ bs) same
drop_at (suc n) (d ∷ bs) b at = drop_at n bs b at

pub joined_at_block : (n : ℕ) (bs : List (List Due)) (b : List Due) → slice_get bs n ≡ Some b → joined bs ≡ joined (take n bs) ++ (b ++ joined (drop (suc n) bs))
joined_at_block n bs b at = joined_split n bs ∙ ap (λ l. joined (take n bs) ++ joined l) (drop_at n bs b at)

pub block_ascends : (n : ℕ) (bs : List (List Due)) (b : List Due) → slice_get bs n ≡ Some b → Ascends (joined bs) → Ascends b
block_ascends n bs b at up =
    let P : List Due → Type 0 = λ l. Ascends l in
    ascends_left b (joined (drop (suc n) bs)) (ascends_right (joined (take n bs)) (b ++ joined (drop (suc n) bs)) (subst P (joined_at_block n bs b at) up))

-- ---- one that is full enough

not_empty : (bs : List (List Due)) (n : ℕ) (b : List Due) → AreFew bs → AreApart bs → slice_get bs (suc n) ≡ Some b → 1 ≤ length b
not_empty [] n b few apart at = cc
not_empty (c ∷ []) n b few apart at = cc
not_empty (c ∷ d ∷ bs) zero b few apart at =
    let same : d ≡ b = cc in
    let e : length d ≡ length b = ap length same in
    let l : length c ≤ 128 = few.0 in
    let h : 128 < length c + length d = apart.0 in
    omega arith
not_empty (c ∷ d ∷ bs) (suc n) b few apart at = not_empty (d ∷ bs) n b few.1 apart.1 at

pub some_there : (bs : List (List Due)) (n : ℕ) (b : List Due) → AreFew bs → AreApart bs → 1 ≤ n → slice_get bs n ≡ Some b → 1 ≤ length b
some_there bs zero b few apart l at = absurd (omega arith)
some_there bs (suc n) b few apart l at = not_empty bs n b few apart at

-- the first due is that of the first block
pub first_is : (bs : List (List Due)) → AreFew bs → AreApart bs → slice_get (joined bs) 0 ≡ option_and_then (λ b. slice_get b 0) (slice_get bs 0)
first_is [] few apart = refl
first_is ([] ∷ []) few apart = refl
first_is ([] ∷ c ∷ bs) few apart =
    let l : length c ≤ 128 = (few.1).0 in
    let h = apart.0 in
    absurd (omega arith)
first_is ((x ∷ b) ∷ bs) few apart = refl

few_drop : (n : ℕ) (bs : List (List Due)) → AreFew bs → AreFew (drop n bs)
few_drop zero bs h = h
few_drop (suc n) [] h = tt
few_drop (suc n) (b ∷ bs) h = few_drop n bs h.1

apart_drop : (n : ℕ) (bs : List (List Due)) → AreApart bs → AreApart (drop n bs)
apart_drop zero bs h = h
apart_drop (suc n) [] h = tt
apart_drop (suc n) (b ∷ bs) h = apart_drop n bs h.1

get_drop : (n : ℕ) (bs : List (List Due)) → slice_get (drop n bs) 0 ≡ slice_get bs n
get_drop zero bs = refl
get_drop (suc n) [] = refl
get_drop (suc n) (b ∷ bs) = get_drop n bs

pub first_behind : (n : ℕ) (bs : List (List Due)) → AreFew bs → AreApart bs → slice_get (joined (drop n bs)) 0 ≡ option_and_then (λ b. slice_get b 0) (slice_get bs n)
first_behind n bs few apart = first_is (drop n bs) (few_drop n bs few) (apart_drop n bs apart) ∙ ap (option_and_then (λ b. slice_get b 0)) (get_drop n bs)

-- ---- a step of the search

some_first : (b : List Due) → 1 ≤ length b → (x : Due) × (rest : List Due) × (b ≡ x ∷ rest)
some_first [] l = absurd (omega arith)
some_first (x ∷ rest) l = (x, rest, refl)

pub search_front : (due : Due) (bs : List (List Due)) (low middle high : ℕ) (b : List Due) → AreBlocks bs → IsIn due bs low high → low < middle → middle < high → slice_get bs middle ≡ Some b → 1 ≤ length b → ((x : Due) → slice_get b 0 ≡ Some x → true ≡ is_gt (compare_dues x due)) → IsIn due bs low middle
search_front due bs low middle high b blocks between some less at long gt = record {
  some = some;
  within = let h = between.within in omega arith;
  front = between.front;
  behind =
      let f = some_first b long in
      let x = f.0 in
      let e : b ≡ x ∷ f.1 = f.2 in
      let ys = f.1 ++ joined (drop (suc middle) bs) in
      let is : joined (drop middle bs) ≡ x ∷ ys = ap joined (drop_at middle bs b at) ∙ ap (λ l. l ++ joined (drop (suc middle) bs)) e in
      let P : List Due → Type 0 = λ l. Ascends l in
      let Q : List Due → Type 0 = λ l. Before due l in
      let up : Ascends (x ∷ ys) = subst P is (ascends_right (joined (take middle bs)) (joined (drop middle bs)) (subst P (joined_split middle bs) blocks.ascend)) in
      let l : compare_dues due x ≡ Less = flip x due Greater (greater (compare_dues x due) (gt x (ap (λ l. slice_get l 0) e))) in
      subst Q (sym is) (l, before_more due x ys l up.0);
}
  where
    greater : (o : Ordering) → true ≡ is_gt o → o ≡ Greater
    greater Less h = cc
    greater Equal h = cc
    greater Greater h = refl

pub search_behind : (due : Due) (bs : List (List Due)) (low middle high : ℕ) (b : List Due) → AreBlocks bs → IsIn due bs low high → middle < high → slice_get bs middle ≡ Some b → 1 ≤ length b → ((x : Due) → slice_get b 0 ≡ Some x → false ≡ is_gt (compare_dues x due)) → IsIn due bs middle high
search_behind due bs low middle high b blocks between less at long not_gt = record {
  some = less;
  within = between.within;
  front =
      let f = some_first b long in
      let x = f.0 in
      let e : b ≡ x ∷ f.1 = f.2 in
      let ys = f.1 ++ joined (drop (suc middle) bs) in
      let is : joined bs ≡ joined (take middle bs) ++ x ∷ ys = joined_at_block middle bs b at ∙ ap (λ l. joined (take middle bs) ++ (l ++ joined (drop (suc middle) bs))) e in
      let P : List Due → Type 0 = λ l. Ascends l in
      up_to x (compare_dues x due) refl (not_gt x (ap (λ l. slice_get l 0) e)) (after_those (joined (take middle bs)) x ys (subst P is blocks.ascend));
  behind = between.behind;
}
  where
    up_to : (x : Due) (o : Ordering) → compare_dues x due ≡ o → false ≡ is_gt o → After x (joined (take middle bs)) → After due (joined (take middle bs))
    up_to x Less e h a = after_more x due (joined (take middle bs)) e a
    up_to x Equal e h a = let P : Due → Type 0 = λ d. After d (joined (take middle bs)) in subst P (exact x due e) a
    up_to x Greater e h a = cc

-- ---- what is done in the block is done in the list

pub put_there : (due : Due) (bs : List (List Due)) (n : ℕ) (b : List Due) → IsIn due bs n (n + 1) → slice_get bs n ≡ Some b → joined (slice_set bs n (put_due b due)) ≡ put_due (joined bs) due
put_there due bs n b is at =
    let xs = joined (take n bs) in
    let ys = joined (drop (suc n) bs) in
    let e : n + 1 ≡ suc n = omega arith in
    let P : ℕ → Type 0 = λ m. Before due (joined (drop m bs)) in
    joined_set n bs b (put_due b due) at
    ∙ sym (ap (λ l. put_due l due) (joined_at_block n bs b at) ∙ put_front xs (b ++ ys) due is.front ∙ ap (λ l. xs ++ l) (put_back b ys due (subst P e is.behind)))

pub without_there : (due : Due) (bs : List (List Due)) (n : ℕ) (b : List Due) → IsIn due bs n (n + 1) → slice_get bs n ≡ Some b → joined (slice_set bs n (without b due)) ≡ without (joined bs) due
without_there due bs n b is at =
    let xs = joined (take n bs) in
    let ys = joined (drop (suc n) bs) in
    let e : n + 1 ≡ suc n = omega arith in
    let P : ℕ → Type 0 = λ m. Before due (joined (drop m bs)) in
    joined_set n bs b (without b due) at
    ∙ sym (ap (λ l. without l due) (joined_at_block n bs b at) ∙ without_front xs (b ++ ys) due is.front ∙ ap (λ l. xs ++ l) (without_back b ys due (subst P e is.behind)))

pub has_there : (due : Due) (bs : List (List Due)) (n : ℕ) (b : List Due) → IsIn due bs n (n + 1) → slice_get bs n ≡ Some b → has due b ≡ has due (joined bs)
has_there due bs n b is at =
    let xs = joined (take n bs) in
    let ys = joined (drop (suc n) bs) in
    let e : n + 1 ≡ suc n = omega arith in
    let P : ℕ → Type 0 = λ m. Before due (joined (drop m bs)) in
    sym (ap (λ l. has due l) (joined_at_block n bs b at) ∙ has_front xs (b ++ ys) due is.front ∙ has_back b ys due (subst P e is.behind))

pub next_there : (due d : Due) (bs : List (List Due)) (n : ℕ) (b : List Due) → IsIn due bs n (n + 1) → slice_get bs n ≡ Some b → next_after due b ≡ Some d → next_after due (joined bs) ≡ Some d
next_there due d bs n b is at some =
    let xs = joined (take n bs) in
    let ys = joined (drop (suc n) bs) in
    ap (λ l. next_after due l) (joined_at_block n bs b at) ∙ next_front xs (b ++ ys) due is.front ∙ next_within b ys due d some

pub next_behind : (due : Due) (bs : List (List Due)) (n : ℕ) (b : List Due) → AreBlocks bs → IsIn due bs n (n + 1) → slice_get bs n ≡ Some b → next_after due b ≡ None → next_after due (joined bs) ≡ option_and_then (λ b. slice_get b 0) (slice_get bs (n + 1))
next_behind due bs n b blocks is at none =
    let xs = joined (take n bs) in
    let ys = joined (drop (suc n) bs) in
    let e : n + 1 ≡ suc n = omega arith in
    let P : ℕ → Type 0 = λ m. Before due (joined (drop m bs)) in
    ap (λ l. next_after due l) (joined_at_block n bs b at)
    ∙ next_front xs (b ++ ys) due is.front
    ∙ next_beyond b ys due (subst P e is.behind) none
    ∙ first_behind (suc n) bs blocks.few blocks.apart
    ∙ ap (λ m. option_and_then (λ b. slice_get b 0) (slice_get bs m)) (sym e)

pub in_same : (due : Due) (xs bs : List (List Due)) (n : ℕ) → xs ≡ bs → IsIn due xs n (n + 1) → IsIn due bs n (n + 1)
in_same due xs bs n same is = let P : List (List Due) → Type 0 = λ l. IsIn due l n (n + 1) in subst P same is
