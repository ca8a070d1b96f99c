-- How many blocks there are, and how full they are.
use Rattle.std.proofs.Common.{◌≡◌, ℕ, ◌+◌, ◌-◌, ◌*◌, ◌<◌, ◌≤◌, zero, suc, Bool, true, false, if◌then◌else◌, List, [], ◌∷◌, ◌++◌, length, take, drop, Some, slice_set, refl, sym, ap, ◌∙◌, arith, append_assoc, length-append}
use Rattle.std.specs.Prelude.{nat_le, nat_lt, slice_get}
use Rattle.std.proofs.lemmas.Bool.Decides.{nat_tests}
use Rattle.ht_due.specs.declared.due.Due.{Due}
use Rattle.ht_due.specs.Blocks.{AreApart, AreFew, IsApart, joined, joined_at, pushed_on, tidied}

-- there are no more than twice as many as are needed
pub not_many : (bs : List (List Due)) → AreApart bs → 128 * length bs ≤ 2 * length (joined bs) + 128
not_many [] a = omega arith
not_many (b ∷ []) a = omega arith
not_many (b ∷ c ∷ bs) a =
    let low : 128 < length b + length c = a.0 in
    let rest : 128 * length bs ≤ 2 * length (joined bs) + 128 = not_many bs (a.1).1 in
    let one : length (b ++ (c ++ joined bs)) ≡ length b + length (c ++ joined bs) = length-append b (c ++ joined bs) in
    let two : length (c ++ joined bs) ≡ length c + length (joined bs) = length-append c (joined bs) in
    omega arith

-- ---- a block has more

first_more : (a c : List Due) (bs : List (List Due)) (i : ℕ) (b : List Due) → slice_get bs i ≡ Some b → length b ≤ length c → IsApart a bs → IsApart a (slice_set bs i c)
first_more a c [] i b at l h = tt
first_more a c (d ∷ bs) zero b at l h = let same : d ≡ b = cc in let e : length d ≡ length b = ap length same in omega arith
first_more a c (d ∷ bs) (suc i) b at l h = h

pub apart_more : (bs : List (List Due)) (i : ℕ) (b c : List Due) → slice_get bs i ≡ Some b → length b ≤ length c → AreApart bs → AreApart (slice_set bs i c)
apart_more [] i b c at l h = tt
apart_more (d ∷ bs) zero b c at l h = (grown bs h.0, h.1)
  where
    grown : (cs : List (List Due)) → IsApart d cs → IsApart c cs
    grown [] h = tt
    grown (e ∷ cs) h = let same : d ≡ b = cc in let f : length d ≡ length b = ap length same in omega arith
apart_more (d ∷ bs) (suc i) b c at l h = (first_more d c bs i b at l h.0, apart_more bs i b c at l h.1)

pub few_set : (bs : List (List Due)) (i : ℕ) (c : List Due) → length c ≤ 128 → AreFew bs → AreFew (slice_set bs i c)
few_set [] i c l h = tt
few_set (d ∷ bs) zero c l h = (l, h.1)
few_set (d ∷ bs) (suc i) c l h = (h.0, few_set bs i c l h.1)

pub few_at : (bs : List (List Due)) (i : ℕ) (b : List Due) → slice_get bs i ≡ Some b → AreFew bs → length b ≤ 128
few_at [] i b at h = cc
few_at (d ∷ bs) zero b at h = let same : d ≡ b = cc in let f : length d ≡ length b = ap length same in let l = h.0 in omega arith
few_at (d ∷ bs) (suc i) b at h = few_at bs i b at h.1

-- ---- one goes on to the next block

pub joined_pushed : (n : ℕ) (d : Due) (bs : List (List Due)) → n ≤ length bs → joined (pushed_on n d bs) ≡ joined (take n bs) ++ d ∷ joined (drop n bs)
joined_pushed zero d [] l = refl
joined_pushed zero d (b ∷ bs) l = at (nat_lt (length b) 128)
  where
    at : (o : Bool) → joined (if o then (d ∷ b) ∷ bs else (d ∷ []) ∷ b ∷ bs) ≡ d ∷ (b ++ joined bs)
    at true = refl
    at false = refl
joined_pushed (suc n) d [] l = absurd (omega arith)
joined_pushed (suc n) d (b ∷ bs) l = ap (λ xs. b ++ xs) (joined_pushed n d bs (omega arith)) ∙ sym (append_assoc b (joined (take n bs)) (d ∷ joined (drop n bs)))

pub few_pushed : (n : ℕ) (d : Due) (bs : List (List Due)) → AreFew bs → AreFew (pushed_on n d bs)
few_pushed zero d [] h = (omega arith, tt)
few_pushed zero d (b ∷ bs) h = at (nat_lt (length b) 128) refl
  where
    at : (o : Bool) → nat_lt (length b) 128 ≡ o → AreFew (if o then (d ∷ b) ∷ bs else (d ∷ []) ∷ b ∷ bs)
    at true e = (grind (arith, nat_tests), h.1)
    at false e = (omega arith, h)
few_pushed (suc n) d [] h = tt
few_pushed (suc n) d (b ∷ bs) h = (h.0, few_pushed n d bs h.1)

pub apart_pushed : (bs : List (List Due)) (n : ℕ) (d : Due) (b : List Due) → slice_get bs n ≡ Some b → 128 ≤ length b → AreApart bs → AreApart (pushed_on (suc n) d bs)
apart_pushed [] n d b at full h = tt
apart_pushed (c ∷ bs) zero d b at full h = next bs h
  where
    long : 128 ≤ length c
    long = let same : c ≡ b = cc in let e : length c ≡ length b = ap length same in omega arith

    next : (cs : List (List Due)) → AreApart (c ∷ cs) → AreApart (c ∷ pushed_on zero d cs)
    next [] h = (let l = long in omega arith, (tt, tt))
    next (e ∷ cs) h = go (nat_lt (length e) 128) refl
      where
        grown : (ds : List (List Due)) → IsApart e ds → IsApart (d ∷ e) ds
        grown [] h = tt
        grown (f ∷ ds) h = omega arith

        go : (o : Bool) → nat_lt (length e) 128 ≡ o → AreApart (c ∷ (if o then (d ∷ e) ∷ cs else (d ∷ []) ∷ e ∷ cs))
        go true is = let l = long in (omega arith, (grown cs (h.1).0, (h.1).1))
        go false is = let l = long in (omega arith, (grind (arith, nat_tests), h.1))
apart_pushed (c ∷ bs) (suc n) d b at full h = (first bs h.0, apart_pushed bs n d b at full h.1)
  where
    first : (cs : List (List Due)) → IsApart c cs → IsApart c (pushed_on (suc n) d cs)
    first [] h = tt
    first (e ∷ cs) h = h

-- ---- blocks are joined

pub joined_stays : (n : ℕ) (bs : List (List Due)) → joined (joined_at n bs) ≡ joined bs
joined_stays n [] = refl
joined_stays zero (b ∷ []) = refl
joined_stays zero (b ∷ c ∷ bs) = at (nat_le (length b + length c) 128)
  where
    at : (o : Bool) → joined (if o then (b ++ c) ∷ bs else b ∷ c ∷ bs) ≡ b ++ (c ++ joined bs)
    at true = append_assoc b c (joined bs)
    at false = refl
joined_stays (suc n) (b ∷ bs) = ap (λ xs. b ++ xs) (joined_stays n bs)

pub few_joined : (n : ℕ) (bs : List (List Due)) → AreFew bs → AreFew (joined_at n bs)
few_joined n [] h = tt
few_joined zero (b ∷ []) h = h
few_joined zero (b ∷ c ∷ bs) h = at (nat_le (length b + length c) 128) refl
  where
    at : (o : Bool) → nat_le (length b + length c) 128 ≡ o → AreFew (if o then (b ++ c) ∷ bs else b ∷ c ∷ bs)
    at true e = (let l : length (b ++ c) ≡ length b + length c = length-append b c in grind (arith, nat_tests), (h.1).1)
    at false e = h
few_joined (suc n) (b ∷ bs) h = (h.0, few_joined n bs h.1)

-- all neighbours are apart but these two, and but this one and those beside it
abbrev ApartBut : ℕ → List (List Due) → Type 0
ApartBut n [] = Unit {0}
ApartBut zero (b ∷ bs) = AreApart bs
ApartBut (suc n) (b ∷ bs) = IsApart b bs × ApartBut n bs

abbrev ApartRound : ℕ → List (List Due) → Type 0
ApartRound n [] = Unit {0}
ApartRound zero (b ∷ bs) = AreApart bs
ApartRound (suc zero) (b ∷ bs) = ApartBut zero bs
ApartRound (suc (suc n)) (b ∷ bs) = IsApart b bs × ApartRound (suc n) bs

apart_round : (bs : List (List Due)) (n : ℕ) (c : List Due) → AreApart bs → ApartRound n (slice_set bs n c)
apart_round [] n c h = tt
apart_round (b ∷ bs) zero c h = h.1
apart_round (b ∷ []) (suc zero) c h = tt
apart_round (b ∷ d ∷ bs) (suc zero) c h = (h.1).1
apart_round (b ∷ bs) (suc (suc n)) c h = (first bs h.0, apart_round bs (suc n) c h.1)
  where
    first : (cs : List (List Due)) → IsApart b cs → IsApart b (slice_set cs (suc n) c)
    first [] h = tt
    first (e ∷ cs) h = h

first_joined : (b : List Due) (bs : List (List Due)) (n : ℕ) → IsApart b bs → IsApart b (joined_at n bs)
first_joined b [] n h = tt
first_joined b (c ∷ []) zero h = h
first_joined b (c ∷ d ∷ bs) zero h = at (nat_le (length c + length d) 128)
  where
    at : (o : Bool) → IsApart b (if o then (c ++ d) ∷ bs else c ∷ d ∷ bs)
    at true = let l : length (c ++ d) ≡ length c + length d = length-append c d in omega arith
    at false = h
first_joined b (c ∷ bs) (suc n) h = h

apart_joined : (n : ℕ) (bs : List (List Due)) → ApartBut n bs → AreApart (joined_at n bs)
apart_joined n [] h = tt
apart_joined zero (b ∷ []) h = (tt, tt)
apart_joined zero (b ∷ c ∷ bs) h = at (nat_le (length b + length c) 128) refl
  where
    grown : (cs : List (List Due)) → IsApart c cs → IsApart (b ++ c) cs
    grown [] h = tt
    grown (f ∷ cs) h = let l : length (b ++ c) ≡ length b + length c = length-append b c in omega arith

    at : (o : Bool) → nat_le (length b + length c) 128 ≡ o → AreApart (if o then (b ++ c) ∷ bs else b ∷ c ∷ bs)
    at true e = (grown bs h.0, h.1)
    at false e = (grind (arith, nat_tests), h)
apart_joined (suc n) (b ∷ bs) h = (first_joined b bs n h.0, apart_joined n bs h.1)

apart_but : (n : ℕ) (bs : List (List Due)) → ApartRound (suc n) bs → ApartBut n (joined_at (suc n) bs)
apart_but n [] h = tt
apart_but zero (b ∷ bs) h = apart_joined zero bs h
apart_but (suc n) (b ∷ bs) h = (first_joined b bs (suc n) h.0, apart_but n bs h.1)

round_but : (bs : List (List Due)) → ApartRound zero bs → ApartBut zero bs
round_but [] h = tt
round_but (b ∷ bs) h = h

-- once a block lost a due
pub apart_tidied : (n : ℕ) (bs : List (List Due)) (c : List Due) → AreApart bs → AreApart (tidied n (slice_set bs n c))
apart_tidied zero bs c h = apart_joined zero (slice_set bs zero c) (round_but (slice_set bs zero c) (apart_round bs zero c h))
apart_tidied (suc n) bs c h = apart_joined n (joined_at (suc n) (slice_set bs (suc n) c)) (apart_but n (slice_set bs (suc n) c) (apart_round bs (suc n) c h))

pub few_tidied : (n : ℕ) (bs : List (List Due)) → AreFew bs → AreFew (tidied n bs)
few_tidied zero bs h = few_joined zero bs h
few_tidied (suc n) bs h = few_joined n (joined_at (suc n) bs) (few_joined (suc n) bs h)

pub joined_tidied : (n : ℕ) (bs : List (List Due)) → joined (tidied n bs) ≡ joined bs
joined_tidied zero bs = joined_stays zero bs
joined_tidied (suc n) bs = joined_stays n (joined_at (suc n) bs) ∙ joined_stays (suc n) bs

pub tidied_more : (n : ℕ) (bs : List (List Due)) → 0 < n → tidied n bs ≡ joined_at (n - 1) (joined_at n bs)
tidied_more zero bs l = absurd (omega arith)
tidied_more (suc n) bs l = let e : suc n - 1 ≡ n = omega arith in ap (λ m. joined_at m (joined_at (suc n) bs)) (sym e)
