-- How an index goes on by one key, over an order that tells all keys apart.
use Rattle.std.proofs.Common.{inl, inr, is_some, if◌then◌else◌, subst, ◌≡◌, ℕ, ◌+◌, ◌<◌, zero, suc, Bool, true, false, cond, List, [], ◌∷◌, ◌++◌, length, take, Option, Some, None, option_map, Ordering, Less, Equal, Greater, is_eq, refl, sym, ap, ◌∙◌, arith}
use Rattle.std.specs.Prelude.{slice_get}
use Rattle.std.specs.Cmp.{IsTotalOrder}
use Rattle.std.proofs.lemmas.Cmp.{tied_itself}
use Rattle.std.proofs.lemmas.Bool.{cases_lt}
use Rattle.std.proofs.lemmas.List.{length-take-le, take_more}
use Rattle.std.proofs.lemmas.Map.Lookups.{CmpEqualImpliesEq}
use Rattle.std.proofs.lemmas.Option.{get_or_from_slice_get, slice_get_within}
use Rattle.std.specs.Prelude.{Result, Ok, Err, IfOk}
use Rattle.std.specs.BTreeMap.{BTreeMap}
use Rattle.std.specs.Ordering.{nat_cmp}
use Rattle.std.specs.Cmp.Lexicographic.{slice_cmp}
use Rattle.std.proofs.lemmas.Map.Text.{is_eq-slice_cmp}
use Rattle.ht_base.specs.Indexes.{IsIndex, IsIndexBy, place_by}
use Rattle.ht_base.specs.Places.{place_in}
use Rattle.ht_base.specs.Places.{IsRepeated}

equal_from : (o : Ordering) → is_eq o ≡ true → o ≡ Equal
equal_from Less h = cc
equal_from Equal h = refl
equal_from Greater h = cc

one_more : Option ℕ → Option ℕ
one_more o = option_map (λ i. i + 1) o

-- a key that was found is where it stands, and is the key
pub found_at : {K : Type 0} (cmp : K → K → Ordering) → CmpEqualImpliesEq cmp → (key : K) (ks : List K) (i : ℕ) → place_by cmp key ks ≡ Some i → slice_get ks i ≡ Some key
found_at cmp exact key [] i h = cc
found_at {K} cmp exact key (k ∷ ks) i h = at (is_eq (cmp k key)) (place_by cmp key ks) refl h (λ j e. found_at cmp exact key ks j e)
  where
    at : (b : Bool) (o : Option ℕ) → is_eq (cmp k key) ≡ b → (if b then Some 0 else option_map (λ i. i + 1) o) ≡ Some i → ((j : ℕ) → o ≡ Some j → slice_get ks j ≡ Some key) → slice_get (k ∷ ks) i ≡ Some key
    at true o e h rest =
        let first : 0 ≡ i = cc in
        rw (← first) (ap (λ (x : K). Some x) (exact k key (equal_from (cmp k key) e)))
    at false None e h rest = cc
    at false (Some j) e h rest =
        let same : j + 1 ≡ i = cc in
        let next : suc j ≡ i = omega arith in
        rw (← next) (rest j refl)

-- a key that wasn't found stands nowhere
pub none_at : {K : Type 0} (cmp : K → K → Ordering) → IsTotalOrder cmp → (key : K) (ks : List K) (i : ℕ) → place_by cmp key ks ≡ None → slice_get ks i ≡ Some key → ⊥
none_at cmp total key [] i h k = cc
none_at {K} cmp total key (k ∷ ks) zero h at =
    let same : k ≡ key = cc in
    let tied : is_eq (cmp k key) ≡ true = rw (same, tied_itself total key) refl in
    absurd (differ (place_by cmp key ks) (rw tied at h))
  where
    differ : (o : Option ℕ) → (if true then Some 0 else option_map (λ i. i + 1) o) ≡ None → ⊥
    differ o e = cc
none_at {K} cmp total key (k ∷ ks) (suc i) h at = rest (is_eq (cmp k key)) (place_by cmp key ks) h (λ e. none_at cmp total key ks i e at)
  where
    rest : (b : Bool) (o : Option ℕ) → (if b then Some 0 else option_map (λ i. i + 1) o) ≡ None → (o ≡ None → ⊥) → ⊥
    rest true o h none = cc
    rest false None h none = none refl
    rest false (Some j) h none = cc

-- the first place stays when a key is put behind
pub found_before : {K : Type 0} (cmp : K → K → Ordering) (key : K) (ks more : List K) (i : ℕ) → place_by cmp key ks ≡ Some i → place_by cmp key (ks ++ more) ≡ Some i
found_before cmp key [] more i h = cc
found_before cmp key (k ∷ ks) more i h = at (is_eq (cmp k key)) (place_by cmp key ks) (place_by cmp key (ks ++ more)) h (λ j e. found_before cmp key ks more j e)
  where
    at : (b : Bool) (o p : Option ℕ) → (if b then Some 0 else option_map (λ i. i + 1) o) ≡ Some i → ((j : ℕ) → o ≡ Some j → p ≡ Some j) → (if b then Some 0 else option_map (λ i. i + 1) p) ≡ Some i
    at true o p h rest = h
    at false None p h rest = cc
    at false (Some j) p h rest = rw (rest j refl) h

-- a key that wasn't there is found at its place behind
pub found_behind : {K : Type 0} (cmp : K → K → Ordering) (key k : K) (ks : List K) → place_by cmp key ks ≡ None → place_by cmp key (ks ++ k ∷ []) ≡ (if is_eq (cmp k key) then Some (length ks) else None)
found_behind cmp key k [] h = refl
found_behind cmp key k (x ∷ ks) h = at (is_eq (cmp x key)) (is_eq (cmp k key)) (place_by cmp key ks) (place_by cmp key (ks ++ k ∷ [])) h (λ e. found_behind cmp key k ks e)
  where
    at : (b c : Bool) (o p : Option ℕ) → (if b then Some 0 else option_map (λ i. i + 1) o) ≡ None → (o ≡ None → p ≡ (if c then Some (length ks) else None)) → (if b then Some 0 else option_map (λ i. i + 1) p) ≡ (if c then Some (suc (length ks)) else None)
    at true c o p h rest = cc
    at false true None p h rest = rw (rest refl) (let e : length ks + 1 ≡ suc (length ks) = omega arith in ap (λ i. Some i) e)
    at false false None p h rest = rw (rest refl) refl
    at false c (Some j) p h rest = cc

-- an index with one more key, which wasn't in it
pub index_more : {K : Type 0} (cmp : K → K → Ordering) → CmpEqualImpliesEq cmp → (ks : List K) (k : K) (old new : K → Option ℕ) → ((q : K) → old q ≡ place_by cmp q ks) → old k ≡ None → ((q : K) → new q ≡ cond (is_eq (cmp k q)) (Some (length ks)) (old q)) → (q : K) → new q ≡ place_by cmp q (ks ++ k ∷ [])
index_more {K} cmp exact ks k old new is none set q = at (is_eq (cmp k q)) refl (place_by cmp q ks) refl
  where
    at : (b : Bool) → is_eq (cmp k q) ≡ b → (o : Option ℕ) → place_by cmp q ks ≡ o → new q ≡ place_by cmp q (ks ++ k ∷ [])
    at true e None h = set q ∙ rw (e, found_behind cmp q k ks h, e) refl
    at true e (Some i) h =
        let same : k ≡ q = exact k q (equal_from (cmp k q) e) in
        let P : K → Type 0 = λ x. place_by cmp x ks ≡ None in
        absurd (let gone : place_by cmp q ks ≡ None = subst P same (sym (is k) ∙ none) in cc)
    at false e None h = set q ∙ rw (e, found_behind cmp q k ks h, e) (is q ∙ h)
    at false e (Some i) h = set q ∙ rw (e, found_before cmp q ks (k ∷ []) i h) (is q ∙ h)

-- ---- the front of a list

pub in_front_of : {A : Type 0} (xs : List A) (i j : ℕ) (x : A) → slice_get (take i xs) j ≡ Some x → (j < i) × (slice_get xs j ≡ Some x)
in_front_of [] zero j x h = cc
in_front_of [] (suc i) j x h = cc
in_front_of (y ∷ xs) zero j x h = cc
in_front_of (y ∷ xs) (suc i) zero x h = (omega arith, h)
in_front_of (y ∷ xs) (suc i) (suc j) x h = let rest = in_front_of xs i j x h in (let low = rest.0 in omega arith, rest.1)

pub front_has : {A : Type 0} (xs : List A) (i j : ℕ) (x : A) → j < i → slice_get xs j ≡ Some x → slice_get (take i xs) j ≡ Some x
front_has [] i j x l h = cc
front_has (y ∷ xs) zero j x l h = absurd (omega arith)
front_has (y ∷ xs) (suc i) zero x l h = h
front_has (y ∷ xs) (suc i) (suc j) x l h = front_has xs i j x (omega arith) h

-- ---- the key at a place, beside those before it

-- it stands at an earlier place too
pub repeated_from : {K : Type 0} (cmp : K → K → Ordering) → CmpEqualImpliesEq cmp → (ks : List K) (i : ℕ) (k : K) (o : Option ℕ) → slice_get ks i ≡ Some k → o ≡ place_by cmp k (take i ks) → is_some o ≡ true → IsRepeated ks i
repeated_from cmp exact ks i k None at is h = cc
repeated_from cmp exact ks i k (Some j) at is h =
    let front = in_front_of ks i j k (found_at cmp exact k (take i ks) j (sym is)) in
    (j, front.0, k, front.1, at)

-- it stands at none
pub distinct_more : {K : Type 0} (cmp : K → K → Ordering) → IsTotalOrder cmp → (ks : List K) (i : ℕ) (k : K) (o : Option ℕ) → slice_get ks i ≡ Some k → o ≡ place_by cmp k (take i ks) → is_some o ≡ false → ((j : ℕ) → j < i → IsRepeated ks j → ⊥) → (j : ℕ) → j < i + 1 → IsRepeated ks j → ⊥
distinct_more cmp total ks i k (Some p) at is h before j l r = cc
distinct_more {K} cmp total ks i k None at is h before j l r =
    elim (cases_lt j i) [
      | inl lower ↦ before j lower r
      | inr past ↦
          let here : j ≡ i = omega arith in
          let P : ℕ → Type 0 = λ n. IsRepeated ks n in
          let s = subst P here r in
          let same : s.2 ≡ k = let a = s.4 in cc in
          let earlier : slice_get ks s.0 ≡ Some k = s.3 ∙ ap (λ (x : K). Some x) same in
          none_at cmp total k (take i ks) s.0 (sym is) (front_has ks i s.0 k s.1 earlier)
    ]

pub none_from : {A : Type 0} (o : Option A) → is_some o ≡ false → o ≡ None
none_from None h = refl
none_from (Some x) h = cc

-- the index of the keys up to a place, and of the one there
pub index_at : {K : Type 0} (cmp : K → K → Ordering) → CmpEqualImpliesEq cmp → (ks : List K) (i : ℕ) (k : K) (old new : K → Option ℕ) (o : Option ℕ) → slice_get ks i ≡ Some k → ((q : K) → old q ≡ place_by cmp q (take i ks)) → o ≡ old k → is_some o ≡ false → ((q : K) → new q ≡ cond (is_eq (cmp k q)) (Some i) (old q)) → (q : K) → new q ≡ place_by cmp q (take (i + 1) ks)
index_at {K} cmp exact ks i k old new o at is found none set q =
    let within : i < length ks = slice_get_within ks i k at in
    let long : length (take i ks) ≡ i = length-take-le i ks (omega arith) in
    let put : take (i + 1) ks ≡ take i ks ++ k ∷ [] = take_more ks i k within ∙ ap (λ (x : K). take i ks ++ x ∷ []) (get_or_from_slice_get ks i k k at) in
    rw put (index_more cmp exact (take i ks) k old new is (sym found ∙ none_from o none) (λ q. set q ∙ ap (λ (n : ℕ). cond (is_eq (cmp k q)) (Some n) (old q)) (sym long)) q)

-- over names, by their bytes
pub names_found : (name : List ℕ) (names : List (List ℕ)) → place_by (slice_cmp nat_cmp) name names ≡ place_in name names
names_found name [] = refl
names_found name (n ∷ ns) = rw (is_eq-slice_cmp n name, names_found name ns) refl

pub names_indexed : {E : Type 0} (r : Result (BTreeMap (List ℕ) ℕ) E) (names : List (List ℕ)) → IfOk r (λ places. IsIndexBy (slice_cmp nat_cmp) places names) → IfOk r (λ places. IsIndex places names)
names_indexed (Err e) names h = tt
names_indexed (Ok places) names h = λ name. h name ∙ names_found name names
