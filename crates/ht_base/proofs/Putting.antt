-- Values in ascending order of their names: one that is put in its place.
use Rattle.std.proofs.Common.{◌≡◌, ℕ, ◌≤◌, Bool, true, false, List, [], ◌∷◌, length, bytes_eq, slice_set, IsTrue, refl, ap, sym, ◌∙◌, subst, Ordering, Less, Equal, Greater, is_eq, arith, if◌then◌else◌}
use native.Mathlib.Numerals.{unary_clauses}
use Rattle.std.specs.List.{insert}
use Rattle.std.specs.Ordering.{nat_cmp, ordering_reverse}
use Rattle.std.specs.Cmp.Lexicographic.{slice_cmp}
use Rattle.std.proofs.lemmas.Cmp.{nat_list_cmp_total}
use Rattle.std.proofs.lemmas.Map.Text.{is_eq-slice_cmp}
use Rattle.std.proofs.lemmas.Slice.Eq.{bytes_eq-Decides}
use Rattle.ht_base.specs.Values.{Ascend, is_before, put, rank, stands_at}

pub rank_within : {A : Type 0} (name : List ℕ) (vs : List (List ℕ × A)) → rank name vs ≤ length vs
rank_within name [] = omega arith
rank_within name (v ∷ vs) = at (is_before v.0 name) refl (rank_within name vs)
  where
    at : (b : Bool) → is_before v.0 name ≡ b → rank name vs ≤ length vs → rank name (v ∷ vs) ≤ length (v ∷ vs)
    at true is rest = rw is (omega arith)
    at false is rest = rw is (omega arith)

-- a value of this name is replaced
pub put_there : {A : Type 0} (name : List ℕ) (value : A) (vs : List (List ℕ × A)) → stands_at name (rank name vs) vs ≡ true → slice_set vs (rank name vs) (name, value) ≡ put name value vs
put_there name value [] there = cc
put_there {A = A} name value (v ∷ vs) there = at (is_before v.0 name) refl there (put_there name value vs)
  where
    here : is_before v.0 name ≡ false → bytes_eq v.0 name ≡ true → slice_set (v ∷ vs) (rank name (v ∷ vs)) (name, value) ≡ put name value (v ∷ vs)
    here is same = rw (is, same) refl

    at : (b : Bool) → is_before v.0 name ≡ b → stands_at name (rank name (v ∷ vs)) (v ∷ vs) ≡ true → (stands_at name (rank name vs) vs ≡ true → slice_set vs (rank name vs) (name, value) ≡ put name value vs) → slice_set (v ∷ vs) (rank name (v ∷ vs)) (name, value) ≡ put name value (v ∷ vs)
    at true is h rest = let there : stands_at name (rank name vs) vs ≡ true = simp unary_clauses at (rw is at h) in rw is (simp unary_clauses (ap (λ xs. v ∷ xs) (rest there)))
    at false is h rest = let there : stands_at name 0 (v ∷ vs) ≡ true = rw is at h in here is there

-- a new one stands between those before it and those behind
pub put_new : {A : Type 0} (name : List ℕ) (value : A) (vs : List (List ℕ × A)) → stands_at name (rank name vs) vs ≡ false → insert vs (rank name vs) (name, value) ≡ put name value vs
put_new name value [] there = refl
put_new {A = A} name value (v ∷ vs) there = at (is_before v.0 name) refl there (put_new name value vs)
  where
    here : is_before v.0 name ≡ false → bytes_eq v.0 name ≡ false → insert (v ∷ vs) (rank name (v ∷ vs)) (name, value) ≡ put name value (v ∷ vs)
    here is differ = rw (is, differ) refl

    at : (b : Bool) → is_before v.0 name ≡ b → stands_at name (rank name (v ∷ vs)) (v ∷ vs) ≡ false → (stands_at name (rank name vs) vs ≡ false → insert vs (rank name vs) (name, value) ≡ put name value vs) → insert (v ∷ vs) (rank name (v ∷ vs)) (name, value) ≡ put name value (v ∷ vs)
    at true is h rest = let there : stands_at name (rank name vs) vs ≡ false = simp unary_clauses at (rw is at h) in rw is (simp unary_clauses (ap (λ xs. v ∷ xs) (rest there)))
    at false is h rest = let there : stands_at name 0 (v ∷ vs) ≡ false = rw is at h in here is there

-- ---- as the loop finds the place

stood : {A : Type 0} (b : Bool) (name : List ℕ) (vs front behind : List (List ℕ × A)) (place : ℕ) (found : Bool) → front ≡ vs → behind ≡ vs → place ≡ rank name front → found ≡ stands_at name place behind → found ≡ b → stands_at name (rank name vs) vs ≡ b
stood b name vs front behind place found f g is stands there =
    let k = sym stands ∙ there in
    let low = subst (λ l. stands_at name place l ≡ b) g k in
    subst (λ n. stands_at name n vs ≡ b) (is ∙ ap (λ l. rank name l) f) low

pub replaced : {A : Type 0} (name : List ℕ) (value : A) (vs front behind : List (List ℕ × A)) (place : ℕ) (found : Bool) → front ≡ vs → behind ≡ vs → place ≡ rank name front → found ≡ stands_at name place behind → found ≡ true → slice_set vs place (name, value) ≡ put name value vs
replaced name value vs front behind place found f g is stands there =
    ap (λ n. slice_set vs n (name, value)) (is ∙ ap (λ l. rank name l) f) ∙ put_there name value vs (stood true name vs front behind place found f g is stands there)

pub inserted : {A : Type 0} (name : List ℕ) (value : A) (vs front behind : List (List ℕ × A)) (place : ℕ) (found : Bool) → front ≡ vs → behind ≡ vs → place ≡ rank name front → found ≡ stands_at name place behind → found ≡ false → insert vs place (name, value) ≡ put name value vs
inserted name value vs front behind place found f g is stands there =
    ap (λ n. insert vs n (name, value)) (is ∙ ap (λ l. rank name l) f) ∙ put_new name value vs (stood false name vs front behind place found f g is stands there)

-- ---- they stay in order

-- of two names that differ one stands before the other
other_before : (a b : List ℕ) → is_before a b ≡ false → bytes_eq a b ≡ false → IsTrue (is_before b a)
other_before a b not_before differ = at (slice_cmp nat_cmp a b) refl not_before (is_eq-slice_cmp a b)
  where
    at : (o : Ordering) → slice_cmp nat_cmp a b ≡ o → is_before a b ≡ false → is_eq (slice_cmp nat_cmp a b) ≡ bytes_eq a b → IsTrue (is_before b a)
    at Less is h same = cc
    at Equal is h same = cc
    at Greater is h same = let back = nat_list_cmp_total.antisymm b a ∙ ap ordering_reverse is in rw back refl

-- behind what isn't before it
ascend_here : {A : Type 0} (name : List ℕ) (value : A) (v : List ℕ × A) (vs : List (List ℕ × A)) → is_before v.0 name ≡ false → Ascend (v ∷ vs) → Ascend (if bytes_eq v.0 name then (name, value) ∷ vs else (name, value) ∷ v ∷ vs)
ascend_here {A = A} name value v vs is up = at (bytes_eq v.0 name) refl
  where
    like : (ws : List (List ℕ × A)) → v.0 ≡ name → Ascend (v ∷ ws) → Ascend ((name, value) ∷ ws)
    like [] same up = tt
    like (w ∷ ws) same up = (subst (λ n. IsTrue (is_before n w.0)) same up.0, up.1)

    at : (b : Bool) → bytes_eq v.0 name ≡ b → Ascend (if bytes_eq v.0 name then (name, value) ∷ vs else (name, value) ∷ v ∷ vs)
    at true same = rw same (like vs ((bytes_eq-Decides v.0 name).0 same) up)
    at false differ = rw differ (other_before v.0 name is differ, up)

ascend_behind : {A : Type 0} (name : List ℕ) (value : A) (v : List ℕ × A) (vs : List (List ℕ × A)) → IsTrue (is_before v.0 name) → Ascend (v ∷ vs) → Ascend (v ∷ put name value vs)
ascend_behind name value v [] is up = (is, tt)
ascend_behind {A = A} name value v (w ∷ ws) is up = at (is_before w.0 name) refl (ascend_behind name value w ws)
  where
    first : (b : Bool) → bytes_eq w.0 name ≡ b → is_before w.0 name ≡ false → Ascend (v ∷ put name value (w ∷ ws))
    first true same low =
        let here = ascend_here name value w ws low up.1 in
        let kept : Ascend ((name, value) ∷ ws) = rw same at here in
        rw (low, same) (is, kept)
    first false differ low =
        let here = ascend_here name value w ws low up.1 in
        let kept : Ascend ((name, value) ∷ w ∷ ws) = rw differ at here in
        rw (low, differ) (is, kept)

    at : (b : Bool) → is_before w.0 name ≡ b → (IsTrue (is_before w.0 name) → Ascend (w ∷ ws) → Ascend (w ∷ put name value ws)) → Ascend (v ∷ put name value (w ∷ ws))
    at true low rest = let behind = rest (rw low refl) up.1 in rw low (up.0, behind)
    at false low rest = first (bytes_eq w.0 name) refl low

pub ascend_put : {A : Type 0} (name : List ℕ) (value : A) (vs : List (List ℕ × A)) → Ascend vs → Ascend (put name value vs)
ascend_put name value [] up = tt
ascend_put name value (v ∷ vs) up = at (is_before v.0 name) refl
  where
    at : (b : Bool) → is_before v.0 name ≡ b → Ascend (put name value (v ∷ vs))
    at true is = let behind = ascend_behind name value v vs (rw is refl) up in rw is behind
    at false is = let here = ascend_here name value v vs is up in rw is here
