-- The parts of a path that the parameters of a route take, where the route is a word and parameters behind it.
use Rattle.std.proofs.Common.{◌≡◌, ◌∙◌, sym, ap, refl, ℕ, zero, suc, ◌+◌, ◌-◌, ◌<◌, ◌≤◌, ◌==◌, ◌&&◌, Bool, true, false, cond, map, List, [], ◌∷◌, ◌++◌, length, take, drop, drop-drop, get_or, nat_lt, append-nil, append_assoc, length-append, arith}
use Rattle.std.proofs.Math.Seq.{drop-append_seam, take-append_seam, take-length}
use Rattle.std.proofs.lemmas.Bool.{eqb-true, le-leb, lt-ltb, ltb-true}
use Rattle.std.proofs.lemmas.List.{length-drop}
use Rattle.matchit.specs.Params.{after_token, part_of, walk, wild_from, wild_stop}
use Rattle.matchit.specs.Seek.{has_slash, segment}
use Rattle.ht_api.specs.Routes.{parts, with_byte}
use Rattle.ht_api.specs.Table.{values_of}
use Rattle.ht_api.proofs.Chains.{as_many, tail}

-- ---- a path of its parts

-- each part behind a slash
abbrev pub joined : List (List ℕ) → List ℕ
joined [] = []
joined (p ∷ ps) = 47 ∷ (p ++ joined ps)

-- no part has a slash
abbrev pub AreWhole : List (List ℕ) → Type 0
AreWhole [] = Unit {0}
AreWhole (p ∷ ps) = (has_slash p ≡ false) × AreWhole ps

abbrev IsJoined : List ℕ → List (List ℕ) → Type 0
IsJoined q [] = ⊥
IsJoined q (p ∷ ps) = (q ≡ p ++ joined ps) × AreWhole (p ∷ ps)

behind_slash : (q : List ℕ) (ps : List (List ℕ)) → IsJoined q ps → IsJoined (47 ∷ q) ([] ∷ ps)
behind_slash q [] h = absurd h
behind_slash q (p ∷ ps) h = (ap (λ (l : List ℕ). 47 ∷ l) h.0, (refl, h.1))

behind_byte : (b : ℕ) (q : List ℕ) (ps : List (List ℕ)) → (b == 47) ≡ false → IsJoined q ps → IsJoined (b ∷ q) (with_byte b ps)
behind_byte b q [] e h = absurd h
behind_byte b q (p ∷ ps) e h = (ap (λ (l : List ℕ). b ∷ l) h.0, (rw e h.1.0, h.1.1))

parts_join : (q : List ℕ) → IsJoined q (parts q)
parts_join [] = (refl, (refl, tt))
parts_join (b ∷ q) = at (b == 47) refl (parts_join q)
  where
    at : (here : Bool) → (b == 47) ≡ here → IsJoined q (parts q) → IsJoined (b ∷ q) (parts (b ∷ q))
    at true e h = let is : b ≡ 47 = eqb-true b 47 e in rw e (rw is (behind_slash q (parts q) h))
    at false e h = rw e (behind_byte b q (parts q) e h)

pub of_parts : (q w : List ℕ) (ps : List (List ℕ)) → parts q ≡ w ∷ ps → (q ≡ w ++ joined ps) × AreWhole ps
of_parts q w ps e = let j = rw e at (parts_join q) in (j.0, j.1.1)

-- ---- one parameter

-- none is a parameter
abbrev pub AreLow : List ℕ → Type 0
AreLow [] = Unit {0}
AreLow (x ∷ xs) = (nat_lt x 256 ≡ true) × AreLow xs

low_more : (xs : List ℕ) → AreLow xs → AreLow (xs ++ 47 ∷ [])
low_more [] h = (refl, tt)
low_more (x ∷ xs) h = (h.0, low_more xs h.1)

wild_at : (xs rest : List ℕ) (len token at : ℕ) → AreLow xs → at + length xs ≤ len → wild_from (xs ++ 256 ∷ rest) len token at ≡ (token + length xs, at + length xs)
wild_at [] rest len token at h l =
    let e : token ≡ token + 0 = omega arith in
    let f : at ≡ at + 0 = omega arith in
    λ i. (e i, f i)
wild_at (x ∷ xs) rest len token at h l =
    let below : at < len = omega arith in
    let e : (token + 1) + length xs ≡ token + length (x ∷ xs) = omega arith in
    let f : (at + 1) + length xs ≡ at + length (x ∷ xs) = omega arith in
    rw (h.0, lt-ltb at len below) (wild_at xs rest len (token + 1) (at + 1) h.1 (omega arith) ∙ (λ i. (e i, f i)))

part_rest : (path : List ℕ) (n : ℕ) → n ≤ length path → part_of path n (length path) ≡ drop n path
part_rest path n h =
    let all : length path ≤ length path = omega arith in
    let long : length (drop n path) ≡ length path - n = length-drop n path in
    rw (le-leb n (length path) h, le-leb (length path) (length path) all, ← long) (take-length (drop n path))

part_front : (path : List ℕ) (n m : ℕ) (h t : List ℕ) → drop n path ≡ h ++ t → m ≡ n + length h → m ≤ length path → part_of path n m ≡ h
part_front path n m h t is at within =
    let low : n ≤ m = omega arith in
    let long : m - n ≡ length h = omega arith in
    rw (le-leb n m low, le-leb m (length path) within, is, long) (take-append_seam h t)

segment_more : (b : ℕ) (l t : List ℕ) (r : Bool) → (b == 47) ≡ r → cond r true (has_slash t) ≡ false → segment l ≡ t ++ 47 ∷ [] → segment (b ∷ l) ≡ b ∷ (t ++ 47 ∷ [])
segment_more b l t true e h is = cc
segment_more b l t false e h is = rw e (ap (λ (l : List ℕ). b ∷ l) is)

slash_in : (r : Bool) (t : List ℕ) → cond r true (has_slash t) ≡ false → has_slash t ≡ false
slash_in true t h = cc
slash_in false t h = h

segment_front : (p rest : List ℕ) → has_slash p ≡ false → segment (p ++ 47 ∷ rest) ≡ p ++ 47 ∷ []
segment_front [] rest h = refl
segment_front (b ∷ p) rest h = segment_more b (p ++ 47 ∷ rest) p (b == 47) refl h (segment_front p rest (slash_in (b == 47) p h))

get_at : (n : ℕ) (xs : List ℕ) (y : ℕ) (ys : List ℕ) → drop n xs ≡ y ∷ ys → get_or xs n 0 ≡ y
get_at zero [] y ys e = cc
get_at zero (x ∷ xs) y ys e = cc
get_at (suc n) [] y ys e = cc
get_at (suc n) (x ∷ xs) y ys e = get_at n xs y ys e

-- what is left behind a front
drop_on : (n : ℕ) (path xs ys : List ℕ) → drop n path ≡ xs ++ ys → drop (n + length xs) path ≡ ys
drop_on n path xs ys e = sym (drop-drop (length xs) n path) ∙ ap (drop (length xs)) e ∙ drop-append_seam xs ys

long_drop : (n : ℕ) (path : List ℕ) (y : ℕ) (ys : List ℕ) → drop n path ≡ y ∷ ys → length path ≡ n + length (y ∷ ys)
long_drop n path y ys e = let size = sym (length-drop n path) ∙ ap (λ (l : List ℕ). length l) e in omega arith

end_false : (a b : Bool) (m n : ℕ) → cond (a && b && false) m n ≡ n
end_false true true m n = refl
end_false true false m n = refl
end_false false b m n = refl

not_past : (r : Bool) (m n : ℕ) → nat_lt m n ≡ r → n ≤ m → r ≡ false
not_past false m n e h = refl
not_past true m n e h = let low = ltb-true m n e in absurd (omega arith)

-- the last takes the rest of the path
stop_last : (pattern path : List ℕ) (token at : ℕ) → drop token pattern ≡ 256 ∷ [] → wild_stop pattern token path at ≡ length path
stop_last pattern path token at e =
    let size = long_drop token pattern 256 [] e in
    let past : length pattern ≤ token + 1 = omega arith in
    let none : nat_lt (token + 1) (length pattern) ≡ false = not_past _ (token + 1) (length pattern) refl past in
    rw none (end_false (nat_lt token (length pattern)) (get_or pattern token 0 == 256) _ (length path))

-- another takes its part
stop_other : (pattern path : List ℕ) (token at : ℕ) (os : List (List ℕ)) (p rest : List ℕ) → drop token pattern ≡ 256 ∷ 47 ∷ 256 ∷ tail os → drop at path ≡ p ++ 47 ∷ rest
    → has_slash p ≡ false → wild_stop pattern token path at ≡ at + length p
stop_other pattern path token at os p rest e is whole =
    let size = long_drop token pattern 256 _ e in
    let here : nat_lt token (length pattern) ≡ true = lt-ltb token (length pattern) (omega arith) in
    let next : nat_lt (token + 1) (length pattern) ≡ true = lt-ltb (token + 1) (length pattern) (omega arith) in
    let wild : get_or pattern token 0 ≡ 256 = get_at token pattern 256 _ e in
    let behind : drop (token + 1) pattern ≡ 47 ∷ 256 ∷ tail os = drop_on token pattern (256 ∷ []) _ e in
    rw (here, wild, next, behind, is, segment_front p rest whole) (omega (arith, length-append p (47 ∷ [])))

-- either takes its part
stop_is : (pattern path : List ℕ) (token at : ℕ) (os : List (List ℕ)) (p : List ℕ) (ps : List (List ℕ)) → as_many os ps ≡ true → has_slash p ≡ false
    → drop token pattern ≡ 256 ∷ tail os → drop at path ≡ p ++ joined ps → at ≤ length path → wild_stop pattern token path at ≡ at + length p
stop_is pattern path token at [] p [] n w e is l =
    let size : length path - at ≡ length p = sym (length-drop at path) ∙ ap (λ (l : List ℕ). length l) (is ∙ append-nil p) in
    stop_last pattern path token at e ∙ omega arith
stop_is pattern path token at [] p (q ∷ ps) n w e is l = cc
stop_is pattern path token at (o ∷ os) p [] n w e is l = cc
stop_is pattern path token at (o ∷ os) p (q ∷ ps) n w e is l = stop_other pattern path token at os p (q ++ joined ps) e is w

-- ---- all of them

abbrev pub marks : {A : Type 0} → List A → List (Unit {0})
marks xs = map (λ x. tt) xs

next_token : (token : ℕ) → token < 18446744073709551615 → after_token token ≡ token + 1
next_token token h = grind arith

pub walked : (os : List (List ℕ)) (names : List (ℕ × ℕ)) (ps : List (List ℕ)) → marks names ≡ marks os → as_many os ps ≡ true → AreWhole ps
    → (pattern text path : List ℕ) (token at : ℕ) (xs : List ℕ) → AreLow xs → length pattern < 18446744073709551615
    → drop token pattern ≡ xs ++ tail os → drop at path ≡ xs ++ joined ps → values_of (walk pattern text path names token at) ≡ ps
walked [] [] [] m n w pattern text path token at xs low short is at_is = refl
walked [] [] (p ∷ ps) m n w pattern text path token at xs low short is at_is = cc
walked [] (name ∷ names) ps m n w pattern text path token at xs low short is at_is = cc
walked (o ∷ os) [] ps m n w pattern text path token at xs low short is at_is = cc
walked (o ∷ os) (name ∷ names) [] m n w pattern text path token at xs low short is at_is = cc
walked (o ∷ os) (name ∷ names) (p ∷ ps) m n w pattern text path token at xs low short is at_is =
    let ys = xs ++ 47 ∷ [] in
    let lows = low_more xs low in
    let row : drop token pattern ≡ ys ++ 256 ∷ tail os = is ∙ sym (append_assoc xs (47 ∷ []) (256 ∷ tail os)) in
    let text_is : drop at path ≡ ys ++ (p ++ joined ps) = at_is ∙ sym (append_assoc xs (47 ∷ []) (p ++ joined ps)) in
    let some : length ys ≡ length xs + 1 = length-append xs (47 ∷ []) in
    let size : length path - at ≡ length ys + length (p ++ joined ps) = sym (length-drop at path) ∙ ap (λ (l : List ℕ). length l) text_is ∙ length-append ys (p ++ joined ps) in
    let within : at + length ys ≤ length path = omega arith in
    let t = token + length ys in
    let a = at + length ys in
    let wild : wild_from (drop token pattern) (length path) token at ≡ (t, a) =
    ap (λ (l : List ℕ). wild_from l (length path) token at) row ∙ wild_at ys (tail os) (length path) token at lows within in
    let rest : drop t pattern ≡ 256 ∷ tail os = drop_on token pattern ys (256 ∷ tail os) row in
    let left : drop a path ≡ p ++ joined ps = drop_on at path ys (p ++ joined ps) text_is in
    let stop : wild_stop pattern t path a ≡ a + length p = stop_is pattern path t a os p ps n w.0 rest left within in
    let part_size : length path - a ≡ length p + length (joined ps) = sym (length-drop a path) ∙ ap (λ (l : List ℕ). length l) left ∙ length-append p (joined ps) in
    let part_within : a + length p ≤ length path = omega arith in
    let head : part_of path a (a + length p) ≡ p = part_front path a (a + length p) p (joined ps) left refl part_within in
    let long = long_drop t pattern 256 (tail os) rest in
    let small : t < 18446744073709551615 = omega arith in
    let same : marks names ≡ marks os = cc in
    let more : values_of (walk pattern text path names (t + 1) (a + length p)) ≡ ps =
    walked os names ps same n w.1 pattern text path (t + 1) (a + length p) [] tt short (drop_on t pattern (256 ∷ []) (tail os) rest) (drop_on a path p (joined ps) left) in
    rw (wild, stop, next_token t small) (λ i. head i ∷ more i)
