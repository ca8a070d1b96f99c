-- The places of the deadlines that were taken, with one more.
use Rattle.std.proofs.Common.{◌≡◌, ◌+◌, ◌<◌, ◌≤◌, ◌==◌, ℕ, Bool, true, false, ◌||◌, if◌then◌else◌, List, [], ◌∷◌, filter, arith, eq-eqb, refl, ap, subst}
use Rattle.std.specs.Prelude.{nat_lt}
use Rattle.std.proofs.lemmas.Bool.{le-ltb, lt-ltb, ltb-false, ltb-true}
use Rattle.ht_base.specs.Persons.{AllBelow, Ascends, AscendsFrom, has}
use Rattle.ht_tree.specs.Passed.{taken_with, with_place}

first_apart : (a b : Bool) → (a || b) ≡ false → a ≡ false
first_apart true b e = e
first_apart false b e = refl

rest_apart : (a b : Bool) → (a || b) ≡ false → b ≡ false
rest_apart true b e = cc
rest_apart false b e = e

-- ---- it stands between those before it and those behind it

none_lower : (p n : ℕ) (ps : List ℕ) → AscendsFrom n ps → p < n → filter (λ q. nat_lt q p) ps ≡ []
none_lower p n [] up low = refl
none_lower p n (x ∷ ps) up low = let first = up.0 in rw (le-ltb x p (omega arith)) (none_lower p (x + 1) ps up.1 (omega arith))

all_higher : (p n : ℕ) (ps : List ℕ) → AscendsFrom n ps → p < n → filter (λ q. nat_lt p q) ps ≡ ps
all_higher p n [] up low = refl
all_higher p n (x ∷ ps) up low = let first = up.0 in rw (lt-ltb p x (omega arith)) (ap (λ l. x ∷ l) (all_higher p (x + 1) ps up.1 (omega arith)))

-- the first is greater where it isn't less
behind : (x p : ℕ) (ps : List ℕ) → nat_lt x p ≡ false → has p (x ∷ ps) ≡ false → p < x
behind x p ps e out =
    let high = ltb-false x p e in
    let other : x ≡ p → ⊥ = λ same. (let here = eq-eqb x p same in let none = first_apart (x == p) (has p ps) out in cc) in
    omega (arith, other)

placed_from : (n p : ℕ) (ps : List ℕ) → AscendsFrom n ps → has p ps ≡ false → with_place ps p ≡ taken_with p ps
placed_from n p [] up out = refl
placed_from n p (x ∷ ps) up out = go (nat_lt x p) refl (placed_from (x + 1) p ps up.1 (rest_apart (x == p) (has p ps) out))
  where
    go : (b : Bool) → nat_lt x p ≡ b → with_place ps p ≡ taken_with p ps → with_place (x ∷ ps) p ≡ taken_with p (x ∷ ps)
    go true e rest =
        let low = ltb-true x p e in
        let high : nat_lt p x ≡ false = le-ltb p x (omega arith) in
        rw (e, high) (ap (λ l. x ∷ l) rest)
    go false e rest =
        let high = behind x p ps e out in
        let less : nat_lt p x ≡ true = lt-ltb p x high in
        rw (e, less, none_lower p (x + 1) ps up.1 (omega arith), all_higher p (x + 1) ps up.1 (omega arith)) refl

pub placed : (ps : List ℕ) (p : ℕ) → Ascends ps → has p ps ≡ false → with_place ps p ≡ taken_with p ps
placed ps p up out = placed_from 0 p ps up out

-- ---- the places ascend still, and are of as many deadlines

below : (n p : ℕ) (ps : List ℕ) → AllBelow n ps → p < n → AllBelow n (with_place ps p)
below n p [] fine low = (low, tt)
below n p (x ∷ ps) fine low = go (nat_lt x p) (below n p ps fine.1 low)
  where
    go : (b : Bool) → AllBelow n (with_place ps p) → AllBelow n (if b then x ∷ with_place ps p else p ∷ x ∷ ps)
    go true rest = (fine.0, rest)
    go false rest = (low, fine)

ascends_from : (n p : ℕ) (ps : List ℕ) → AscendsFrom n ps → n ≤ p → has p ps ≡ false → AscendsFrom n (with_place ps p)
ascends_from n p [] up low out = (low, tt)
ascends_from n p (x ∷ ps) up low out = go (nat_lt x p) refl (λ less. ascends_from (x + 1) p ps up.1 less (rest_apart (x == p) (has p ps) out))
  where
    go : (b : Bool) → nat_lt x p ≡ b → (x + 1 ≤ p → AscendsFrom (x + 1) (with_place ps p)) → AscendsFrom n (if b then x ∷ with_place ps p else p ∷ x ∷ ps)
    go true e rest = (up.0, rest (let less = ltb-true x p e in omega arith))
    go false e rest = (low, (let high = behind x p ps e out in omega arith, up.1))

pub taken_below : (n p : ℕ) (ps : List ℕ) → Ascends ps → has p ps ≡ false → AllBelow n ps → p < n → AllBelow n (taken_with p ps)
taken_below n p ps up out fine low = subst (AllBelow n) (placed ps p up out) (below n p ps fine low)

pub taken_ascends : (p : ℕ) (ps : List ℕ) → Ascends ps → has p ps ≡ false → Ascends (taken_with p ps)
taken_ascends p ps up out = subst Ascends (placed ps p up out) (ascends_from 0 p ps up (omega arith) out)
