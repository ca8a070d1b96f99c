-- What a call for each element leaves, one by one.
use Rattle.std.proofs.Common.{◌≡◌, ℕ, zero, suc, ◌+◌, ◌<◌, arith, List, [], ◌∷◌, length, map, subst, sym}
use Rattle.std.specs.Prelude.{slice_index_or}
use Rattle.std.specs.List.{AllByRecursion}
use Rattle.std.proofs.lemmas.List.Elements.{All-from_recursion}
use denote.Param.Members.{Shared}
use denote.Ref.{MutBor}
use Rattle.std.specs.Fork.{ChangesAt, ChangesEach}
use Rattle.ht_pool.specs.Gathering.{AreEach}

module _ {F T : Type 0} (g : Shared F (ℕ × (MutBor T × Unit {0})) ((Unit {0}) × (MutBor T × Unit {0}))) (f : F) where
  -- from place k on
  abbrev ChangesFrom : ℕ → List T → List T → Type 0
  ChangesFrom k xs ys = (i : ℕ) (d : T) → i < length xs → ChangesAt g f (k + i) (slice_index_or xs i d) (slice_index_or ys i d)

  from_rest : (k : ℕ) (x : T) (xs : List T) (y : T) (ys : List T) → ChangesFrom k (x ∷ xs) (y ∷ ys) → ChangesFrom (k + 1) xs ys
  from_rest k x xs y ys given i d low = subst (λ (n : ℕ). ChangesAt g f n (slice_index_or xs i d) (slice_index_or ys i d)) (let e : k + suc i ≡ k + 1 + i = omega arith in e) (given (suc i) d (omega (arith, low)))

  changed_from : (Rel : T → T → Type 0) (k : ℕ) (xs ys : List T) → length ys ≡ length xs → ((i : ℕ) (x y : T) → ChangesAt g f i x y → Rel x y) → ChangesFrom k xs ys → AreEach Rel xs ys
  changed_from Rel k [] [] len met given = tt
  changed_from Rel k [] (y ∷ ys) len met given = absurd (omega (arith, len))
  changed_from Rel k (x ∷ xs) [] len met given = absurd (omega (arith, len))
  changed_from Rel k (x ∷ xs) (y ∷ ys) len met given =
      (met (k + 0) x y (given 0 x (omega arith)), changed_from Rel (k + 1) xs ys (omega (arith, len)) met (from_rest k x xs y ys given))

  changed : (Rel : T → T → Type 0) (xs ys : List T) → length ys ≡ length xs → ((i : ℕ) (p q : MutBor T) → g.post f (i, (p, tt)) (tt, (q, tt)) → Rel p.now q.now) → ChangesEach g f xs ys → AreEach Rel xs ys
  changed Rel xs ys len met given =
      let each : (i : ℕ) (x y : T) → ChangesAt g f i x y → Rel x y = λ i x y m. subst (λ (d : T). Rel x d) m.left (subst (λ (w : T). Rel w m.after_call.now) m.argument_is (met i m.argument m.after_call m.call)) in
      changed_from Rel 0 xs ys len each
      (λ i d low. subst (λ (n : ℕ). ChangesAt g f n (slice_index_or xs i d) (slice_index_or ys i d)) (let e : i ≡ 0 + i = omega arith in e) (given i d low).1)

  -- and of what is told of them
  told_each : {U : Type 0} (tell : T → U) (Rel : U → U → Type 0) (xs ys : List T) → AreEach (λ x y. Rel (tell x) (tell y)) xs ys → AreEach Rel (map tell xs) (map tell ys)
  told_each tell Rel [] [] each = tt
  told_each tell Rel [] (y ∷ ys) each = absurd each
  told_each tell Rel (x ∷ xs) [] each = absurd each
  told_each tell Rel (x ∷ xs) (y ∷ ys) each = (each.0, told_each tell Rel xs ys each.1)

  pub changed_as : {U : Type 0} (tell : T → U) (Rel : U → U → Type 0) (xs ys : List T) → length ys ≡ length xs → ((i : ℕ) (p q : MutBor T) → g.post f (i, (p, tt)) (tt, (q, tt)) → Rel (tell p.now) (tell q.now)) → ChangesEach g f xs ys → AreEach Rel (map tell xs) (map tell ys)
  changed_as tell Rel xs ys len met given = told_each tell Rel xs ys (changed (λ x y. Rel (tell x) (tell y)) xs ys len met given)

-- what holds of each, at a place
pub at_each : {T U : Type 0} (tell : T → U) (P : U → Type 0) (xs : List T) (i : ℕ) (x : T) → AllByRecursion P (map tell xs) → i < length xs → x ≡ slice_index_or xs i x → P (tell x)
at_each tell P [] i x all low is = absurd (omega (arith, low))
at_each tell P (y ∷ ys) zero x all low is = subst (λ (z : _). P (tell z)) (sym is) all.0
at_each tell P (y ∷ ys) (suc i) x all low is = at_each tell P ys i x all.1 (omega (arith, low)) is
