-- Where it holds of one of several lists.
use Rattle.std.proofs.Common.{◌≡◌, ℕ, ◌<◌, arith, zero, suc, List, [], ◌∷◌, ◌++◌, length, get_or, inl, inr, subst}
use Rattle.std.specs.List.{AllZip, flat_map}
use Rattle.ht_models.specs.Expressions.{One}

module _ {B : Type 0} (P : B → Type 0) where
  pub one_left : (xs ys : List B) → One P xs → One P (xs ++ ys)
  one_left [] ys one = absurd one
  one_left (x ∷ xs) ys (inl here) = inl here
  one_left (x ∷ xs) ys (inr one) = inr (one_left xs ys one)

  pub one_right : (xs ys : List B) → One P ys → One P (xs ++ ys)
  one_right [] ys one = one
  one_right (x ∷ xs) ys one = inr (one_right xs ys one)

  pub neither : (xs ys : List B) → (One P xs → ⊥) → (One P ys → ⊥) → One P (xs ++ ys) → ⊥
  neither [] ys left right one = right one
  neither (x ∷ xs) ys left right (inl here) = left (inl here)
  neither (x ∷ xs) ys left right (inr one) = neither xs ys (λ o. left (inr o)) right one

  module _ {A : Type 0} (f : A → List B) where
    pub one_behind : (front : List A) (x : A) (rest : List A) → One P (f x) → One P (flat_map f (front ++ x ∷ rest))
    one_behind [] x rest one = one_left (f x) (flat_map f rest) one
    one_behind (y ∷ front) x rest one = one_right (f y) (flat_map f (front ++ x ∷ rest)) (one_behind front x rest one)

    pub one_at : (xs : List A) (i : ℕ) (x : A) → i < length xs → x ≡ get_or xs i x → One P (f x) → One P (flat_map f xs)
    one_at [] i x within read one = absurd (omega arith)
    one_at (y ∷ xs) zero x within read one = one_left (f y) (flat_map f xs) (subst (λ z. One P (f z)) read one)
    one_at (y ∷ xs) (suc i) x within read one = one_right (f y) (flat_map f xs) (one_at xs i x (omega arith) read one)

    -- it holds of none, as of none of each item that something belongs to
    pub none_zip : {C : Type 0} (R : A → C → Type 0) → ((x : A) (y : C) → R x y → One P (f x) → ⊥) → (xs : List A) (ys : List C) → AllZip R xs ys → One P (flat_map f xs) → ⊥
    none_zip R none [] ys all one = one
    none_zip R none (x ∷ xs) [] all one = all
    none_zip R none (x ∷ xs) (y ∷ ys) all one = neither (f x) (flat_map f xs) (none x y all.0) (none_zip R none xs ys all.1) one
