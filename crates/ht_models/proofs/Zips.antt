-- Lists that belong together, item by item.
use Rattle.std.proofs.Common.{◌≡◌, ℕ, ◌+◌, ◌<◌, List, [], ◌∷◌, ◌++◌, Some, length, take, get_or, refl, ap, subst, sym, suc, zero}
use Rattle.std.specs.Prelude.{slice_get}
use Rattle.std.specs.List.{AllZip}
use Rattle.std.proofs.lemmas.List.{take_more}

module _ {A B : Type 0} (R : A → B → Type 0) where
  pub zip_push : (xs : List A) (ys : List B) (x : A) (y : B) → AllZip R xs ys → R x y → AllZip R (xs ++ x ∷ []) (ys ++ y ∷ [])
  zip_push [] [] x y all one = (one, tt)
  zip_push [] (z ∷ ys) x y all one = absurd all
  zip_push (w ∷ xs) [] x y all one = absurd all
  zip_push (w ∷ xs) (z ∷ ys) x y all one = (all.0, zip_push xs ys x y all.1 one)

  pub zip_more : (xs : List A) (i : ℕ) (ys : List B) (x : A) (y : B) → i < length xs → x ≡ get_or xs i x → AllZip R (take i xs) ys → R x y → AllZip R (take (i + 1) xs) (ys ++ y ∷ [])
  zip_more xs i ys x y within read all one = rw (take_more xs i x within, sym read) (zip_push (take i xs) ys x y all one)

  pub length_zip : (xs : List A) (ys : List B) → AllZip R xs ys → length xs ≡ length ys
  length_zip [] [] all = refl
  length_zip [] (y ∷ ys) all = absurd all
  length_zip (x ∷ xs) [] all = absurd all
  length_zip (x ∷ xs) (y ∷ ys) all = ap (λ n. suc n) (length_zip xs ys all.1)

  -- what an item belongs to
  pub zip_at : (xs : List A) (ys : List B) → AllZip R xs ys → (i : ℕ) (y : B) → slice_get ys i ≡ Some y → (x : A) × (slice_get xs i ≡ Some x) × R x y
  zip_at [] [] all i y at = cc
  zip_at [] (z ∷ ys) all i y at = absurd all
  zip_at (x ∷ xs) [] all i y at = absurd all
  zip_at (x ∷ xs) (z ∷ ys) all zero y at = let same : z ≡ y = cc in (x, refl, subst (R x) same all.0)
  zip_at (x ∷ xs) (z ∷ ys) all (suc i) y at = zip_at xs ys all.1 i y at

  -- where each item has one that belongs to it, so has the list
  pub one_zip : ((x : A) (y z : B) → R x y → R x z → y ≡ z) → (xs : List A) (ys zs : List B) → AllZip R xs ys → AllZip R xs zs → ys ≡ zs
  one_zip one [] [] [] all also = refl
  one_zip one [] [] (z ∷ zs) all also = absurd also
  one_zip one [] (y ∷ ys) zs all also = absurd all
  one_zip one (x ∷ xs) [] zs all also = absurd all
  one_zip one (x ∷ xs) (y ∷ ys) [] all also = absurd also
  one_zip one (x ∷ xs) (y ∷ ys) (z ∷ zs) all also = λ i. one x y z all.0 also.0 i ∷ one_zip one xs ys zs all.1 also.1 i
