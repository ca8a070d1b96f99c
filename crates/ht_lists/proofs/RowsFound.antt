-- Rows that are found one by one by their numbers.
use Rattle.std.proofs.Common.{◌≡◌, ℕ, ◌+◌, ◌<◌, ◌≤◌, zero, suc, Bool, true, false, cond, List, [], ◌∷◌, ◌++◌, length, get_or, filter, map, take, Some, slice_get, refl, ap, sym, subst, ◌∙◌, arith}
use native.Mathlib.Numerals.{unary_clauses}
use Rattle.std.specs.List.{All}
use Rattle.std.proofs.lemmas.List.Elements.{filter-append}
use Rattle.ht_tree.specs.declared.row.Row.{Row}
use Rattle.ht_tree.specs.Rows.{row_at}
use Rattle.ht_tree.specs.Soundness.{IsSound}
use Rattle.ht_tree.specs.Tables.{TablesOf}

-- ---- each row is found by its number

abbrev pub IsThere : List Row → Row → Type 0
IsThere rows row = row_at row.task.0 rows ≡ Some row

get_at : {A : Type 0} (xs : List A) (k : ℕ) (d : A) → k < length xs → slice_get xs k ≡ Some (get_or xs k d)
get_at [] k d low = absurd (omega arith)
get_at (x ∷ xs) zero d low = refl
get_at (x ∷ xs) (suc k) d low = get_at xs k d (omega arith)

pub all_there : (t : TablesOf) → IsSound t → All (IsThere t.rows) t.rows
all_there t sound k d low =
    let row = get_or t.rows k d in
    let at : row_at (suc k) t.rows ≡ Some row = get_at t.rows k d low in
    subst (λ n. row_at n t.rows ≡ Some row) (sym (sound.numbered (suc k) row at)) at

-- ---- one task more

pub take_row : (xs : List Row) (i : ℕ) (x : Row) → slice_get xs i ≡ Some x → take (i + 1) xs ≡ take i xs ++ x ∷ []
take_row [] i x at = cc
take_row (y ∷ xs) zero x at = let same : y ≡ x = cc in ap (λ (z : Row). z ∷ []) same
take_row (y ∷ xs) (suc i) x at =
    let rest = simp unary_clauses at (take_row xs i x at) in
    simp unary_clauses (ap (λ zs. y ∷ zs) rest)

pub map-append : {A B : Type 0} (f : A → B) (xs ys : List A) → map f (xs ++ ys) ≡ map f xs ++ map f ys
map-append f [] ys = refl
map-append f (x ∷ xs) ys = ap (λ l. f x ∷ l) (map-append f xs ys)

-- of those up to the next the test keeps what it kept, and the next where it is true
pub row_more : {B : Type 0} (f : Row → B) (test : Row → Bool) (rows : List Row) (i : ℕ) (x : Row) → row_at (i + 1) rows ≡ Some x
    → map f (filter test (take (i + 1) rows)) ≡ map f (filter test (take i rows)) ++ map f (filter test (x ∷ []))
row_more f test rows i x at =
    let more : i + 1 ≡ suc i = omega arith in
    let here : slice_get rows i ≡ Some x = subst (λ n. row_at n rows ≡ Some x) more at in
    ap (map f) (ap (filter test) (take_row rows i x here) ∙ filter-append test (take i rows) (x ∷ []))
    ∙ map-append f (filter test (take i rows)) (filter test (x ∷ []))

pub few_of : (test : Row → Bool) (xs : List Row) → length (filter test xs) ≤ length xs
few_of test [] = omega arith
few_of test (x ∷ xs) = at (test x) (few_of test xs)
  where
    at : (b : Bool) → length (filter test xs) ≤ length xs → length (cond b (x ∷ filter test xs) (filter test xs)) ≤ suc (length xs)
    at true few = omega arith
    at false few = omega arith

pub length-map : {A B : Type 0} (f : A → B) (xs : List A) → length (map f xs) ≡ length xs
length-map f [] = refl
length-map f (x ∷ xs) = ap (λ n. suc n) (length-map f xs)

pub there_is : (rows : List Row) (i : ℕ) → i < length rows → (row : Row) × (slice_get rows i ≡ Some row)
there_is [] i low = absurd (omega arith)
there_is (x ∷ xs) zero low = (x, refl)
there_is (x ∷ xs) (suc i) low = there_is xs i (omega arith)
