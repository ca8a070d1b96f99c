-- Tasks that are listed by their keys.
use Rattle.std.proofs.Common.{◌≡◌, ℕ, zero, suc, List, [], ◌∷◌, fold, filter, map, take, drop, Option, Ordering, Less, Equal, Greater, refl, ap, ◌∙◌}
use Rattle.std.specs.List.{AllByRecursion, filter_map}
use Rattle.std.specs.Ordering.{match_ordering}
use Rattle.std.proofs.lemmas.List.Elements.{All-drop, All-filter, All-from_recursion, All-take, recursion_from_All}
use Rattle.ht_lists.specs.Keys.{compare_keys, key_of}
use Rattle.ht_lists.specs.Lists.{compare_rows, is_listed, page_row, part_of, tasks_of}
use Rattle.ht_lists.specs.Shown.{shown_at}
use Rattle.ht_lists.specs.Sorted.{put_by, sorted_by}
use Rattle.ht_base.specs.declared.query.Which.{Which}
use Rattle.ht_base.specs.declared.role.Role.{Role}
use Rattle.ht_tree.specs.declared.row.Row.{Row}
use Rattle.ht_tree.specs.Soundness.{IsSound}
use Rattle.ht_tree.specs.Tables.{TablesOf}
use Rattle.ht_lists.proofs.RowsFound.{IsThere, all_there}

-- ---- keys in order are those of rows in order

put_keys : (xs : List Row) (x : Row) → put_by compare_keys (map key_of xs) (key_of x) ≡ map key_of (put_by compare_rows xs x)
put_keys [] x = refl
put_keys (y ∷ ys) x = at (compare_rows x y) (put_keys ys x)
  where
    at : (o : Ordering) → put_by compare_keys (map key_of ys) (key_of x) ≡ map key_of (put_by compare_rows ys x)
        → match_ordering o (key_of x ∷ key_of y ∷ map key_of ys) (key_of y ∷ put_by compare_keys (map key_of ys) (key_of x)) (key_of y ∷ put_by compare_keys (map key_of ys) (key_of x))
        ≡ map key_of (match_ordering o (x ∷ y ∷ ys) (y ∷ put_by compare_rows ys x) (y ∷ put_by compare_rows ys x))
    at Less e = refl
    at Equal e = ap (λ l. key_of y ∷ l) e
    at Greater e = ap (λ l. key_of y ∷ l) e

all_keys : (acc xs : List Row) → fold (put_by compare_keys) (map key_of acc) (map key_of xs) ≡ map key_of (fold (put_by compare_rows) acc xs)
all_keys acc [] = refl
all_keys acc (x ∷ xs) = ap (λ l. fold (put_by compare_keys) l (map key_of xs)) (put_keys acc x) ∙ all_keys (put_by compare_rows acc x) xs

pub sorted_keys : (xs : List Row) → sorted_by compare_keys (map key_of xs) ≡ map key_of (sorted_by compare_rows xs)
sorted_keys xs = all_keys [] xs

-- ---- sorting keeps what is true of each

module _ {A : Type 0} (P : A → Type 0) (cmp : A → A → Ordering) where
  each_put : (xs : List A) (x : A) → P x → AllByRecursion P xs → AllByRecursion P (put_by cmp xs x)
  each_put [] x p a = (p, tt)
  each_put (y ∷ ys) x p a = at (cmp x y) (each_put ys x p a.1)
    where
      at : (o : Ordering) → AllByRecursion P (put_by cmp ys x) → AllByRecursion P (match_ordering o (x ∷ y ∷ ys) (y ∷ put_by cmp ys x) (y ∷ put_by cmp ys x))
      at Less more = (p, a)
      at Equal more = (a.0, more)
      at Greater more = (a.0, more)

  each_all : (acc xs : List A) → AllByRecursion P acc → AllByRecursion P xs → AllByRecursion P (fold (put_by cmp) acc xs)
  each_all acc [] a b = a
  each_all acc (x ∷ xs) a b = each_all (put_by cmp acc x) xs (each_put acc x b.0 a) b.1

-- ---- each row is found by its number

shown_there : (t : TablesOf) (rows : List Row) → AllByRecursion (IsThere t.rows) rows → filter_map (shown_at t) (map key_of rows) ≡ map (page_row t) rows
shown_there t [] a = refl
shown_there t (row ∷ rows) a = rw a.0 (ap (λ l. page_row t row ∷ l) (shown_there t rows a.1))

-- ---- a part of the keys

map-take : {A B : Type 0} (f : A → B) (n : ℕ) (xs : List A) → take n (map f xs) ≡ map f (take n xs)
map-take f zero xs = refl
map-take f (suc n) [] = refl
map-take f (suc n) (x ∷ xs) = ap (λ l. f x ∷ l) (map-take f n xs)

map-drop : {A B : Type 0} (f : A → B) (n : ℕ) (xs : List A) → drop n (map f xs) ≡ map f (drop n xs)
map-drop f zero xs = refl
map-drop f (suc n) [] = refl
map-drop f (suc n) (x ∷ xs) = map-drop f n xs

part_keys : (from count : ℕ) (rows : List Row) → part_of from count (map key_of rows) ≡ map key_of (part_of from count rows)
part_keys from count rows = ap (take count) (map-drop key_of from rows) ∙ map-take key_of count (drop from rows)

-- what is shown of the keys of the tasks is the part of the tasks
pub page_is : (t : TablesOf) (person : ℕ) (role : Option Role) (which : Which) (from count : ℕ) → IsSound t
    → filter_map (shown_at t) (part_of from count (sorted_by compare_keys (map key_of (filter (is_listed t person role which) t.rows))))
    ≡ map (page_row t) (part_of from count (tasks_of t person role which))
page_is t person role which from count sound =
    let P = IsThere t.rows in
    let test = is_listed t person role which in
    let listed = filter test t.rows in
    let tasks = tasks_of t person role which in
    let sorted : AllByRecursion P tasks = each_all P compare_rows [] listed tt (recursion_from_All P listed (All-filter test P t.rows (all_there t sound))) in
    let part : AllByRecursion P (part_of from count tasks) = recursion_from_All P (part_of from count tasks) (All-take P count (drop from tasks) (All-drop P from tasks (All-from_recursion P tasks sorted))) in
    ap (λ l. filter_map (shown_at t) (part_of from count l)) (sorted_keys listed)
    ∙ ap (filter_map (shown_at t)) (part_keys from count tasks)
    ∙ shown_there t (part_of from count tasks) part
