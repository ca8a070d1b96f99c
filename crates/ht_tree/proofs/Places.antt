-- Last places of tasks.
use Rattle.std.proofs.Common.{◌≡◌, ℕ, ◌+◌, ◌<◌, ◌≤◌, ◌==◌, zero, suc, Bool, true, false, cond, if◌then◌else◌, List, [], ◌∷◌, ◌++◌, map, length, drop, take, get_or, slice_get, slice_set, length-append, length-take-le, Option, Some, None, option_map, MatchOption, IfSome, refl, sym, ap, subst, ◌∙◌, inl, inr, arith}
use Rattle.std.proofs.lemmas.Bool.{cases_lt}
use Rattle.std.proofs.lemmas.Bool.Decides.{nat_tests}
use Rattle.ht_base.specs.declared.task_id.TaskId.{TaskId}
use Rattle.std.proofs.lemmas.List.{map_push, take_more}
use Rattle.ht_tree.specs.declared.row.Row.{Row}
use Rattle.ht_tree.specs.Places.{last_of, last_place, tasks_of}
use Rattle.std.specs.Option.{option_or}

-- ---- of one more task

pub last_push : (task : ℕ) (ts : List ℕ) (t : ℕ) → last_place task (ts ++ t ∷ []) ≡ cond (t == task) (Some (length ts)) (last_place task ts)
last_push task [] t = refl
last_push task (x ∷ ts) t = step (t == task) (last_place task (ts ++ t ∷ [])) (last_push task ts t)
  where
    step : (b : Bool) (o : Option ℕ) → o ≡ cond b (Some (length ts)) (last_place task ts) → option_or (option_map suc o) (if x == task then Some 0 else None) ≡ cond b (Some (suc (length ts))) (option_or (option_map suc (last_place task ts)) (if x == task then Some 0 else None))
    step true o e = rw e refl
    step false o e = rw e refl

-- a place is one of the list
pub place_within : (task : ℕ) (ts : List ℕ) (i : ℕ) → last_place task ts ≡ Some i → i < length ts
place_within task [] i at = cc
place_within task (t ∷ ts) i at = here (last_place task ts) refl at (λ j is. place_within task ts j is)
  where
    first : (b : Bool) → (if b then Some 0 else None) ≡ Some i → i ≡ 0
    first true e = let z : Some 0 ≡ Some i = e in cc
    first false e = cc

    here : (o : Option ℕ) → last_place task ts ≡ o → option_or (option_map suc o) (if t == task then Some 0 else None) ≡ Some i → ((j : ℕ) → last_place task ts ≡ Some j → j < length ts) → i < suc (length ts)
    here None is e rest = let zero_is = first (t == task) e in omega arith
    here (Some j) is e rest =
        let z : Some (suc j) ≡ Some i = e in
        let place : suc j ≡ i = cc in
        let low = rest j is in
        omega arith

pub place_small : (task : ℕ) (ts : List ℕ) (most : ℕ) (o : Option ℕ) → o ≡ last_place task ts → length ts < most → IfSome o (λ p. p < most)
place_small task ts most None is long = tt
place_small task ts most (Some i) is long = let low = place_within task ts i (sym is) in omega arith

-- ---- of rows

-- where a task has a last place, its last row stands there
pub last_there : (task : ℕ) (rows : List Row) (o : Option ℕ) → last_place task (tasks_of rows) ≡ o → MatchOption o (last_of task rows ≡ None) (λ i. (row : Row) × (slice_get rows i ≡ Some row) × (last_of task rows ≡ Some row) × (row.task.0 ≡ task))
last_there task [] o is = rw (← is) refl
last_there task (r ∷ rows) o is = at (last_place task (tasks_of rows)) refl (last_there task rows (last_place task (tasks_of rows)) refl)
  where
    M : Option ℕ → Type 0
    M p = MatchOption p (last_of task (r ∷ rows) ≡ None) (λ i. (row : Row) × (slice_get (r ∷ rows) i ≡ Some row) × (last_of task (r ∷ rows) ≡ Some row) × (row.task.0 ≡ task))

    here : (b : Bool) → (r.task.0 == task) ≡ b → last_place task (tasks_of rows) ≡ None → last_of task rows ≡ None → M (if r.task.0 == task then Some 0 else None)
    here true e none no_row = let same : r.task.0 ≡ task = grind (arith, nat_tests, e) in rw (e, no_row) (r, refl, refl, same)
    here false e none no_row = rw (e, no_row) refl

    at : (p : Option ℕ) → last_place task (tasks_of rows) ≡ p → MatchOption p (last_of task rows ≡ None) (λ i. (row : Row) × (slice_get rows i ≡ Some row) × (last_of task rows ≡ Some row) × (row.task.0 ≡ task)) → M o
    at None e m = subst M (sym (ap (λ q. option_or (option_map suc q) (if r.task.0 == task then Some 0 else None)) e) ∙ is) (here (r.task.0 == task) refl e m)
    at (Some i) e m = subst M (sym (ap (λ q. option_or (option_map suc q) (if r.task.0 == task then Some 0 else None)) e) ∙ is) (m.0, m.1, ap (λ q. option_or q (if r.task.0 == task then Some r else None)) m.2, m.3)

-- the last row of a task is one of it
pub last_own : (task : ℕ) (rows : List Row) (row : Row) → last_of task rows ≡ Some row → row.task.0 ≡ task
last_own task [] row e = cc
last_own task (r ∷ rows) row e = at (last_of task rows) refl e (λ is. last_own task rows row is)
  where
    first : (b : Bool) → (r.task.0 == task) ≡ b → (if b then Some r else None) ≡ Some row → row.task.0 ≡ task
    first true own e =
        let this : r ≡ row = cc in
        let same : r.task.0 ≡ task = grind (arith, nat_tests, own) in
        ap (λ (q : Row). q.task.0) (sym this) ∙ same
    first false own e = cc

    at : (o : Option Row) → last_of task rows ≡ o → option_or o (if r.task.0 == task then Some r else None) ≡ Some row → (last_of task rows ≡ Some row → row.task.0 ≡ task) → row.task.0 ≡ task
    at None is e rest = first (r.task.0 == task) refl e
    at (Some q) is e rest = rest (is ∙ e)

-- ---- one row after another

pub place_more : (task : ℕ) (rows : List Row) (i : ℕ) (d : Row) (o : Option ℕ) (b : Bool) → i < length rows → o ≡ last_place task (tasks_of (take i rows)) → ((get_or rows i d).task.0 == task) ≡ b → (if b then Some i else o) ≡ last_place task (tasks_of (take (i + 1) rows))
place_more task rows i d o b within is test =
    let row = get_or rows i d in
    let more : take (i + 1) rows ≡ take i rows ++ row ∷ [] = take_more rows i d within in
    let long : length (tasks_of (take i rows)) ≡ i = tasks_count (take i rows) ∙ length-take-le i rows (omega arith) in
    sym (
    ap (λ (l : List Row). last_place task (tasks_of l)) more
    ∙ ap (λ l. last_place task l) (map_push (λ (r : Row). r.task.0) (take i rows) row)
    ∙ last_push task (tasks_of (take i rows)) row.task.0
    ∙ ap (λ (c : Bool). cond c (Some (length (tasks_of (take i rows)))) (last_place task (tasks_of (take i rows)))) test
    ∙ ap (λ n. cond b (Some n) (last_place task (tasks_of (take i rows)))) long
    ∙ ap (λ (q : Option ℕ). cond b (Some i) q) (sym is))
  where
    tasks_count : (rows : List Row) → length (tasks_of rows) ≡ length rows
    tasks_count [] = refl
    tasks_count (r ∷ rows) = ap (λ n. suc n) (tasks_count rows)

-- ---- another row of the same task

pub map_set : {A B : Type 0} (f : A → B) (xs : List A) (i : ℕ) (x : A) → map f (slice_set xs i x) ≡ slice_set (map f xs) i (f x)
map_set f [] i x = refl
map_set f (y ∷ xs) zero x = refl
map_set f (y ∷ xs) (suc i) x = ap (λ l. f y ∷ l) (map_set f xs i x)

pub set_same : {A : Type 0} (xs : List A) (i : ℕ) (x : A) → slice_get xs i ≡ Some x → slice_set xs i x ≡ xs
set_same [] i x e = refl
set_same (y ∷ xs) zero x e = let same : y ≡ x = cc in ap (λ z. z ∷ xs) (sym same)
set_same (y ∷ xs) (suc i) x e = ap (λ l. y ∷ l) (set_same xs i x e)

pub get_map : {A B : Type 0} (f : A → B) (xs : List A) (i : ℕ) → slice_get (map f xs) i ≡ option_map f (slice_get xs i)
get_map f [] i = refl
get_map f (x ∷ xs) zero = refl
get_map f (x ∷ xs) (suc i) = get_map f xs i

pub there_within : (rows : List Row) (i task : ℕ) → option_map (λ r. r.task.0) (slice_get rows i) ≡ Some task → i < length rows
there_within [] i task e = cc
there_within (r ∷ rows) zero task e = omega arith
there_within (r ∷ rows) (suc i) task e = let low = there_within rows i task e in omega arith

pub tasks_set : (rows : List Row) (i : ℕ) (row : Row) → option_map (λ r. r.task.0) (slice_get rows i) ≡ Some row.task.0 → tasks_of (slice_set rows i row) ≡ tasks_of rows
tasks_set rows i row same = map_set (λ (r : Row). r.task.0) rows i row ∙ set_same (tasks_of rows) i row.task.0 (get_map (λ (r : Row). r.task.0) rows i ∙ same)

-- ---- behind the first few

pub drop_push : (rows : List Row) (n : ℕ) (row : Row) → n ≤ length rows → drop n (rows ++ row ∷ []) ≡ drop n rows ++ row ∷ []
drop_push [] zero row low = refl
drop_push [] (suc n) row low = absurd (omega arith)
drop_push (r ∷ rows) zero row low = refl
drop_push (r ∷ rows) (suc n) row low = drop_push rows n row (omega arith)

pub drop_all : (rows : List Row) (n : ℕ) → length rows ≤ n → drop n rows ≡ []
drop_all [] zero low = refl
drop_all [] (suc n) low = refl
drop_all (r ∷ rows) zero low = absurd (omega arith)
drop_all (r ∷ rows) (suc n) low = drop_all rows n (omega arith)

-- with one more row, the tasks behind the first few have one more, where these are full
pub more_tasks : (rows : List Row) (row : Row) → 4 ≤ length rows → tasks_of (drop 4 rows) ++ row.task.0 ∷ [] ≡ tasks_of (drop 4 (rows ++ row ∷ []))
more_tasks rows row full = sym (ap (λ (l : List Row). tasks_of l) (drop_push rows 4 row full) ∙ map_push (λ (r : Row). r.task.0) (drop 4 rows) row)

pub no_tasks : (rows : List Row) (row : Row) → length rows < 4 → tasks_of (drop 4 rows) ≡ tasks_of (drop 4 (rows ++ row ∷ []))
no_tasks rows row few =
    let long = length-append rows (row ∷ []) in
    ap (λ (l : List Row). tasks_of l) (drop_all rows 4 (omega arith) ∙ sym (drop_all (rows ++ row ∷ []) 4 (omega arith)))

tasks_drop : (rows : List Row) (n : ℕ) → tasks_of (drop n rows) ≡ drop n (tasks_of rows)
tasks_drop [] zero = refl
tasks_drop [] (suc n) = refl
tasks_drop (r ∷ rows) zero = refl
tasks_drop (r ∷ rows) (suc n) = tasks_drop rows n

pub drop_set : (rows : List Row) (n i : ℕ) (row : Row) → option_map (λ r. r.task.0) (slice_get rows i) ≡ Some row.task.0 → tasks_of (drop n (slice_set rows i row)) ≡ tasks_of (drop n rows)
drop_set rows n i row same = tasks_drop (slice_set rows i row) n ∙ ap (λ l. drop n l) (tasks_set rows i row same) ∙ sym (tasks_drop rows n)

-- ---- one row less

-- a list with one more says both
pub snoc_same : {A : Type 0} (xs ys : List A) (x y : A) → xs ++ x ∷ [] ≡ ys ++ y ∷ [] → (xs ≡ ys) × (x ≡ y)
snoc_same [] [] x y e = (refl, cc)
snoc_same [] (b ∷ ys) x y e = absurd (let long = ap (λ l. length l) e in let more = length-append ys (y ∷ []) in omega arith)
snoc_same (a ∷ xs) [] x y e = absurd (let long = ap (λ l. length l) e in let more = length-append xs (x ∷ []) in omega arith)
snoc_same (a ∷ xs) (b ∷ ys) x y e =
    let first : a ≡ b = cc in
    let rest : xs ++ x ∷ [] ≡ ys ++ y ∷ [] = cc in
    let both = snoc_same xs ys x y rest in
    (ap (λ z. z ∷ xs) first ∙ ap (λ l. b ∷ l) both.0, both.1)

-- what is left of the tasks behind the first few
pub popped_tasks : (front : List Row) (row : Row) (rows : List Row) → rows ≡ front ++ row ∷ [] → (others : List ℕ) → others ≡ tasks_of (drop 4 rows) → (o : Option TaskId) (left : List ℕ) → MatchOption o ((others ≡ []) × (left ≡ [])) (λ t. others ≡ left ++ t.0 ∷ []) → left ≡ tasks_of (drop 4 front)
popped_tasks front row rows is others kept o left told = elim (cases_lt (length front) 4) [ inl few ↦ here_few few o told | inr more ↦ here_more more o told ]
  where
    kept_is : others ≡ tasks_of (drop 4 (front ++ row ∷ []))
    kept_is = kept ∙ ap (λ (l : List Row). tasks_of (drop 4 l)) is

    none : length front < 4 → others ≡ []
    none few =
        let long = length-append front (row ∷ []) in
        kept_is ∙ ap (λ (l : List Row). tasks_of l) (drop_all (front ++ row ∷ []) 4 (omega arith))

    here_few : length front < 4 → (o : Option TaskId) → MatchOption o ((others ≡ []) × (left ≡ [])) (λ t. others ≡ left ++ t.0 ∷ []) → left ≡ tasks_of (drop 4 front)
    here_few few None told = told.1 ∙ sym (ap (λ (l : List Row). tasks_of l) (drop_all front 4 (omega arith)))
    here_few few (Some t) told =
        let long = ap (λ l. length l) (sym (none few) ∙ told) in
        let more = length-append left (t.0 ∷ []) in
        absurd (omega arith)

    some : 4 ≤ length front → others ≡ tasks_of (drop 4 front) ++ row.task.0 ∷ []
    some more = kept_is ∙ ap (λ (l : List Row). tasks_of l) (drop_push front 4 row more) ∙ map_push (λ (r : Row). r.task.0) (drop 4 front) row

    here_more : 4 ≤ length front → (o : Option TaskId) → MatchOption o ((others ≡ []) × (left ≡ [])) (λ t. others ≡ left ++ t.0 ∷ []) → left ≡ tasks_of (drop 4 front)
    here_more more None told =
        let long = ap (λ l. length l) (sym told.0 ∙ some more) in
        let one = length-append (tasks_of (drop 4 front)) (row.task.0 ∷ []) in
        absurd (omega arith)
    here_more more (Some t) told = (snoc_same left (tasks_of (drop 4 front)) t.0 row.task.0 (sym told ∙ some more)).0

-- ---- the last row, and the tasks behind the highest

-- a task whose row stands last has its last place there
pub last_put : (rows : List Row) (i task : ℕ) → i + 1 ≡ length rows → option_map (λ r. r.task.0) (slice_get rows i) ≡ Some task → last_place task (tasks_of rows) ≡ Some i
last_put [] i task long at = cc
last_put (r ∷ []) zero task long at =
    let same : r.task.0 ≡ task = cc in
    let own : (r.task.0 == task) ≡ true = grind (arith, nat_tests, same) in
    rw own refl
last_put (r ∷ []) (suc i) task long at = absurd (omega arith)
last_put (r ∷ s ∷ rows) zero task long at = absurd (omega arith)
last_put (r ∷ s ∷ rows) (suc i) task long at =
    let rest = last_put (s ∷ rows) i task (omega arith) at in
    ap (λ (o : Option ℕ). option_or (option_map suc o) (if r.task.0 == task then Some 0 else None)) rest

-- none of these tasks is behind this one
abbrev pub NoneBehind : ℕ → List ℕ → Type 0
NoneBehind highest tasks = (task : ℕ) → highest < task → last_place task tasks ≡ None

pub none_of_more : (highest more : ℕ) (rows : List Row) (row : Row) → highest ≤ more → row.task.0 ≤ more → NoneBehind highest (tasks_of rows) → NoneBehind more (tasks_of (rows ++ row ∷ []))
none_of_more highest more rows row low own none task behind =
    let other : (row.task.0 == task) ≡ false = grind (arith, nat_tests, own, behind) in
    ap (λ l. last_place task l) (map_push (λ (r : Row). r.task.0) rows row)
    ∙ last_push task (tasks_of rows) row.task.0
    ∙ ap (λ (b : Bool). cond b (Some (length (tasks_of rows))) (last_place task (tasks_of rows))) other
    ∙ none task (omega arith)

pub none_of_other : (highest : ℕ) (rows : List Row) (i : ℕ) (row : Row) → option_map (λ r. r.task.0) (slice_get rows i) ≡ Some row.task.0 → NoneBehind highest (tasks_of rows) → NoneBehind highest (tasks_of (slice_set rows i row))
none_of_other highest rows i row same none task behind = ap (λ l. last_place task l) (tasks_set rows i row same) ∙ none task behind

pub none_of_fewer : (highest : ℕ) (front : List Row) (row : Row) (rows : List Row) → rows ≡ front ++ row ∷ [] → NoneBehind highest (tasks_of rows) → NoneBehind highest (tasks_of front)
none_of_fewer highest front row rows is none task behind =
    at (row.task.0 == task) (last_place task (tasks_of front))
    (sym (
    ap (λ (l : List Row). last_place task (tasks_of l)) is
    ∙ ap (λ l. last_place task l) (map_push (λ (r : Row). r.task.0) front row)
    ∙ last_push task (tasks_of front) row.task.0)
    ∙ none task behind)
  where
    at : (b : Bool) (o : Option ℕ) → cond b (Some (length (tasks_of front))) o ≡ None → o ≡ None
    at true o e = cc
    at false o e = e
