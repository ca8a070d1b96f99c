-- Which tasks stand in a list, and that these determine it.
use Rattle.std.proofs.Common.{◌≡◌, ℕ, ◌≤◌, ◌==◌, ◌&&◌, ◌||◌, Bool, true, false, List, [], ◌∷◌, ◌++◌, filter, Ordering, Less, Equal, Greater, refl, sym, ap, ◌∙◌, inl, inr, arith, eq-eqb}
use Rattle.std.specs.List.{AllByRecursion}
use Rattle.std.specs.Ordering.{is_gt, is_lt, nat_cmp}
use Rattle.std.proofs.lemmas.Bool.{cases_eq, cases_lt, eqb-true}
use Rattle.ht_base.specs.declared.task_id.TaskId.{TaskId}
use Rattle.ht_index.specs.Indexes.{Ascends, has, with_task, without_task}
use Rattle.ht_index.proofs.Places.{apart, exact, leaves, less, stays}

or_true : (b : Bool) → (b || true) ≡ true
or_true true = refl
or_true false = refl

pub has_append : (n : ℕ) (xs ys : List TaskId) → has n (xs ++ ys) ≡ (has n xs || has n ys)
has_append n [] ys = refl
has_append n (x ∷ xs) ys = ap (λ b. (x.0 == n) || b) (has_append n xs ys) ∙ turn (x.0 == n) (has n xs) (has n ys)
  where
    turn : (a b c : Bool) → (a || (b || c)) ≡ ((a || b) || c)
    turn true b c = refl
    turn false b c = refl

has_first : (n : ℕ) (x : TaskId) (xs : List TaskId) → x.0 ≡ n → has n (x ∷ xs) ≡ true
has_first n x xs e = rw (eq-eqb x.0 n e) refl

has_rest : (n : ℕ) (x : TaskId) (xs : List TaskId) → (x.0 ≡ n → ⊥) → has n (x ∷ xs) ≡ has n xs
has_rest n x xs other = rw (apart x.0 n other) refl

-- ---- without one

pub without_it : (task : TaskId) (xs : List TaskId) → has task.0 (without_task task xs) ≡ false
without_it task [] = refl
without_it task (x ∷ xs) = elim (cases_eq x.0 task.0) [
  | inl e ↦ ap (has task.0) (leaves task x xs e) ∙ without_it task xs
  | inr other ↦ ap (has task.0) (stays task x xs other) ∙ has_rest task.0 x (without_task task xs) other ∙ without_it task xs
]

pub without_other : (n : ℕ) (task : TaskId) (xs : List TaskId) → (task.0 ≡ n → ⊥) → has n (without_task task xs) ≡ has n xs
without_other n task [] other = refl
without_other n task (x ∷ xs) other = elim (cases_eq x.0 task.0) [
  | inl e ↦ ap (has n) (leaves task x xs e) ∙ without_other n task xs other ∙ sym (has_rest n x xs (λ f. other (sym e ∙ f)))
  | inr differs ↦ ap (has n) (stays task x xs differs) ∙ ap (λ b. (x.0 == n) || b) (without_other n task xs other)
]

-- ---- with one

pub with_it : (task : TaskId) (xs : List TaskId) → has task.0 (with_task task xs) ≡ true
with_it task xs =
    let front = filter (λ (t : TaskId). is_lt (nat_cmp t.0 task.0)) xs in
    let behind = filter (λ (t : TaskId). is_gt (nat_cmp t.0 task.0)) xs in
    has_append task.0 front (task ∷ behind) ∙ ap (λ b. has task.0 front || b) (has_first task.0 task behind refl) ∙ or_true (has task.0 front)

-- the others are those in front of its place and behind it
module _ (n : ℕ) (task : TaskId) (other : task.0 ≡ n → ⊥) where
  parted : (xs : List TaskId) → (has n (filter (λ t. is_lt (nat_cmp t.0 task.0)) xs) || has n (filter (λ t. is_gt (nat_cmp t.0 task.0)) xs)) ≡ has n xs
  parted [] = refl
  parted (x ∷ xs) = at (nat_cmp x.0 task.0) refl (parted xs)
    where
      front : List TaskId
      front = filter (λ t. is_lt (nat_cmp t.0 task.0)) xs

      behind : List TaskId
      behind = filter (λ t. is_gt (nat_cmp t.0 task.0)) xs

      before : (a b c d : Bool) → (b || c) ≡ d → ((a || b) || c) ≡ (a || d)
      before true b c d e = refl
      before false b c d e = e

      after : (a b c d : Bool) → (b || c) ≡ d → (b || (a || c)) ≡ (a || d)
      after true b c d e = or_true b
      after false b c d e = e

      at : (o : Ordering) → nat_cmp x.0 task.0 ≡ o → (has n front || has n behind) ≡ has n xs → (has n (filter (λ t. is_lt (nat_cmp t.0 task.0)) (x ∷ xs)) || has n (filter (λ t. is_gt (nat_cmp t.0 task.0)) (x ∷ xs))) ≡ has n (x ∷ xs)
      at Less is rest = rw is (before (x.0 == n) (has n front) (has n behind) (has n xs) rest)
      at Equal is rest = let e = exact x.0 task.0 is in rw is (rest ∙ sym (has_rest n x xs (λ f. other (sym e ∙ f))))
      at Greater is rest = rw is (after (x.0 == n) (has n front) (has n behind) (has n xs) rest)

  pub with_other : (xs : List TaskId) → has n (with_task task xs) ≡ has n xs
  with_other xs =
      let front = filter (λ (t : TaskId). is_lt (nat_cmp t.0 task.0)) xs in
      let behind = filter (λ (t : TaskId). is_gt (nat_cmp t.0 task.0)) xs in
      has_append n front (task ∷ behind) ∙ ap (λ b. has n front || b) (has_rest n task behind other) ∙ parted xs

-- ---- one list of them

none_lower : (n : ℕ) (x : TaskId) (xs : List TaskId) → AllByRecursion (λ y. nat_cmp x.0 y.0 ≡ Less) xs → n ≤ x.0 → has n xs ≡ false
none_lower n x [] a low = refl
none_lower n x (y ∷ ys) a low = let l = less x.0 y.0 a.0 in has_rest n y ys (λ e. omega arith) ∙ none_lower n x ys a.1 low

-- the first is no higher
not_higher : (x y : TaskId) (xs ys : List TaskId) → Ascends (y ∷ ys) → ((n : ℕ) → has n (x ∷ xs) ≡ has n (y ∷ ys)) → y.0 ≤ x.0
not_higher x y xs ys up same = elim (cases_lt x.0 y.0) [
  | inl l ↦
      let here : true ≡ has x.0 (y ∷ ys) = sym (has_first x.0 x xs refl) ∙ same x.0 in
      let gone : has x.0 (y ∷ ys) ≡ false = has_rest x.0 y ys (λ e. omega arith) ∙ none_lower x.0 y ys up.0 (omega arith) in
      let no : true ≡ false = here ∙ gone in
      absurd cc
  | inr l ↦ l
]

pub one_list : (xs ys : List TaskId) → Ascends xs → Ascends ys → ((n : ℕ) → has n xs ≡ has n ys) → xs ≡ ys
one_list [] [] up also same = refl
one_list [] (y ∷ ys) up also same = let no : false ≡ true = same y.0 ∙ has_first y.0 y ys refl in absurd cc
one_list (x ∷ xs) [] up also same = let no : true ≡ false = sym (has_first x.0 x xs refl) ∙ same x.0 in absurd cc
one_list (x ∷ xs) (y ∷ ys) up also same =
    let a = not_higher x y xs ys also same in
    let b = not_higher y x ys xs up (λ n. sym (same n)) in
    let e : x.0 ≡ y.0 = omega arith in
    let s : x ≡ y = ap (λ m. record { 0 = m }) e in
    ap (λ t. t ∷ xs) s ∙ ap (λ l. y ∷ l) (one_list xs ys up.1 also.1 (rest e))
  where
    rest : x.0 ≡ y.0 → (n : ℕ) → has n xs ≡ has n ys
    rest e n = elim (cases_eq x.0 n) [
      | inl f ↦ none_lower n x xs up.0 (omega arith) ∙ sym (none_lower n y ys also.0 (omega arith))
      | inr other ↦ sym (has_rest n x xs other) ∙ same n ∙ has_rest n y ys (λ f. other (e ∙ f))
    ]

-- ---- once a task came to them

pub has_with : (n : ℕ) (task : TaskId) (xs : List TaskId) → has n (with_task task xs) ≡ ((task.0 == n) || has n xs)
has_with n task xs = elim (cases_eq task.0 n) [
  | inl e ↦ ap (λ k. has k (with_task task xs)) (sym e) ∙ with_it task xs ∙ sym (ap (λ b. b || has n xs) (eq-eqb task.0 n e))
  | inr other ↦ with_other n task other xs ∙ sym (ap (λ b. b || has n xs) (apart task.0 n other))
]

-- ---- without the last

pub front_ascends : (xs : List TaskId) (task : TaskId) → Ascends (xs ++ task ∷ []) → Ascends xs
front_ascends [] task up = tt
front_ascends (x ∷ xs) task up = (front_less x xs up.0, front_ascends xs task up.1)
  where
    front_less : (x : TaskId) (ys : List TaskId) → AllByRecursion (λ y. nat_cmp x.0 y.0 ≡ Less) (ys ++ task ∷ []) → AllByRecursion (λ y. nat_cmp x.0 y.0 ≡ Less) ys
    front_less x [] a = tt
    front_less x (y ∷ ys) a = (a.0, front_less x ys a.1)

-- which isn't among the others
pub last_once : (xs : List TaskId) (task : TaskId) → Ascends (xs ++ task ∷ []) → has task.0 xs ≡ false
last_once [] task up = refl
last_once (x ∷ xs) task up = let l = less x.0 task.0 (at_last xs up.0) in has_rest task.0 x xs (λ e. omega arith) ∙ last_once xs task up.1
  where
    at_last : (ys : List TaskId) → AllByRecursion (λ y. nat_cmp x.0 y.0 ≡ Less) (ys ++ task ∷ []) → nat_cmp x.0 task.0 ≡ Less
    at_last [] a = a.0
    at_last (y ∷ ys) a = at_last ys a.1

-- ---- those that pass

pub has_filter : (test : TaskId → Bool) (n : ℕ) (xs : List TaskId) → has n (filter test xs) ≡ (has n xs && test (record { 0 = n }))
has_filter test n [] = refl
has_filter test n (x ∷ xs) = at (test x) refl (has_filter test n xs)
  where
    here : (b : Bool) → test x ≡ b → (c : Bool) → (x.0 == n) ≡ c → has n (filter test xs) ≡ (has n xs && test (record { 0 = n })) → has n (filter test (x ∷ xs)) ≡ ((c || has n xs) && test (record { 0 = n }))
    here true e true f rest =
        let same : x ≡ record { 0 = n } = ap (λ m. record { 0 = m }) (eqb-true x.0 n f) in
        rw (e, f) (sym (ap test (sym same) ∙ e))
    here true e false f rest = rw (e, f) rest
    here false e true f rest =
        let same : x ≡ record { 0 = n } = ap (λ m. record { 0 = m }) (eqb-true x.0 n f) in
        let no : test (record { 0 = n }) ≡ false = ap test (sym same) ∙ e in
        rw e (rest ∙ rw no (never (has n xs)))
      where
        never : (b : Bool) → (b && false) ≡ false
        never true = refl
        never false = refl
    here false e false f rest = rw e rest

    at : (b : Bool) → test x ≡ b → has n (filter test xs) ≡ (has n xs && test (record { 0 = n })) → has n (filter test (x ∷ xs)) ≡ (has n (x ∷ xs) && test (record { 0 = n }))
    at b e rest = here b e (x.0 == n) refl rest

pub filter_ascends : (test : TaskId → Bool) (xs : List TaskId) → Ascends xs → Ascends (filter test xs)
filter_ascends test [] up = tt
filter_ascends test (x ∷ xs) up = at (test x) refl (filter_ascends test xs up.1)
  where
    kept : (ys : List TaskId) → AllByRecursion (λ y. nat_cmp x.0 y.0 ≡ Less) ys → AllByRecursion (λ y. nat_cmp x.0 y.0 ≡ Less) (filter test ys)
    kept [] a = tt
    kept (y ∷ ys) a = go (test y) refl (kept ys a.1)
      where
        go : (b : Bool) → test y ≡ b → AllByRecursion (λ z. nat_cmp x.0 z.0 ≡ Less) (filter test ys) → AllByRecursion (λ z. nat_cmp x.0 z.0 ≡ Less) (filter test (y ∷ ys))
        go true e rest = rw e (a.0, rest)
        go false e rest = rw e rest

    at : (b : Bool) → test x ≡ b → Ascends (filter test xs) → Ascends (filter test (x ∷ xs))
    at true e rest = rw e (kept xs up.0, rest)
    at false e rest = rw e rest
