-- The tasks of a tree: the task itself and those of the trees of its sub tasks.
use Rattle.std.proofs.Common.{◌≡◌, ℕ, zero, suc, ◌==◌, ◌<◌, ◌≤◌, ◌||◌, Bool, true, false, List, [], ◌∷◌, ◌++◌, get_or, length, Option, Some, None, ◌⊎◌, inl, inr, refl, sym, ap, ◌∙◌, subst, eq-eqb, arith}
use Rattle.std.proofs.lemmas.Bool.{eqb-true}
use Rattle.std.proofs.lemmas.List.Folds.{list_any-append}
use Rattle.std.specs.List.{list_any}
use Rattle.std.specs.Option.{option_and_then, option_map_or}
use Rattle.ht_base.specs.declared.task_id.TaskId.{TaskId}
use Rattle.ht_compose.specs.Families.{Above, is_above}
use Rattle.ht_compose.specs.Families.Above.{direct, further}
use Rattle.ht_compose.specs.Reaching.{IsTask}
use Rattle.ht_compose.specs.Trees.{AddsTree, in_tree, is_of_tree, tree_ids}
use Rattle.ht_compose.proofs.ChainsAbove.{above_is_a_chain, parent_lower}
use Rattle.ht_index.specs.Indexes.{Ascends, has, with_task}
use Rattle.ht_index.proofs.PublicLaws.{has_with, one_list}
use Rattle.ht_tree.specs.declared.row.Row.{Row}
use Rattle.ht_tree.specs.Families.{is_sub_of, parent_at}
use Rattle.ht_tree.specs.ListedBy.{sub_ids}
use Rattle.ht_tree.specs.Rows.{row_at}
use Rattle.ht_tree.specs.Soundness.{IsSound}
use Rattle.ht_tree.specs.Tables.{TablesOf}
use Rattle.ht_tree.proofs.PublicLaws.{has_ids, ids_ascend, within}

both_ways : (a b : Bool) → (a ≡ true → b ≡ true) → (b ≡ true → a ≡ true) → a ≡ b
both_ways true b f g = sym (f refl)
both_ways false true f g = g refl
both_ways false false f g = refl

either : (a b : Bool) → (a || b) ≡ true → (a ≡ true) ⊎ (b ≡ true)
either true b e = inl refl
either false b e = inr e

left : (a b : Bool) → a ≡ true → (a || b) ≡ true
left a b e = ap (λ c. c || b) e

right : (a b : Bool) → b ≡ true → (a || b) ≡ true
right true b e = refl
right false b e = e

-- ---- what is so of some task of a list

some_of : (test : ℕ → Bool) (xs : List TaskId) → list_any (λ s. test s.0) xs ≡ true → (n : ℕ) × (has n xs ≡ true) × (test n ≡ true)
some_of test [] e = absurd cc
some_of test (x ∷ xs) e = elim (either (test x.0) (list_any (λ (s : TaskId). test s.0) xs) e) [
  | inl here ↦ (x.0, left (x.0 == x.0) (has x.0 xs) (eq-eqb x.0 x.0 refl), here)
  | inr more ↦ let w = some_of test xs more in (w.0, right (x.0 == w.0) (has w.0 xs) w.1, w.2)
]

any_of : (test : ℕ → Bool) (xs : List TaskId) (n : ℕ) → has n xs ≡ true → test n ≡ true → list_any (λ s. test s.0) xs ≡ true
any_of test [] n there e = absurd cc
any_of test (x ∷ xs) n there e = elim (either (x.0 == n) (has n xs) there) [
  | inl here ↦ left (test x.0) (list_any (λ (s : TaskId). test s.0) xs) (ap test (eqb-true x.0 n here) ∙ e)
  | inr more ↦ right (test x.0) (list_any (λ (s : TaskId). test s.0) xs) (any_of test xs n more e)
]

-- ---- chains of parents begin at a sub task of the one that is above

record Under (rows : List Row) (task k : ℕ) : Type 0 where
  sub : ℕ
  entry : ℕ
  parent : parent_at sub rows ≡ Some (record { 0 = task }, entry)
  reaches : (sub ≡ k) ⊎ Above rows sub k

ends_at : (rows : List Row) (task k : ℕ) → Above rows task k → Under rows task k
ends_at rows task k (direct {entry = entry} e) = record { sub = k; entry = entry; parent = e; reaches = inl refl }
ends_at rows task k (further {between = between} {entry = entry} e up) =
    let w = ends_at rows task between up in
    record {
      sub = w.sub;
      entry = w.entry;
      parent = w.parent;
      reaches = elim w.reaches [
        | inl same ↦ inr (let P : ℕ → Type 0 = λ s. Above rows s k in subst P (sym same) (direct e))
        | inr below ↦ inr (further e below)
      ];
    }

joined : (rows : List Row) (task sub k entry : ℕ) → parent_at sub rows ≡ Some (record { 0 = task }, entry) → Above rows sub k → Above rows task k
joined rows task sub k entry p (direct e) = further e (direct p)
joined rows task sub k entry p (further {between = between} e up) = further e (joined rows task sub between entry p up)

-- ---- sub tasks by their parents

parent_of : (rows : List Row) (task sub : ℕ) → option_map_or (is_sub_of task) (row_at sub rows) false ≡ true → (entry : ℕ) × (parent_at sub rows ≡ Some (record { 0 = task }, entry))
parent_of rows task sub is = at (row_at sub rows) refl is
  where
    by_parent : (r : Row) (o : Option (TaskId × ℕ)) → r.parent ≡ o → option_map_or (λ p. p.0.0 == task) o false ≡ true → (entry : ℕ) × (r.parent ≡ Some (record { 0 = task }, entry))
    by_parent r None e is = absurd cc
    by_parent r (Some p) e is = (p.1, e ∙ ap (λ (n : ℕ). Some (record { 0 = n }, p.1)) (eqb-true p.0.0 task is))

    at : (o : Option Row) → row_at sub rows ≡ o → option_map_or (is_sub_of task) o false ≡ true → (entry : ℕ) × (option_and_then (λ (r : Row). r.parent) (row_at sub rows) ≡ Some (record { 0 = task }, entry))
    at None e is = absurd cc
    at (Some r) e is =
        let w = by_parent r r.parent refl is in
        (w.0, ap (λ (o : Option Row). option_and_then (λ (r : Row). r.parent) o) e ∙ w.1)

is_sub : (rows : List Row) (task sub entry : ℕ) → parent_at sub rows ≡ Some (record { 0 = task }, entry) → option_map_or (is_sub_of task) (row_at sub rows) false ≡ true
is_sub rows task sub entry p = at (row_at sub rows) refl p
  where
    at : (o : Option Row) → row_at sub rows ≡ o → option_and_then (λ (r : Row). r.parent) o ≡ Some (record { 0 = task }, entry) → option_map_or (is_sub_of task) o false ≡ true
    at None e p = absurd cc
    at (Some r) e p = ap (λ (o : Option (TaskId × ℕ)). option_map_or (λ p. p.0.0 == task) o false) p ∙ eq-eqb task task refl

-- ---- the tasks of a tree

-- a task is in one of the trees of these
abbrev pub in_trees : List Row → List TaskId → ℕ → Bool
in_trees rows subs id = list_any (λ s. in_tree rows s.0 id) subs

-- the task is put, and the trees of these sub tasks
pub record AddsSome (rows : List Row) (task : ℕ) (old new subs : List TaskId) : Type 0 where
  pub ascends : Ascends new
  pub listed : (id : ℕ) → has id new ≡ (has id old || ((task == id) || in_trees rows subs id))

module _ (u : TablesOf) (sound : IsSound u) where
  -- the task of a number is in a tree
  record Stands (task id : ℕ) : Type 0 where
    row : Row
    there : row_at id u.rows ≡ Some row
    how : (id ≡ task) ⊎ Above u.rows task id

  of_tree : (task id : ℕ) → in_tree u.rows task id ≡ true → Stands task id
  of_tree task id is = at (row_at id u.rows) refl is
    where
      at : (o : Option Row) → row_at id u.rows ≡ o → option_map_or (is_of_tree u.rows task) o false ≡ true → Stands task id
      at None e is = absurd cc
      at (Some r) e is = record {
        row = r;
        there = e;
        how = elim (either (r.task.0 == task) (is_above u.rows task r) is) [
          | inl here ↦ inl (sym (sound.numbered id r e) ∙ eqb-true r.task.0 task here)
          | inr below ↦ inr ((above_is_a_chain u sound task id r e).0 below)
        ];
      }

  in_it : (task id : ℕ) → Stands task id → in_tree u.rows task id ≡ true
  in_it task id s =
      let r = s.row in
      ap (λ (o : Option Row). option_map_or (is_of_tree u.rows task) o false) s.there ∙ elim s.how [
        | inl here ↦ left (r.task.0 == task) (is_above u.rows task r) (eq-eqb r.task.0 task (sound.numbered id r s.there ∙ here))
        | inr below ↦ right (r.task.0 == task) (is_above u.rows task r) ((above_is_a_chain u sound task id r s.there).1 below)
      ]

  sub_known : (task sub : ℕ) → has sub (sub_ids task u.rows) ≡ option_map_or (is_sub_of task) (row_at sub u.rows) false
  sub_known task sub = has_ids (is_sub_of task) u.rows sub sound.numbered

  -- it is in the tree exactly where it is the task, or in the tree of a sub task
  by_subs : (task : ℕ) → IsTask u task → (id : ℕ) → ((task == id) || in_trees u.rows (sub_ids task u.rows) id) ≡ in_tree u.rows task id
  by_subs task is id = both_ways ((task == id) || in_trees u.rows (sub_ids task u.rows) id) (in_tree u.rows task id)
      (λ e. elim (either (task == id) (in_trees u.rows (sub_ids task u.rows) id) e) [
        | inl here ↦ let same : id ≡ task = sym (eqb-true task id here) in in_it task id (record { row = is.row; there = ap (λ (n : ℕ). row_at n u.rows) same ∙ is.there; how = inl same })
        | inr below ↦ up (some_of (λ n. in_tree u.rows n id) (sub_ids task u.rows) below)
      ])
      (λ e. down (of_tree task id e))
    where
      up : (n : ℕ) × (has n (sub_ids task u.rows) ≡ true) × (in_tree u.rows n id ≡ true) → in_tree u.rows task id ≡ true
      up (n, known, inside) =
          let p = parent_of u.rows task n (sym (sub_known task n) ∙ known) in
          let s = of_tree n id inside in
          in_it task id (record {
            row = s.row;
            there = s.there;
            how = elim s.how [
              | inl same ↦ inr (let P : ℕ → Type 0 = λ k. Above u.rows task k in subst P (sym same) (direct p.1))
              | inr below ↦ inr (joined u.rows task n id p.0 p.1 below)
            ];
          })

      down : Stands task id → ((task == id) || in_trees u.rows (sub_ids task u.rows) id) ≡ true
      down s = elim s.how [
        | inl here ↦ left (task == id) (in_trees u.rows (sub_ids task u.rows) id) (eq-eqb task id (sym here))
        | inr below ↦
            let w = ends_at u.rows task id below in
            let known : has w.sub (sub_ids task u.rows) ≡ true = sub_known task w.sub ∙ is_sub u.rows task w.sub w.entry w.parent in
            let inside : in_tree u.rows w.sub id ≡ true = in_it w.sub id (record { row = s.row; there = s.there; how = elim w.reaches [ inl same ↦ inl (sym same) | inr under ↦ inr under ] }) in
            right (task == id) (in_trees u.rows (sub_ids task u.rows) id) (any_of (λ n. in_tree u.rows n id) (sub_ids task u.rows) w.sub known inside)
      ]

  -- ---- as they are put into a list

  pub adds_none : (task : TaskId) (old new : List TaskId) → new ≡ with_task task old → Ascends new → AddsSome u.rows task.0 old new []
  adds_none task old new put up = record {
    ascends = up;
    listed = λ id. ap (has id) put ∙ has_with id task old ∙ turn (task.0 == id) (has id old);
  }
    where
      turn : (a b : Bool) → (a || b) ≡ (b || (a || false))
      turn true true = refl
      turn true false = refl
      turn false true = refl
      turn false false = refl

  pub adds_more : (task : ℕ) (old mid new subs : List TaskId) (sub : TaskId) → AddsSome u.rows task old mid subs → AddsTree u.rows sub.0 mid new → AddsSome u.rows task old new (subs ++ sub ∷ [])
  adds_more task old mid new subs sub before adds = record {
    ascends = adds.ascends;
    listed = λ id.
        adds.listed id
        ∙ ap (λ b. b || in_tree u.rows sub.0 id) (before.listed id)
        ∙ turn (has id old) (task == id) (in_trees u.rows subs id) (in_tree u.rows sub.0 id)
        ∙ ap (λ b. has id old || ((task == id) || b)) (sym (list_any-append (λ (s : TaskId). in_tree u.rows s.0 id) subs (sub ∷ [])));
  }
    where
      turn : (a b c d : Bool) → ((a || (b || c)) || d) ≡ (a || (b || (c || (d || false))))
      turn true b c d = refl
      turn false true c d = refl
      turn false false true d = refl
      turn false false false true = refl
      turn false false false false = refl

  pub adds_all : (task : ℕ) (old new : List TaskId) → IsTask u task → AddsSome u.rows task old new (sub_ids task u.rows) → AddsTree u.rows task old new
  adds_all task old new is adds = record {
    ascends = adds.ascends;
    listed = λ id. adds.listed id ∙ ap (λ b. has id old || b) (by_subs task is id);
  }

  -- a sub task is there
  pub sub_there : (task sub : ℕ) → has sub (sub_ids task u.rows) ≡ true → IsTask u sub
  sub_there task sub known = at (row_at sub u.rows) refl (sym (sub_known task sub) ∙ known)
    where
      at : (o : Option Row) → row_at sub u.rows ≡ o → option_map_or (is_sub_of task) o false ≡ true → IsTask u sub
      at None e is = absurd cc
      at (Some r) e is = record { row = r; there = e; number = sound.numbered sub r e }

  -- and has a greater number
  pub sub_behind : (task sub : ℕ) → has sub (sub_ids task u.rows) ≡ true → (task < sub) × (sub ≤ length u.rows)
  sub_behind task sub known =
      let p = parent_of u.rows task sub (sym (sub_known task sub) ∙ known) in
      let is = sub_there task sub known in
      (parent_lower u sound task sub (record { 0 = task }, p.0) p.1, (within u.rows is.row sub is.there).1)

  -- where there were none they are those of the tree
  pub whole_tree : (task : ℕ) (new : List TaskId) → AddsTree u.rows task [] new → new ≡ tree_ids task u.rows
  whole_tree task new adds =
      let test = is_of_tree u.rows task in
      one_list new (tree_ids task u.rows) adds.ascends (ids_ascend test u.rows sound.numbered) (λ n. adds.listed n ∙ sym (has_ids test u.rows n sound.numbered))

-- one that stands in a list is one of it
pub has_at : (xs : List TaskId) (i : ℕ) (d : TaskId) → i < length xs → has (get_or xs i d).0 xs ≡ true
has_at [] i d low = absurd (omega arith)
has_at (x ∷ xs) zero d low = left (x.0 == x.0) (has x.0 xs) (eq-eqb x.0 x.0 refl)
has_at (x ∷ xs) (suc i) d low = right (x.0 == (get_or xs i d).0) (has (get_or xs i d).0 xs) (has_at xs i d (omega arith))
