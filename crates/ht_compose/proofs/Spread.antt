-- Plans that go over the rows of a tree from the last one on.
use Rattle.std.proofs.Common.{◌≡◌, ℕ, ◌==◌, suc, Bool, true, false, ◌||◌, List, [], ◌∷◌, ◌++◌, Option, Some, None, option_map, refl, sym, ap, ◌∙◌, subst, if◌then◌else◌, eq-eqb, arith}
use Rattle.std.proofs.lemmas.Bool.{eqb-true}
use Rattle.std.specs.Option.{option_map_or}
use Rattle.std.specs.Prelude.{slice_get}
use Rattle.ht_base.specs.declared.task_id.TaskId.{TaskId}
use Rattle.ht_compose.specs.declared.reaching.Reach.{Reach}
use Rattle.ht_compose.specs.declared.reaching.Reach.TheVariants as reach
use Rattle.ht_compose.specs.Families.{is_above}
use Rattle.ht_compose.specs.Reaching.{ReachIsFinal, IsTask, Reaches, all_reached, changes, reached, reached_but}
use Rattle.ht_compose.specs.Trees.{is_of_tree, tree_ids}
use Rattle.ht_compose.proofs.Chains.{leads_alike}
use Rattle.ht_compose.proofs.Reached.{reached_standing}
use Rattle.ht_index.specs.Indexes.{Ascends, has}
use Rattle.ht_index.proofs.PublicLaws.{front_ascends, has_append, last_once}
use Rattle.ht_tree.specs.declared.row.Row.{Row}
use Rattle.ht_tree.specs.Plans.{Goes, IsNext, IsPlanOf, PlanOf, planned}
use Rattle.ht_tree.specs.Rows.{put_in, row_at}
use Rattle.ht_tree.specs.Soundness.{IsSound}
use Rattle.ht_tree.specs.Tables.{TablesOf, task_row, with_row, with_rows}
use Rattle.ht_tree.proofs.PublicLaws.{Alike, goes_then, has_ids, ids_ascend, map_alike, row_at-map, row_at-put_in, stays, standing, within}

-- ---- rows by their places

same_places : (xs ys : List Row) → ((i : ℕ) → slice_get xs i ≡ slice_get ys i) → xs ≡ ys
same_places [] [] h = refl
same_places [] (y ∷ ys) h = let e = h 0 in absurd cc
same_places (x ∷ xs) [] h = let e = h 0 in absurd cc
same_places (x ∷ xs) (y ∷ ys) h = let e : Some x ≡ Some y = h 0 in let rest = same_places xs ys (λ i. h (suc i)) in cc

pub same_rows : (xs ys : List Row) → ((task : ℕ) → row_at task xs ≡ row_at task ys) → xs ≡ ys
same_rows xs ys h = same_places xs ys (λ i. h (suc i))

-- a row that is put in its own place
pub put_itself : (rows : List Row) (row : Row) (id : ℕ) → row_at id rows ≡ Some row → row.task.0 ≡ id → put_in rows row ≡ rows
put_itself rows row id at number = same_rows (put_in rows row) rows (λ k. row_at-put_in rows row k next ∙ go k (row.task.0 == k) refl)
  where
    next : IsNext rows row
    next = let w = within rows row id at in (let low = w.0 in omega arith, let high = w.1 in omega arith)

    go : (k : ℕ) (b : Bool) → (row.task.0 == k) ≡ b → (if b then Some row else row_at k rows) ≡ row_at k rows
    go k true is = sym at ∙ ap (λ (n : ℕ). row_at n rows) (sym number ∙ eqb-true row.task.0 k is)
    go k false is = refl

-- ---- one row after another

-- where a task isn't reached
unreached : (what : Reach) (rows : List Row) (task : ℕ) (row : Row) → (row.task.0 == task) ≡ false → is_above rows task row ≡ false → reached what rows task row ≡ row
unreached (reach.Close end) rows task row other none = rw (other, none) refl
unreached reach.Skip rows task row other none = rw none refl
unreached reach.Hold rows task row other none = rw none refl
unreached reach.Free rows task row other none = rw none refl

reached_alike : (what : Reach) (xs ys : List Row) → Alike xs ys → (task : ℕ) (row : Row) → reached what xs task row ≡ reached what ys task row
reached_alike (reach.Close end) xs ys a task row = rw (leads_alike row.task.0 xs ys a task row.parent) refl
reached_alike reach.Skip xs ys a task row = rw (leads_alike row.task.0 xs ys a task row.parent) refl
reached_alike reach.Hold xs ys a task row = rw (leads_alike row.task.0 xs ys a task row.parent) refl
reached_alike reach.Free xs ys a task row = rw (leads_alike row.task.0 xs ys a task row.parent) refl

changes_alike : (what : Reach) (xs ys : List Row) → Alike xs ys → (task : ℕ) (row : Row) → changes what xs task row ≡ changes what ys task row
changes_alike (reach.Close end) xs ys a task row = rw (leads_alike row.task.0 xs ys a task row.parent) refl
changes_alike reach.Skip xs ys a task row = rw (leads_alike row.task.0 xs ys a task row.parent) refl
changes_alike reach.Hold xs ys a task row = rw (leads_alike row.task.0 xs ys a task row.parent) refl
changes_alike reach.Free xs ys a task row = rw (leads_alike row.task.0 xs ys a task row.parent) refl

-- ---- where some tasks are left

-- those that are left of a tree, in the order of their numbers
pub record AreLeft (u : TablesOf) (left : List TaskId) : Type 0 where
  pub ascends : Ascends left
  pub there : (id : ℕ) → has id left ≡ true → IsTask u id

-- all of the tree
pub all_left : (u : TablesOf) (sound : IsSound u) (task : ℕ) (left : List TaskId) → left ≡ tree_ids task u.rows → AreLeft u left
all_left u sound task left are = subst (AreLeft u) (sym are) (record {
  ascends = ids_ascend test u.rows sound.numbered;
  there = λ id known. at id (row_at id u.rows) refl (sym (has_ids test u.rows id sound.numbered) ∙ known);
})
  where
    test : Row → Bool
    test = is_of_tree u.rows task

    at : (id : ℕ) (o : Option Row) → row_at id u.rows ≡ o → option_map_or test o false ≡ true → IsTask u id
    at id None is known = absurd cc
    at id (Some r) is known = record { row = r; there = is; number = sound.numbered id r is }

has_last : (front : List TaskId) (id : TaskId) → has id.0 (front ++ id ∷ []) ≡ true
has_last front id = has_append id.0 front (id ∷ []) ∙ or_true (has id.0 front) (ap (λ (b : Bool). b || false) (eq-eqb id.0 id.0 refl))
  where
    or_true : (a : Bool) {b : Bool} → b ≡ true → (a || b) ≡ true
    or_true true e = refl
    or_true false e = e

-- but for the last
pub front_left : (u : TablesOf) (front : List TaskId) (id : TaskId) → AreLeft u (front ++ id ∷ []) → AreLeft u front
front_left u front id are = record {
  ascends = front_ascends front id are.ascends;
  there = λ n known. are.there n (has_append n front (id ∷ []) ∙ ap (λ (b : Bool). b || has n (id ∷ [])) known);
}

module _ (u : TablesOf) (sound : IsSound u) (task : ℕ) (what : Reach) (ends : ReachIsFinal what) where
  abbrev f : Row → Row
  f row = reached what u.rows task row

  abbrev some_but : List TaskId → Row → Row
  some_but left row = if has row.task.0 left then row else f row

  but_alike : (left : List TaskId) → Alike u.rows (reached_but left what u.rows task)
  but_alike left = map_alike (some_but left) (λ row. go row (has row.task.0 left)) u.rows
    where
      go : (row : Row) (b : Bool) → standing (if b then row else f row) ≡ standing row
      go row true = refl
      go row false = reached_standing what u.rows task row ends

  -- the row of one that is left wasn't changed yet
  next_row : (left : List TaskId) (id : ℕ) (row : Row) → row_at id u.rows ≡ Some row → has id left ≡ true → row_at id (reached_but left what u.rows task) ≡ Some row
  next_row left id row at known =
      row_at-map (some_but left) u.rows id
      ∙ ap (λ (o : Option Row). option_map (some_but left) o) at
      ∙ ap (λ (b : Bool). Some (if b then row else f row)) (ap (λ (n : ℕ). has n left) (sound.numbered id row at) ∙ known)

  one_more : (front : List TaskId) (id : TaskId) (row : Row) → row_at id.0 u.rows ≡ Some row → Ascends (front ++ id ∷ []) → put_in (reached_but (front ++ id ∷ []) what u.rows task) (f row) ≡ reached_but front what u.rows task
  one_more front id row at up = same_rows (put_in before (f row)) (reached_but front what u.rows task) (λ n.
      row_at-put_in before (f row) n next
      ∙ go n ((f row).task.0 == n) refl
      ∙ sym (row_at-map (some_but front) u.rows n))
    where
      before : List Row
      before = reached_but (front ++ id ∷ []) what u.rows task

      number : (f row).task.0 ≡ id.0
      number = ap (λ b. b.0) (reached_standing what u.rows task row ends) ∙ sound.numbered id.0 row at

      next : IsNext before (f row)
      next =
          let w = within before row id.0 (next_row (front ++ id ∷ []) id.0 row at (has_last front id)) in
          let n = number in
          (let low = w.0 in omega arith, let high = w.1 in omega arith)

      other_known : (n : ℕ) → (id.0 == n) ≡ false → has n (front ++ id ∷ []) ≡ has n front
      other_known n other = has_append n front (id ∷ []) ∙ ap (λ (b : Bool). has n front || (b || false)) other ∙ or_false (has n front)
        where
          or_false : (b : Bool) → (b || false) ≡ b
          or_false true = refl
          or_false false = refl

      other_row : (n : ℕ) → (id.0 == n) ≡ false → (o : Option Row) → row_at n u.rows ≡ o → option_map (some_but (front ++ id ∷ [])) o ≡ option_map (some_but front) o
      other_row n other None is = refl
      other_row n other (Some r) is =
          let its = sound.numbered n r is in
          let same : has r.task.0 (front ++ id ∷ []) ≡ has r.task.0 front = ap (λ (k : ℕ). has k (front ++ id ∷ [])) its ∙ other_known n other ∙ ap (λ (k : ℕ). has k front) (sym its) in
          ap (λ (b : Bool). Some (if b then r else f r)) same

      go : (n : ℕ) (b : Bool) → ((f row).task.0 == n) ≡ b → (if b then Some (f row) else row_at n before) ≡ option_map (some_but front) (row_at n u.rows)
      go n true is =
          let n_is : id.0 ≡ n = sym number ∙ eqb-true (f row).task.0 n is in
          let gone : has row.task.0 front ≡ false = ap (λ (k : ℕ). has k front) (sound.numbered id.0 row at) ∙ last_once front id up in
          ap (λ (b : Bool). Some (if b then row else f row)) (sym gone)
          ∙ ap (λ (o : Option Row). option_map (some_but front) o) (sym at)
          ∙ ap (λ (k : ℕ). option_map (some_but front) (row_at k u.rows)) n_is
      go n false is =
          let other : (id.0 == n) ≡ false = ap (λ (k : ℕ). k == n) (sym number) ∙ is in
          row_at-map (some_but (front ++ id ∷ [])) u.rows n ∙ other_row n other (row_at n u.rows) refl

  -- ---- from the start, where all of the tree are left

  none_yet : reached_but (tree_ids task u.rows) what u.rows task ≡ u.rows
  none_yet = same_rows (reached_but tree what u.rows task) u.rows (λ n. row_at-map (some_but tree) u.rows n ∙ at n (row_at n u.rows) refl)
    where
      tree : List TaskId
      tree = tree_ids task u.rows

      at : (n : ℕ) (o : Option Row) → row_at n u.rows ≡ o → option_map (some_but tree) o ≡ o
      at n None is = refl
      at n (Some r) is =
          let known : has r.task.0 tree ≡ is_of_tree u.rows task r =
          ap (λ (k : ℕ). has k tree) (sound.numbered n r is)
          ∙ has_ids (is_of_tree u.rows task) u.rows n sound.numbered
          ∙ ap (λ (o : Option Row). option_map_or (is_of_tree u.rows task) o false) is in
          ap (λ (x : Row). Some x) (ap (λ (b : Bool). if b then r else f r) known ∙ go (r.task.0 == task) (is_above u.rows task r) refl refl)
        where
          go : (a b : Bool) → (r.task.0 == task) ≡ a → is_above u.rows task r ≡ b → (if (r.task.0 == task) || is_above u.rows task r then r else f r) ≡ r
          go true b e g = rw e refl
          go false true e g = rw (e, g) refl
          go false false e g = rw (e, g) (unreached what u.rows task r e g)

  -- ---- as steps of plans

  abbrev pub Going : TablesOf → PlanOf → PlanOf → List TaskId → Type 0
  Going t old new left = Goes t old new u (with_rows u (reached_but left what u.rows task))

  pub begins : (t : TablesOf) (p : PlanOf) (left : List TaskId) → IsPlanOf t p → planned t p ≡ u → left ≡ tree_ids task u.rows → Going t p p left
  begins t p left fit is are =
      let P : TablesOf → Type 0 = λ v. Goes t p p v v in
      let Q : List Row → Type 0 = λ l. Goes t p p u (with_rows u l) in
      subst Q (sym none_yet ∙ ap (λ (l : List TaskId). reached_but l what u.rows task) (sym are)) (subst P is (stays t p fit))

  pub goes_further : (t : TablesOf) (old mid new : PlanOf) (front : List TaskId) (id : TaskId) → AreLeft u (front ++ id ∷ []) → Going t old mid (front ++ id ∷ []) → Reaches t mid new task what id.0 → Going t old new front
  goes_further t old mid new front id are going step =
      let its = are.there id.0 (has_last front id) in
      let row = its.row in
      let left = front ++ id ∷ [] in
      let v = with_rows u (reached_but left what u.rows task) in
      let there : task_row (planned t mid) id.0 ≡ Some row = ap (λ (x : TablesOf). task_row x id.0) going.to ∙ next_row left id.0 row its.there (has_last front id) in
      let one : Some step.row ≡ Some row = sym step.there ∙ there in
      let same : step.row ≡ row = cc in
      let reach : reached what (planned t mid).rows task step.row ≡ f row =
      ap (λ (x : TablesOf). reached what x.rows task step.row) going.to
      ∙ sym (reached_alike what u.rows (reached_but left what u.rows task) (but_alike left) task step.row)
      ∙ ap (λ (r : Row). f r) same in
      let after : with_row (planned t mid) (reached what (planned t mid).rows task step.row) ≡ with_rows u (reached_but front what u.rows task) =
      ap (λ (r : Row). with_row (planned t mid) r) reach
      ∙ ap (λ (x : TablesOf). with_row x (f row)) going.to
      ∙ ap (λ (l : List Row). with_rows u l) (one_more front id row its.there are.ascends) in
      let P : TablesOf → Type 0 = λ x. Goes t old new u x in
      subst P after (goes_then t old mid new u v _ going step.goes)

  -- and is changed as it would have been at the start
  pub changes_yet : (t : TablesOf) (old mid : PlanOf) (front : List TaskId) (id : TaskId) → AreLeft u (front ++ id ∷ []) → Going t old mid (front ++ id ∷ []) → option_map_or (changes what (planned t mid).rows task) (task_row (planned t mid) id.0) false ≡ option_map_or (changes what u.rows task) (task_row u id.0) false
  changes_yet t old mid front id are going =
      let its = are.there id.0 (has_last front id) in
      let row = its.row in
      let left = front ++ id ∷ [] in
      ap (λ (x : TablesOf). option_map_or (changes what x.rows task) (task_row x id.0) false) going.to
      ∙ ap (λ (o : Option Row). option_map_or (changes what (reached_but left what u.rows task) task) o false) (next_row left id.0 row its.there (has_last front id))
      ∙ sym (changes_alike what u.rows (reached_but left what u.rows task) (but_alike left) task row)
      ∙ ap (λ (o : Option Row). option_map_or (changes what u.rows task) o false) (sym its.there)

  pub done : (t : TablesOf) (old new : PlanOf) → Going t old new [] → Goes t old new u (with_rows u (all_reached what u.rows task))
  done t old new going = going

  -- the next task is there
  pub is_there : (t : TablesOf) (old mid : PlanOf) (front : List TaskId) (id : TaskId) → AreLeft u (front ++ id ∷ []) → Going t old mid (front ++ id ∷ []) → IsTask (planned t mid) id.0
  is_there t old mid front id are going =
      let its = are.there id.0 (has_last front id) in
      let P : TablesOf → Type 0 = λ v. IsTask v id.0 in
      subst P (sym going.to) (record { row = its.row; there = next_row (front ++ id ∷ []) id.0 its.row its.there (has_last front id); number = its.number })
