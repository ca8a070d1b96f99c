-- The lists of tasks beside the rows, and how they change with those.
use Rattle.std.proofs.Common.{◌≡◌, ℕ, ◌+◌, ◌<◌, ◌==◌, ◌||◌, zero, suc, Bool, true, false, List, [], ◌∷◌, fold, Option, Some, None, Less, refl, sym, ap, subst, ◌∙◌, arith, eq-eqb, if◌then◌else◌}
use Rattle.std.specs.Prelude.{slice_get}
use Rattle.std.specs.Cmp.{nat_cmp_is}
use Rattle.std.specs.List.{AllByRecursion, list_any}
use Rattle.std.specs.Option.{option_map_or, option_or}
use Rattle.std.specs.Ordering.{nat_cmp}
use Rattle.std.proofs.lemmas.Bool.Decides.{nat_tests}
use Rattle.ht_base.specs.declared.task_id.TaskId.{TaskId}
use Rattle.ht_index.specs.declared.moves.Move.{Move}
use Rattle.ht_index.specs.Indexes.{Ascends, IndexOf, has, list_of, moved}
use Rattle.ht_index.proofs.PublicLaws.{made}
use Rattle.ht_tree.specs.declared.listed_by.ListedBy.{ListedBy}
use Rattle.ht_tree.specs.declared.row.Row.{Row}
use Rattle.ht_tree.specs.ListedBy.{AreInStep, AreMoves, ids_by, is_listed, is_under}
use Rattle.ht_tree.specs.Places.{last_of}
use Rattle.ht_tree.specs.Plans.{Follow}
use Rattle.ht_tree.specs.Rows.{put_in, row_at}
use Rattle.ht_tree.specs.Tables.{TablesOf}
use Rattle.ht_tree.proofs.Moving.{neither}
use Rattle.ht_tree.proofs.Putting.{row_at-fold}

-- the rows are in the order of their numbers, from 1 without gaps
abbrev pub Numbered : List Row → Type 0
Numbered rows = (task : ℕ) (row : Row) → row_at task rows ≡ Some row → row.task.0 ≡ task

-- and from another number on
abbrev NumberedFrom : ℕ → List Row → Type 0
NumberedFrom n rows = (i : ℕ) (row : Row) → slice_get rows i ≡ Some row → row.task.0 ≡ n + i

later : (n : ℕ) (r : Row) (rows : List Row) → NumberedFrom n (r ∷ rows) → NumberedFrom (suc n) rows
later n r rows are i row at = let e = are (suc i) row at in omega arith

from_one : (rows : List Row) → Numbered rows → NumberedFrom 1 rows
from_one rows are i row at = let e = are (suc i) row at in omega arith

module _ (test : Row → Bool) where
  ids_cons : (r : Row) (rows : List Row) (b : Bool) → test r ≡ b → ids_by test (r ∷ rows) ≡ (if b then r.task ∷ ids_by test rows else ids_by test rows)
  ids_cons r rows true e = rw e refl
  ids_cons r rows false e = rw e refl

  -- ---- in order

  behind : (m n : ℕ) (rows : List Row) → m < n → NumberedFrom n rows → AllByRecursion (λ t. nat_cmp m t.0 ≡ Less) (ids_by test rows)
  behind m n [] low are = tt
  behind m n (r ∷ rows) low are = at (test r) refl (behind m (suc n) rows (omega arith) (later n r rows are))
    where
      at : (b : Bool) → test r ≡ b → AllByRecursion (λ t. nat_cmp m t.0 ≡ Less) (ids_by test rows) → AllByRecursion (λ t. nat_cmp m t.0 ≡ Less) (ids_by test (r ∷ rows))
      at true e rest =
          let number = are 0 r refl in
          let P : List TaskId → Type 0 = λ l. AllByRecursion (λ (t : TaskId). nat_cmp m t.0 ≡ Less) l in
          subst P (sym (ids_cons r rows true e)) (sym (nat_cmp_is m r.task.0 Less (omega arith)), rest)
      at false e rest =
          let P : List TaskId → Type 0 = λ l. AllByRecursion (λ (t : TaskId). nat_cmp m t.0 ≡ Less) l in
          subst P (sym (ids_cons r rows false e)) rest

  ascends_from : (n : ℕ) (rows : List Row) → NumberedFrom n rows → Ascends (ids_by test rows)
  ascends_from n [] are = tt
  ascends_from n (r ∷ rows) are = at (test r) refl (ascends_from (suc n) rows (later n r rows are))
    where
      at : (b : Bool) → test r ≡ b → Ascends (ids_by test rows) → Ascends (ids_by test (r ∷ rows))
      at true e rest =
          let number = are 0 r refl in
          subst Ascends (sym (ids_cons r rows true e)) (behind r.task.0 (suc n) rows (omega arith) (later n r rows are), rest)
      at false e rest = subst Ascends (sym (ids_cons r rows false e)) rest

  pub ids_ascend : (rows : List Row) → Numbered rows → Ascends (ids_by test rows)
  ids_ascend rows are = ascends_from 1 rows (from_one rows are)

  -- ---- which tasks

  low : (k n : ℕ) (rows : List Row) → NumberedFrom n rows → k < n → has k (ids_by test rows) ≡ false
  low k n [] are l = refl
  low k n (r ∷ rows) are l = at (test r) refl (low k (suc n) rows (later n r rows are) (omega arith))
    where
      other : (r.task.0 == k) ≡ false
      other = let e = are 0 r refl in grind (arith, nat_tests)

      at : (b : Bool) → test r ≡ b → has k (ids_by test rows) ≡ false → has k (ids_by test (r ∷ rows)) ≡ false
      at true e rest = ap (has k) (ids_cons r rows true e) ∙ ap (λ b. b || has k (ids_by test rows)) other ∙ rest
      at false e rest = ap (has k) (ids_cons r rows false e) ∙ rest

  has_at : (n i : ℕ) (rows : List Row) → NumberedFrom n rows → has (n + i) (ids_by test rows) ≡ option_map_or test (slice_get rows i) false
  has_at n i [] are = refl
  has_at n zero (r ∷ rows) are = at (test r) refl
    where
      same : r.task.0 ≡ n + 0
      same = are 0 r refl

      at : (b : Bool) → test r ≡ b → has (n + 0) (ids_by test (r ∷ rows)) ≡ test r
      at true e = ap (has (n + 0)) (ids_cons r rows true e) ∙ ap (λ b. b || has (n + 0) (ids_by test rows)) (eq-eqb r.task.0 (n + 0) same) ∙ sym e
      at false e = ap (has (n + 0)) (ids_cons r rows false e) ∙ low (n + 0) (suc n) rows (later n r rows are) (omega arith) ∙ sym e
  has_at n (suc i) (r ∷ rows) are = at (test r) refl (has_at (suc n) i rows (later n r rows are))
    where
      next : n + suc i ≡ suc n + i
      next = omega arith

      other : (r.task.0 == n + suc i) ≡ false
      other = let e = are 0 r refl in grind (arith, nat_tests)

      at : (b : Bool) → test r ≡ b → has (suc n + i) (ids_by test rows) ≡ option_map_or test (slice_get rows i) false → has (n + suc i) (ids_by test (r ∷ rows)) ≡ option_map_or test (slice_get rows i) false
      at true e rest = ap (has (n + suc i)) (ids_cons r rows true e) ∙ ap (λ b. b || has (n + suc i) (ids_by test rows)) other ∙ ap (λ k. has k (ids_by test rows)) next ∙ rest
      at false e rest = ap (has (n + suc i)) (ids_cons r rows false e) ∙ ap (λ k. has k (ids_by test rows)) next ∙ rest

  -- a task is listed where its row passes
  pub has_ids : (rows : List Row) (task : ℕ) → Numbered rows → has task (ids_by test rows) ≡ option_map_or test (row_at task rows) false
  has_ids rows zero are = low 0 1 rows (from_one rows are) (omega arith)
  has_ids rows (suc i) are =
      let e : suc i ≡ 1 + i = omega arith in
      ap (λ k. has k (ids_by test rows)) e ∙ has_at 1 i rows (from_one rows are)

-- ---- once moves are made

module _ (kind : ListedBy) (old new : List Row) (numbered : Numbered old) (later_numbered : Numbered new) where
  say : (key : ℕ) (moves : List Move) → AllByRecursion (λ m. m.comes ≡ is_listed kind m.key m.task.0 new) moves → AllByRecursion (λ m. m.key ≡ key → m.comes ≡ is_listed kind key m.task.0 new) moves
  say key [] right = tt
  say key (m ∷ moves) right = ((λ e. right.0 ∙ ap (λ k. is_listed kind k m.task.0 new) e), say key moves right.1)

  pub in_step : (before after : IndexOf) → AreInStep kind old before → AreMoves kind old new before.moves → ((key : ℕ) → list_of key after ≡ fold (moved key) (list_of key before) before.moves) → AreInStep kind new after
  in_step before after step moves then_ key =
      let up : Ascends (list_of key before) = subst Ascends (sym (step key)) (ids_ascend (is_under kind key) old numbered) in
      then_ key
      ∙ made key (λ n. is_listed kind key n new) before.moves (list_of key before) (ids_by (is_under kind key) new) up (ids_ascend (is_under kind key) new later_numbered) (λ n. has_ids (is_under kind key) new n later_numbered) (say key before.moves moves.right)
      (λ n none. ap (has n) (step key) ∙ has_ids (is_under kind key) old n numbered ∙ moves.whole key n none)

-- ---- a task whose row isn't put

none_last : (task : ℕ) (puts : List Row) → list_any (λ r. r.task.0 == task) puts ≡ false → last_of task puts ≡ None
none_last task [] none = refl
none_last task (p ∷ puts) none =
    let apart = neither (p.task.0 == task) (list_any (λ (r : Row). r.task.0 == task) puts) none in
    rw (apart.0, none_last task puts apart.1) refl

pub not_put : (t : TablesOf) (rows puts : List Row) → Follow t rows puts → (task : ℕ) → list_any (λ r. r.task.0 == task) puts ≡ false → row_at task (fold put_in rows puts) ≡ row_at task rows
not_put t rows puts follow task none = row_at-fold t rows puts task follow ∙ ap (λ (o : Option Row). option_or o (row_at task rows)) (none_last task puts none)
