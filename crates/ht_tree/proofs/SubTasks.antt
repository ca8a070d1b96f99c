-- Which rows are those of sub tasks.
use Rattle.std.proofs.Common.{◌≡◌, ℕ, ◌+◌, ◌<◌, ◌≤◌, ◌==◌, suc, Bool, true, false, List, [], ◌∷◌, ◌++◌, get_or, length, map, take, Option, Some, None, IfSome, if◌then◌else◌, refl, sym, ap, ◌∙◌, subst, arith}
use Rattle.std.proofs.lemmas.Bool.{eqb-true}
use Rattle.std.proofs.lemmas.List.{append-nil, length-map}
use Rattle.std.proofs.lemmas.List.Elements.{filter-append}
use Rattle.std.proofs.lemmas.Option.{get_or_from_slice_get, slice_get-map, slice_get_within}
use Rattle.std.specs.Option.{option_and_then, option_map_or}
use Rattle.std.specs.Prelude.{option_map, slice_get}
use Rattle.ht_base.specs.declared.task_id.TaskId.{TaskId}
use Rattle.ht_models.specs.Model.{ModelOf}
use Rattle.ht_entries.specs.SubEntries.{SubEntry}
use Rattle.ht_tree.specs.declared.row.Row.{Row}
use Rattle.ht_tree.specs.Families.{IsOfEntry, is_sub_of, model_of_entry, sub_tasks}
use Rattle.ht_tree.specs.Rows.{model_in, row_at}
use Rattle.ht_tree.specs.Soundness.{IsSound}
use Rattle.ht_tree.specs.Tables.{TablesOf, model_of, task_row}
use Rattle.ht_tree.proofs.Rows.{filtered_at, some_at, take_next, taken_at}

-- ---- among any rows

-- the parent of a sub task
pub parent_of_sub : (task : ℕ) (row : Row) → is_sub_of task row ≡ true → (p : TaskId × ℕ) × (row.parent ≡ Some p) × (p.0.0 ≡ task)
parent_of_sub task row is = go row.parent refl is
  where
    go : (o : Option (TaskId × ℕ)) → row.parent ≡ o → option_map_or (λ (p : TaskId × ℕ). p.0.0 == task) o false ≡ true → (p : TaskId × ℕ) × (row.parent ≡ Some p) × (p.0.0 ≡ task)
    go None same h = absurd cc
    go (Some p) same h = (p, same, eqb-true p.0.0 task h)

-- none is, where the row at no place is one
pub no_subs : (task : ℕ) (rows : List Row) → ((i : ℕ) (row : Row) → slice_get rows i ≡ Some row → is_sub_of task row ≡ true → ⊥) → sub_tasks task rows ≡ []
no_subs task [] none = refl
no_subs task (x ∷ rows) none = go (is_sub_of task x) refl (no_subs task rows (λ i row at is. none (suc i) row at is))
  where
    go : (b : Bool) → is_sub_of task x ≡ b → sub_tasks task rows ≡ [] → (if b then x ∷ sub_tasks task rows else sub_tasks task rows) ≡ []
    go true is rest = absurd (none 0 x refl is)
    go false is rest = rest

-- the next row is one or isn't
subs_next : (task : ℕ) (rows : List Row) (i : ℕ) (row : Row) → slice_get rows i ≡ Some row → sub_tasks task (take (i + 1) rows) ≡ sub_tasks task (take i rows) ++ sub_tasks task (row ∷ [])
subs_next task rows i row at = ap (λ (l : List Row). sub_tasks task l) (take_next rows i row at) ∙ filter-append (is_sub_of task) (take i rows) (row ∷ [])

pub one_more : (task : ℕ) (rows : List Row) (i : ℕ) (row : Row) → slice_get rows i ≡ Some row → is_sub_of task row ≡ true → sub_tasks task (take (i + 1) rows) ≡ sub_tasks task (take i rows) ++ row ∷ []
one_more task rows i row at is = subs_next task rows i row at ∙ ap (λ (b : Bool). sub_tasks task (take i rows) ++ (if b then row ∷ [] else [])) is

pub no_more : (task : ℕ) (rows : List Row) (i : ℕ) (row : Row) → slice_get rows i ≡ Some row → is_sub_of task row ≡ false → sub_tasks task (take (i + 1) rows) ≡ sub_tasks task (take i rows)
no_more task rows i row at not = subs_next task rows i row at ∙ ap (λ (b : Bool). sub_tasks task (take i rows) ++ (if b then row ∷ [] else [])) not ∙ append-nil (sub_tasks task (take i rows))

-- ---- among the rows of sound tables

module _ (u : TablesOf) (sound : IsSound u) where
  -- a parent has a lower number
  pub lower : (k : ℕ) (row : Row) → row_at k u.rows ≡ Some row → (o : Option (TaskId × ℕ)) → row.parent ≡ o → IfSome o (λ p. p.0.0 < k)
  lower k row at None is = tt
  lower k row at (Some p) is =
      let filed = ((sound.rows_sound k row at).filed).parent in
      let P : Option (TaskId × ℕ) → Type 0 = λ o. IfSome o (λ q. (1 ≤ q.0.0) × (q.0.0 < row.task.0)) in
      let below = (subst P is filed).1 in
      let number = sound.numbered k row at in
      omega arith

  -- so no sub task stands at or before its parent
  pub none_before : (task : ℕ) → sub_tasks task (take task u.rows) ≡ []
  none_before task = no_subs task (take task u.rows) (λ i row at is.
      let there = taken_at task u.rows i row at in
      let p = parent_of_sub task row is in
      let below = lower (suc i) row there.1 (Some p.0) p.1 in
      let same = p.2 in
      let low = there.0 in
      absurd (omega arith))

  -- a sub task is of an entry of its parent
  of_entry : (k : ℕ) (row : Row) → row_at k u.rows ≡ Some row → (p : TaskId × ℕ) → row.parent ≡ Some p → IsOfEntry u.models u.rows (model_in u.models row) p
  of_entry k row at p under = let P : Option (TaskId × ℕ) → Type 0 = λ o. IfSome o (IsOfEntry u.models u.rows (model_in u.models row)) in subst P under ((sound.families).entries k row at)

  -- a sub task is of one of the entries of its parent's model
  pub entry_there : (task : ℕ) (above : Row) (m : ModelOf) → task_row u task ≡ Some above → model_of u above ≡ Some m → (k : ℕ) (row : Row) → row_at k u.rows ≡ Some row → (p : TaskId × ℕ) → row.parent ≡ Some p → p.0.0 ≡ task → p.1 < length m.subs
  entry_there task above m there of_model k row at p under is =
      let e = of_entry k row at p under in
      let one : Some e.above ≡ Some above = sym e.there ∙ ap (λ (n : ℕ). row_at n u.rows) is ∙ there in
      let same : e.above ≡ above = cc in
      let known : slice_get u.models (e.above).model ≡ Some m = ap (λ (r : Row). slice_get u.models r.model) same ∙ of_model in
      let of_entry : model_of_entry (model_in u.models e.above) p.1 ≡ option_map (λ (s : SubEntry). s.model) (slice_get m.subs p.1) =
      ap (λ (o : Option ModelOf). option_map (λ (s : SubEntry). s.model) (option_and_then (λ (x : ModelOf). slice_get x.subs p.1) o)) known in
      let its = some_at u.models row.model ((sound.rows_sound k row at).filed).model in
      there_at (slice_get m.subs p.1) refl (sym of_entry ∙ e.named ∙ ap (λ (o : Option ModelOf). option_map (λ (x : ModelOf). x.name) o) its.1)
    where
      there_at : {n : List ℕ} (o : Option SubEntry) → slice_get m.subs p.1 ≡ o → option_map (λ (s : SubEntry). s.model) o ≡ Some n → p.1 < length m.subs
      there_at None is named = absurd cc
      there_at (Some s) is named = slice_get_within m.subs p.1 s is

  -- a task whose model has no sub entries has no sub task
  pub no_sub_task : (task : ℕ) (above : Row) (m : ModelOf) → task_row u task ≡ Some above → model_of u above ≡ Some m → m.subs ≡ [] → (k : ℕ) (row : Row) → row_at k u.rows ≡ Some row → (p : TaskId × ℕ) → row.parent ≡ Some p → p.0.0 ≡ task → ⊥
  no_sub_task task above m there of_model none k row at p under is =
      let low = entry_there task above m there of_model k row at p under is in
      let count = ap (λ (l : List SubEntry). length l) none in
      absurd (omega arith)

  -- nor has a task that isn't there
  pub none_of_none : (task : ℕ) → task_row u task ≡ None → sub_tasks task u.rows ≡ []
  none_of_none task gone = no_subs task u.rows (λ i row at is.
      let p = parent_of_sub task row is in
      let e = of_entry (suc i) row at p.0 p.1 in
      let none : Some e.above ≡ None = sym e.there ∙ ap (λ (n : ℕ). row_at n u.rows) p.2 ∙ gone in
      absurd cc)

  -- a sub task's row is found by its number
  pub sub_there : (task i : ℕ) (row : Row) → slice_get (sub_tasks task u.rows) i ≡ Some row → row_at row.task.0 u.rows ≡ Some row
  sub_there task i row at =
      let there = filtered_at (is_sub_of task) u.rows i row at in
      let number = sound.numbered (suc there.0) row there.1 in
      ap (λ (k : ℕ). row_at k u.rows) number ∙ there.1

  -- the row of the next of their numbers
  pub sub_found : (task i : ℕ) (ids : List TaskId) → ids ≡ map (λ (r : Row). r.task) (sub_tasks task u.rows) → i < length ids → (row : Row) × (slice_get (sub_tasks task u.rows) i ≡ Some row) × (row_at (get_or ids i (record { 0 = 0 })).0 u.rows ≡ Some row)
  sub_found task i ids all low =
      let subs = sub_tasks task u.rows in
      let long : length ids ≡ length subs = ap (λ (l : List TaskId). length l) all ∙ length-map subs (λ (r : Row). r.task) in
      let row = some_at subs i (omega arith) in
      let id : slice_get ids i ≡ Some (row.0).task =
      ap (λ (l : List TaskId). slice_get l i) all
      ∙ slice_get-map (λ (r : Row). r.task) subs i
      ∙ ap (λ (o : Option Row). option_map (λ (r : Row). r.task) o) row.1 in
      let number = get_or_from_slice_get ids i (row.0).task (record { 0 = 0 }) id in
      (row.0, row.1, ap (λ (k : TaskId). row_at k.0 u.rows) number ∙ sub_there task i row.0 row.1)
