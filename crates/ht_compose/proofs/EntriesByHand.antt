-- Entries whose sub tasks may be made by hand, told by the numbers of a task's sub tasks.
use Rattle.ht_models.specs.Contradictions.{is_automatic}
use Rattle.std.proofs.Common.{◌≡◌, ℕ, ◌+◌, suc, Bool, true, false, not, ◌&&◌, ◌||◌, if◌then◌else◌, bytes_eq, List, [], ◌∷◌, map, Option, Some, None, refl, sym, ap, subst, ◌∙◌, arith}
use Rattle.std.specs.Option.{option_and_then}
use Rattle.std.specs.Prelude.{slice_get}
use Rattle.ht_base.specs.declared.task_id.TaskId.{TaskId}
use Rattle.ht_compose.specs.ByHand.{IsEntryOf, entry_of, may_be_made, named_from}
use Rattle.ht_compose.specs.Composing.{IsToMake}
use Rattle.ht_compose.specs.Finding.{rows_of}
use Rattle.ht_compose.specs.Finishes.{all_ended}
use Rattle.ht_compose.specs.Items.{is_sequential}
use Rattle.ht_compose.proofs.Entries.{ended_among, subs_again}
use Rattle.ht_compose.proofs.OneRow.{one}
use Rattle.ht_compose.proofs.SubRows.{made_among}
use Rattle.ht_models.specs.Model.{ModelOf}
use Rattle.ht_entries.specs.SubEntries.{SubEntry}
use Rattle.ht_tree.specs.declared.row.Row.{Row}
use Rattle.ht_base.specs.State.{is_final}
use Rattle.ht_tree.specs.Families.{is_made, sub_tasks}
use Rattle.ht_tree.specs.Soundness.{IsSound}
use Rattle.ht_tree.specs.Tables.{TablesOf, model_of, task_row}

-- whether it may be made is asked of the task's sub tasks
pub asked_of : (u : TablesOf) (task : ℕ) (row : Row) (m : ModelOf) (name : List ℕ) (ids : List TaskId) (e : ℕ) (b : Bool) → IsSound u → Some row ≡ task_row u task → model_of u row ≡ Some m → ids ≡ map (λ r. r.task) (sub_tasks task u.rows) → Some e ≡ named_from 0 name m.subs → b ≡ may_be_made (rows_of u ids) m task e → IsEntryOf u task name (if b then Some e else None)
asked_of u task row m name ids e b sound there of_model are named is =
    let made = made_among u sound task ids are e in
    let rows = ap (λ (l : List TaskId). rows_of u l) are ∙ subs_again u task sound in
    let ended : all_ended task e (rows_of u ids) ≡ all_ended task e u.rows = ap (λ (l : List Row). all_ended task e l) rows ∙ ended_among task e u.rows in
    let A : Bool = not (is_automatic m.instantiation) in
    let S : Bool = not (is_sequential m.composition) in
    let may : b ≡ may_be_made u.rows m task e =
    is
    ∙ ap (λ (x : Bool). A && not x && (S || all_ended task e (rows_of u ids))) made
    ∙ ap (λ (x : Bool). A && not (is_made task e u.rows) && (S || x)) ended in
    let found : (if b then Some e else None) ≡ entry_of u.rows m task name =
    ap (λ (x : Bool). let o : Option ℕ = if x then Some e else None in o) may
    ∙ ap (λ (o : Option ℕ). option_and_then (λ (i : ℕ). if may_be_made u.rows m task i then Some i else None) o) named in
    (row, m, sym there, of_model, found)

-- ---- what is known of an entry whose sub task may be made

abbrev IsAt : ℕ → ℕ → List SubEntry → Type 0
IsAt n e es = (k : ℕ) × (e ≡ n + k) × (sub : SubEntry) × (slice_get es k ≡ Some sub)

entry_at : (n : ℕ) (name : List ℕ) (es : List SubEntry) (e : ℕ) → named_from n name es ≡ Some e → IsAt n e es
entry_at n name [] e h = absurd cc
entry_at n name (x ∷ es) e h = go (bytes_eq x.name name) h (entry_at (n + 1) name es e)
  where
    go : (b : Bool) → (if b then Some n else named_from (n + 1) name es) ≡ Some e → (named_from (n + 1) name es ≡ Some e → IsAt (n + 1) e es) → IsAt n e (x ∷ es)
    go true is behind = let same : n ≡ e = cc in (0, omega arith, x, refl)
    go false is behind =
        let r = behind is in
        let at = r.1 in
        (suc r.0, omega arith, r.2, r.3)

both_of : (a b c : Bool) → (a && b && c) ≡ true → b ≡ true
both_of true true c h = refl
both_of true false c h = cc
both_of false b c h = cc

not_made : (b : Bool) → not b ≡ true → b ≡ false
not_made true h = cc
not_made false h = refl

-- and whose task hasn't ended
pub is_to_make : (u : TablesOf) (task : ℕ) (name : List ℕ) (row : Row) (o : Option ℕ) (e : ℕ) → task_row u task ≡ Some row → is_final row.state ≡ false → IsEntryOf u task name o → o ≡ Some e → IsToMake u task e
is_to_make u task name row o e there live (r, m, found, of, is) some =
    let same : r ≡ row = one (task_row u task) r row found there in
    let M : Row → Type 0 = λ x. model_of u x ≡ Some m in
    let its = chosen (named_from 0 name m.subs) refl (sym is ∙ some) in
    record {
      row = row;
      there = there;
      going_on = live;
      model = m;
      of_model = subst M same of;
      sub = its.0;
      listed = its.1;
      not_made = not_made (is_made task e u.rows) (both_of (not (is_automatic m.instantiation)) (not (is_made task e u.rows)) (not (is_sequential m.composition) || all_ended task e u.rows) its.2);
    }
  where
    chosen : (p : Option ℕ) → named_from 0 name m.subs ≡ p → option_and_then (λ (i : ℕ). if may_be_made u.rows m task i then Some i else None) p ≡ Some e → (sub : SubEntry) × (slice_get m.subs e ≡ Some sub) × (may_be_made u.rows m task e ≡ true)
    chosen None at h = absurd cc
    chosen (Some i) at h = allowed (may_be_made u.rows m task i) refl h
      where
        allowed : (b : Bool) → may_be_made u.rows m task i ≡ b → (if b then Some i else None) ≡ Some e → (sub : SubEntry) × (slice_get m.subs e ≡ Some sub) × (may_be_made u.rows m task e ≡ true)
        allowed false may g = absurd cc
        allowed true may g =
            let ie : i ≡ e = cc in
            let k = entry_at 0 name m.subs i at in
            let number = k.1 in
            let place : k.0 ≡ e = omega arith in
            (k.2, ap (λ (n : ℕ). slice_get m.subs n) (sym place) ∙ k.3, ap (λ (n : ℕ). may_be_made u.rows m task n) (sym ie) ∙ may)
