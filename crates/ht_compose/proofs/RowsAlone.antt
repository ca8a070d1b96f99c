-- What is done on composite tasks changes rows alone.
use Rattle.ht_models.specs.Contradictions.{is_automatic}
use Rattle.std.proofs.Common.{◌≡◌, ℕ, Bool, true, false, not, ◌&&◌, ◌||◌, List, [], ◌∷◌, ◌++◌, length, Option, Some, None, if◌then◌else◌, refl, sym, subst, ap, ◌∙◌}
use Rattle.std.specs.Prelude.{slice_get}
use Rattle.ht_base.specs.declared.moment.Moment.{Moment}
use Rattle.ht_base.specs.declared.task_id.TaskId.{TaskId}
use Rattle.ht_base.specs.declared.values.Values.{Values}
use Rattle.ht_compose.specs.Agenda.{Ends}
use Rattle.ht_compose.specs.Agenda.Ends.{end, on}
use Rattle.ht_compose.specs.Downward.{freeing}
use Rattle.ht_compose.specs.Finishes.{chosen, completed}
use Rattle.ht_compose.specs.Freeing.{Frees, checks_of}
use Rattle.ht_compose.specs.Gathering.{Gathers, GathersBy}
use Rattle.ht_compose.specs.Items.{Checks, Does, Finishes, Item, OnModel, OnTask, Step, activates, begins, closes, comes_next, follows_by, has_failed, is_checked, is_in_progress, makes_at, makes_entry, makes_of, makes_one, on_model, on_row, on_task, rises}
use Rattle.ht_compose.specs.Items.Item.{Activate, Begin, Check, Close, Make, Next, Up}
use Rattle.ht_compose.proofs.Determined.{one_output}
use Rattle.ht_compose.proofs.OneRow.{one}
use Rattle.ht_models.specs.Model.{FinishOf, ModelOf}
use Rattle.ht_entries.specs.SubEntries.{SubEntry}
use Rattle.ht_tree.specs.declared.row.Row.{Row}
use Rattle.ht_base.specs.State.{is_final}
use Rattle.ht_tree.specs.Families.{is_made}
use Rattle.ht_tree.specs.Soundness.{is_created}
use Rattle.ht_tree.specs.Tables.{TablesOf, model_at, model_named, model_of, task_row, with_row, with_rows}

abbrev pub OnlyRows : TablesOf → TablesOf → Type 0
OnlyRows u v = v ≡ with_rows u v.rows

only_then : (u v w : TablesOf) → OnlyRows u v → OnlyRows v w → OnlyRows u w
only_then u v w a b = b ∙ ap (λ (x : TablesOf). with_rows x w.rows) a

module _ (u : TablesOf) where
  abbrev Keeps : Step → Type 0
  Keeps d = OnlyRows u d.tables

  either : (b : Bool) (d e : Step) → Keeps d → Keeps e → Keeps (if b then d else e)
  either true d e x y = x
  either false d e x y = y

  of_row : (f : Row → Step) → ((row : Row) → Keeps (f row)) → (o : Option Row) → Keeps (on_row u f o)
  of_row f is None = refl
  of_row f is (Some row) = is row

  of_model : (f : Row → ModelOf → Step) (row : Row) → ((m : ModelOf) → Keeps (f row m)) → (o : Option ModelOf) → Keeps (on_model u row f o)
  of_model f row is None = refl
  of_model f row is (Some m) = is m

  of_task : (f : Row → ModelOf → Step) → ((row : Row) (m : ModelOf) → Keeps (f row m)) → (o : Option Row) → Keeps (on_task u f o)
  of_task f is None = refl
  of_task f is (Some row) = of_model f row (is row) (model_of u row)

  of_entry : (at : Moment) (e : ℕ) (row : Row) (o : Option SubEntry) → Keeps (makes_entry u at row e o)
  of_entry at e row None = refl
  of_entry at e row (Some entry) = placed (model_named u entry.model)
    where
      there : (place : ℕ) (o : Option ModelOf) → Keeps (makes_of u at row e entry place o)
      there place None = refl
      there place (Some m) = refl

      placed : (o : Option ℕ) → Keeps (makes_at u at row e entry o)
      placed None = refl
      placed (Some place) = there place (model_at u place)

  of_check : (o : Option Row) (d : Step) → OnTask u (Checks u) o d → Keeps d
  of_check None d is = let K : Step → Type 0 = λ x. Keeps x in subst K (sym is) refl
  of_check (Some row) d is = modelled (model_of u row) is
    where
      chosen_by : (m : ModelOf) (o : Option FinishOf) → Finishes u row m o d → Keeps d
      chosen_by m None h = let K : Step → Type 0 = λ x. Keeps x in subst K (sym h) refl
      chosen_by m (Some f) h = let K : Step → Type 0 = λ x. Keeps x in subst K (sym h.2) refl

      modelled : (o : Option ModelOf) → OnModel u row (Checks u) o d → Keeps d
      modelled None h = let K : Step → Type 0 = λ x. Keeps x in subst K (sym h) refl
      modelled (Some m) h = chosen_by m (if is_checked u row m then chosen u.rows m row else None) h

  told : (d e : Step) → Keeps e → d ≡ e → Keeps d
  told d e is same = let K : Step → Type 0 = λ x. Keeps x in subst K (sym same) is

  follows : (row : Row) (m : ModelOf) (o : Option (TaskId × ℕ)) → Keeps (follows_by u row m o)
  follows row m None = refl
  follows row m (Some p) = either (not (is_final row.state) && comes_next m p.1) _ _ refl refl

  does_rows : (at : Moment) (i : Item) (d : Step) → Does at u i d → Keeps d
  does_rows at (Activate t) d is = told d _ (of_task (activates u) (λ row m. either (is_created row.state) _ _ refl refl) (task_row u t)) is
  does_rows at (Begin t) d is = told d _ (of_task (begins u) (λ row m. either (is_in_progress row.state) _ _ refl refl) (task_row u t)) is
  does_rows at (Make t e) d is = told d _ (of_task (makes_one u at e) (λ row m. either (is_final row.state || is_made row.task.0 e u.rows) _ _ refl (of_entry at e row (slice_get m.subs e))) (task_row u t)) is
  does_rows at (Check t) d is = of_check (task_row u t) d is
  does_rows at (Close t state) d is = told d _ (of_row (closes u state) (λ row. either (is_final row.state) _ _ refl refl) (task_row u t)) is
  does_rows at (Up p c) d is = told d _ (of_row (λ child. on_task u (rises u child) (task_row u p)) (λ child. of_task (rises u child) (λ row m. either (is_final row.state) _ _ refl (either (has_failed child.state && is_automatic m.instantiation) _ _ refl refl)) (task_row u p)) (task_row u c)) is
  does_rows at (Next p c) d is = told d _ (of_row (λ child. on_task u (λ row m. follows_by u row m child.parent) (task_row u p)) (λ child. of_task (λ row m. follows_by u row m child.parent) (λ row m. follows row m child.parent) (task_row u p)) (task_row u c)) is

pub ends_rows : (at : Moment) (u v : TablesOf) (is : List Item) → Ends (Does at) u is v → OnlyRows u v
ends_rows at u v [] end = refl
ends_rows at u v (i ∷ is) (on {d = d} doing rest) = only_then u d.tables v (does_rows u at i d doing) (ends_rows at d.tables v (d.puts ++ is) rest)

pub frees_rows : (at : Moment) (task : ℕ) (u v : TablesOf) → Frees at task u v → OnlyRows u v
frees_rows at task u v frees = only_then u (with_rows u (freeing task u.rows)) v refl (ends_rows at (with_rows u (freeing task u.rows)) v (checks_of task u.rows) frees)

-- ---- what is gathered

pub gathers_rows : (u : TablesOf) (task : ℕ) (v : TablesOf) → Gathers u task v → OnlyRows u v
gathers_rows u task v (row, m, there, of, by) = go (if is_automatic m.completion then None else chosen u.rows m row) by
  where
    go : (o : Option FinishOf) → GathersBy u row m o v → OnlyRows u v
    go None is = let K : TablesOf → Type 0 = λ x. OnlyRows u x in subst K (sym is) refl
    go (Some f) is = let K : TablesOf → Type 0 = λ x. OnlyRows u x in subst K (sym is.2) refl

-- it is determined
pub one_gathered : (u : TablesOf) (task : ℕ) (v w : TablesOf) → Gathers u task v → Gathers u task w → v ≡ w
one_gathered u task v w (r, m, there, of, by) (s, n, found, named, other) =
    let row : r ≡ s = one (task_row u task) r s there found in
    let M : Row → Type 0 = λ x. model_of u x ≡ Some m in
    let model : m ≡ n = one (model_of u s) m n (subst M row of) named in
    let R : Row → Type 0 = λ x. GathersBy u x m (if is_automatic m.completion then None else chosen u.rows m x) v in
    let N : ModelOf → Type 0 = λ x. GathersBy u s x (if is_automatic x.completion then None else chosen u.rows x s) v in
    go (if is_automatic n.completion then None else chosen u.rows n s) (subst N model (subst R row by)) other
  where
    go : (o : Option FinishOf) → GathersBy u s n o v → GathersBy u s n o w → v ≡ w
    go None a b = a ∙ sym b
    go (Some f) a b =
        let same : a.0 ≡ b.0 = one_output (completed s.task.0 (length n.subs) u.rows) f.settings s.output a.0 b.0 a.1 b.1 in
        a.2 ∙ ap (λ (output : Values). with_row u (record s { output = output })) same ∙ sym b.2
