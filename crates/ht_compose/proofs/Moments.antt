-- What is done on composite tasks is the same whatever the moment of the last record was.
use Rattle.ht_models.specs.Contradictions.{is_automatic}
use Rattle.std.proofs.Common.{◌≡◌, ℕ, Bool, true, false, not, ◌&&◌, ◌||◌, List, [], ◌∷◌, ◌++◌, Option, None, Some, if◌then◌else◌, refl, ap, sym, ◌∙◌}
use Rattle.std.specs.Prelude.{slice_get}
use Rattle.ht_base.specs.declared.moment.Moment.{Moment}
use Rattle.ht_base.specs.declared.task_id.TaskId.{TaskId}
use Rattle.ht_compose.specs.Agenda.{Ends}
use Rattle.ht_compose.specs.Agenda.Ends.{end, on}
use Rattle.ht_compose.specs.Finishes.{chosen}
use Rattle.ht_compose.specs.Freeing.{Frees, checks_of}
use Rattle.ht_compose.specs.Downward.{freeing}
use Rattle.ht_compose.specs.Items.{Checks, Does, Finishes, Item, OnModel, OnTask, Step, activates, begins, closes, comes_next, follows_by, has_failed, is_checked, is_in_progress, makes_at, makes_entry, makes_of, makes_one, on_model, on_row, on_task, rises}
use Rattle.ht_compose.specs.Items.Item.{Activate, Begin, Check, Close, Make, Next, Up}
use Rattle.ht_models.specs.Model.{FinishOf, ModelOf}
use Rattle.ht_entries.specs.SubEntries.{SubEntry}
use Rattle.ht_tree.specs.declared.row.Row.{Row}
use Rattle.ht_base.specs.State.{is_final}
use Rattle.ht_tree.specs.Families.{is_made}
use Rattle.ht_tree.specs.Soundness.{is_created}
use Rattle.ht_tree.specs.Tables.{TablesOf, at_moment, model_at, model_named, model_of, task_row, with_rows}

module _ (n : ℕ) where
  -- with tables of the other moment
  abbrev moved : Step → Step
  moved d = record { tables = at_moment d.tables n; puts = d.puts }

  either : (b : Bool) (d e x y : Step) → d ≡ moved x → e ≡ moved y → (if b then d else e) ≡ moved (if b then x else y)
  either true d e x y first second = first
  either false d e x y first second = second

  module _ (u : TablesOf) where
    of_row : (f g : Row → Step) → ((row : Row) → g row ≡ moved (f row)) → (o : Option Row) → on_row (at_moment u n) g o ≡ moved (on_row u f o)
    of_row f g same None = refl
    of_row f g same (Some row) = same row

    of_model : (f g : Row → ModelOf → Step) (row : Row) → ((m : ModelOf) → g row m ≡ moved (f row m)) → (o : Option ModelOf) → on_model (at_moment u n) row g o ≡ moved (on_model u row f o)
    of_model f g row same None = refl
    of_model f g row same (Some m) = same m

    of_task : (f g : Row → ModelOf → Step) → ((row : Row) (m : ModelOf) → g row m ≡ moved (f row m)) → (o : Option Row) → on_task (at_moment u n) g o ≡ moved (on_task u f o)
    of_task f g same None = refl
    of_task f g same (Some row) = of_model f g row (same row) (model_of u row)

    of_entry : (at : Moment) (e : ℕ) (row : Row) (o : Option SubEntry) → makes_entry (at_moment u n) at row e o ≡ moved (makes_entry u at row e o)
    of_entry at e row None = refl
    of_entry at e row (Some entry) = placed (model_named u entry.model)
      where
        known : (place : ℕ) (o : Option ModelOf) → makes_of (at_moment u n) at row e entry place o ≡ moved (makes_of u at row e entry place o)
        known place None = refl
        known place (Some m) = refl

        placed : (o : Option ℕ) → makes_at (at_moment u n) at row e entry o ≡ moved (makes_at u at row e entry o)
        placed None = refl
        placed (Some place) = known place (model_at u place)

    of_check : (o : Option Row) (d : Step) → OnTask u (Checks u) o d → OnTask (at_moment u n) (Checks (at_moment u n)) o (moved d)
    of_check None d is = ap moved is
    of_check (Some row) d is = modelled (model_of u row) is
      where
        by_finish : (m : ModelOf) (o : Option FinishOf) → Finishes u row m o d → Finishes (at_moment u n) row m o (moved d)
        by_finish m None h = ap moved h
        by_finish m (Some f) (output, sets, h) = (output, sets, ap moved h)

        modelled : (o : Option ModelOf) → OnModel u row (Checks u) o d → OnModel (at_moment u n) row (Checks (at_moment u n)) o (moved d)
        modelled None h = ap moved h
        modelled (Some m) h = by_finish m (if is_checked u row m then chosen u.rows m row else None) h

    follows : (row : Row) (m : ModelOf) (o : Option (TaskId × ℕ)) → follows_by (at_moment u n) row m o ≡ moved (follows_by u row m o)
    follows row m None = refl
    follows row m (Some p) = either (not (is_final row.state) && comes_next m p.1) _ _ _ _ refl refl

    told : (d x y : Step) → d ≡ x → y ≡ moved x → moved d ≡ y
    told d x y is same = ap moved is ∙ sym same

    does_then : (at : Moment) (i : Item) (d : Step) → Does at u i d → Does at (at_moment u n) i (moved d)
    does_then at (Activate t) d is = told d _ _ is (of_task (activates u) (activates (at_moment u n)) (λ row m. either (is_created row.state) _ _ _ _ refl refl) (task_row u t))
    does_then at (Begin t) d is = told d _ _ is (of_task (begins u) (begins (at_moment u n)) (λ row m. either (is_in_progress row.state) _ _ _ _ refl refl) (task_row u t))
    does_then at (Make t e) d is = told d _ _ is (of_task (makes_one u at e) (makes_one (at_moment u n) at e) (λ row m. either (is_final row.state || is_made row.task.0 e u.rows) _ _ _ _ refl (of_entry at e row (slice_get m.subs e))) (task_row u t))
    does_then at (Check t) d is = of_check (task_row u t) d is
    does_then at (Close t state) d is = told d _ _ is (of_row (closes u state) (closes (at_moment u n) state) (λ row. either (is_final row.state) _ _ _ _ refl refl) (task_row u t))
    does_then at (Up p c) d is = told d _ _ is (of_row (λ child. on_task u (rises u child) (task_row u p)) (λ child. on_task (at_moment u n) (rises (at_moment u n) child) (task_row u p)) (λ child. of_task (rises u child) (rises (at_moment u n) child) (λ row m. either (is_final row.state) _ _ _ _ refl (either (has_failed child.state && is_automatic m.instantiation) _ _ _ _ refl refl)) (task_row u p)) (task_row u c))
    does_then at (Next p c) d is = told d _ _ is (of_row (λ child. on_task u (λ row m. follows_by u row m child.parent) (task_row u p)) (λ child. on_task (at_moment u n) (λ row m. follows_by (at_moment u n) row m child.parent) (task_row u p)) (λ child. of_task (λ row m. follows_by u row m child.parent) (λ row m. follows_by (at_moment u n) row m child.parent) (λ row m. follows row m child.parent) (task_row u p)) (task_row u c))

pub ends_at_moment : (at : Moment) (u v : TablesOf) (is : List Item) → Ends (Does at) u is v → (n : ℕ) → Ends (Does at) (at_moment u n) is (at_moment v n)
ends_at_moment at u v [] end n = end
ends_at_moment at u v (i ∷ is) (on {d = d} doing rest) n = on {d = moved n d} (does_then n u at i d doing) (ends_at_moment at d.tables v (d.puts ++ is) rest n)

pub frees_at_moment : (at : Moment) (task : ℕ) (u v : TablesOf) → Frees at task u v → (n : ℕ) → Frees at task (at_moment u n) (at_moment v n)
frees_at_moment at task u v frees n = ends_at_moment at (with_rows u (freeing task u.rows)) v (checks_of task u.rows) frees n
