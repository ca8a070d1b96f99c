-- What items do of tasks that are there, and plans that go on by them.
use Rattle.ht_tree.specs.Rows.{model_in}
use Rattle.std.proofs.Common.{◌≡◌, ℕ, List, length, map, Option, Some, sym, subst, ap, ◌∙◌}
use Rattle.ht_base.specs.declared.moment.Moment.{Moment}
use Rattle.ht_compose.specs.declared.item.Item.{Item as Task}
use Rattle.ht_compose.specs.Items.{Does, Item, Step, does, on_model, on_row, on_task}
use Rattle.ht_compose.specs.Running.{Acts, item_of}
use Rattle.ht_models.specs.Model.{ModelOf}
use Rattle.ht_tree.specs.declared.row.Row.{Row}
use Rattle.ht_base.specs.State.{is_final}
use Rattle.ht_tree.specs.Plans.{Goes, IsNext, IsPlanOf, Lends, PlanOf, planned}
use Rattle.ht_tree.specs.Soundness.{Fits, IsSound, IsSoundRow}
use Rattle.ht_tree.specs.Tables.{TablesOf, model_of, task_row, with_row}
use Rattle.ht_tree.proofs.PublicLaws.{IsPutAgain, filed_of, put_again, put_again_of, sound_row_fits, stays}

-- ---- of a task that is there

pub on_this_row : (u : TablesOf) (f : Row → Step) (t : ℕ) (row : Row) → task_row u t ≡ Some row → f row ≡ on_row u f (task_row u t)
on_this_row u f t row there = ap (λ (o : Option Row). on_row u f o) (sym there)

pub on_this_task : (u : TablesOf) (f : Row → ModelOf → Step) (t : ℕ) (row : Row) (m : ModelOf) → task_row u t ≡ Some row → model_of u row ≡ Some m → f row m ≡ on_task u f (task_row u t)
on_this_task u f t row m there of_model = ap (λ (o : Option ModelOf). on_model u row f o) (sym of_model) ∙ ap (λ (o : Option Row). on_task u f o) (sym there)

-- its model, by its place
pub model_there : (u : TablesOf) (row : Row) (models : List ModelOf) (m : ModelOf) → models ≡ u.models → model_in models row ≡ Some m → model_of u row ≡ Some m
model_there u row models m are at = ap (λ (ms : List ModelOf). model_in ms row) (sym are) ∙ at

-- ---- nothing changes

pub acts_as_before : (t : TablesOf) (p : PlanOf) (at : Moment) (item : Item) (puts : List Task) (todo : List Item) → IsPlanOf t p → IsSound (planned t p) → Does at (planned t p) item (does (planned t p) todo) → map item_of puts ≡ todo → Acts t p p at item puts
acts_as_before t p at item puts todo fit sound doing are = record { done = does (planned t p) todo; does = doing; goes = stays t p fit; sound = sound; puts_are = are }

-- ---- a row that is changed in its place

-- a task's row that was taken out of a plan, whose tables would be sound
pub record IsTaken (t : TablesOf) (old taken : PlanOf) (task : ℕ) (row : Row) : Type 0 where
  pub sound : IsSound (planned t old)
  pub there : task_row (planned t old) task ≡ Some row
  pub lends : Lends t old taken task

-- this row may take its place: the tables stay sound
pub record MayReplace (u : TablesOf) (row after : Row) : Type 0 where
  pub filed : filed_of after ≡ filed_of row
  pub ends : is_final row.state ≡ is_final after.state
  pub sound : IsSoundRow u row → IsSoundRow u after

module _ (t : TablesOf) (old : PlanOf) (task : ℕ) (row after : Row) (sound : IsSound (planned t old)) (there : task_row (planned t old) task ≡ Some row) (may : MayReplace (planned t old) row after) where
  put_for : IsPutAgain (planned t old) task row after
  put_for = put_again_of (planned t old) task row after there (sound.numbered task row there) may.filed may.ends may.sound

  pub fits_for : Fits t after
  fits_for = sound_row_fits t.models (length t.people.persons) after (may.sound (sound.rows_sound task row there))

  pub acts_for : (new : PlanOf) (at : Moment) (item : Item) (puts : List Task) (todo : List Item) → Goes t old new (planned t old) (with_row (planned t old) after) → Does at (planned t old) item (does (with_row (planned t old) after) todo) → map item_of puts ≡ todo → Acts t old new at item puts
  acts_for new at item puts todo goes doing are = record {
    done = does (with_row (planned t old) after) todo;
    does = doing;
    goes = goes;
    sound = put_for.keeps sound;
    puts_are = are;
  }

module _ {t : TablesOf} {old taken : PlanOf} {task : ℕ} {row after : Row} (is : IsTaken t old taken task row) (may : MayReplace (planned t old) row after) where
  pub again : IsPutAgain (planned t old) task row after
  again = put_for t old task row after is.sound is.there may

  pub again_next : IsNext (planned t taken).rows after
  again_next = (is.lends).next after again.number again.next

  pub again_fits : Fits t after
  again_fits = fits_for t old task row after is.sound is.there may

  pub goes_again : (new : PlanOf) → Goes t taken new (planned t taken) (with_row (planned t taken) after) → Goes t old new (planned t old) (with_row (planned t old) after)
  goes_again new goes =
      let L : ℕ → Type 0 = λ n. Lends t old taken n in
      put_again t old taken new after (subst L (sym again.number) is.lends) again.next goes

  pub acts_again : (new : PlanOf) (at : Moment) (item : Item) (puts : List Task) (todo : List Item) → Goes t taken new (planned t taken) (with_row (planned t taken) after) → Does at (planned t old) item (does (with_row (planned t old) after) todo) → map item_of puts ≡ todo → Acts t old new at item puts
  acts_again new at item puts todo goes doing are = acts_for t old task row after is.sound is.there may new at item puts todo (goes_again new goes) doing are
