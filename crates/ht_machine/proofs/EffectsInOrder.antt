-- What a command makes of a row that is in order is in order.
use Rattle.ht_tree.specs.Tables.{directory, TablesOf}
use Rattle.std.proofs.Common.{◌≡◌, ℕ, ◌<◌, Bool, true, false, is_some, List, length, None, Option, Some, refl, arith}
use Rattle.ht_base.specs.declared.event.Command.{Command}
use Rattle.ht_base.specs.declared.event.Command.TheVariants as command
use Rattle.ht_base.specs.declared.moment.Moment.{Moment}
use Rattle.ht_base.specs.declared.reply.Refusal.{Refusal}
use Rattle.ht_base.specs.declared.role_list.RoleList.TheVariants as list
use Rattle.ht_base.specs.declared.state.State.{State}
use Rattle.ht_base.specs.Events.{op_of}
use Rattle.ht_compose.proofs.PublicLaws.{IsInOrder, same_in_order}
use Rattle.ht_models.specs.Model.{ModelOf}
use Rattle.ht_owner.proofs.PublicLaws.{HasBegun, begun_before}
use Rattle.ht_owner.specs.Effects.{Effect, does, effect, following, leaves, moved_now, named_owner, prepared, prepared_leaves, refuses, unless}
use Rattle.ht_owner.specs.Faults.{fault, no_output}
use Rattle.ht_owner.specs.Moving.{ending, moved, only_if, placed}
use Rattle.ht_people.specs.Directory.{DirectoryOf}
use Rattle.ht_tree.specs.declared.row.Row.{Row}
use Rattle.ht_tree.specs.Soundness.{is_created, is_suspended}

-- the row that it leaves, where it is done
abbrev pub LeavesInOrder : List ModelOf → Effect → Type 0
LeavesInOrder models (does row next) = IsInOrder models row
LeavesInOrder models (refuses why) = Unit {0}

-- or why it isn't done
unless_in_order : (models : List ModelOf) (o : Option Refusal) (e : Effect) → LeavesInOrder models e → LeavesInOrder models (unless o e)
unless_in_order models None e is = is
unless_in_order models (Some why) e is = tt

-- ---- a row that is placed in a state

-- what is there only where a test says so
only_then : (b : Bool) (o : Option Moment) → is_some (only_if b o) ≡ true → b ≡ true
only_then true o h = refl
only_then false o h = cc

-- it waits only while it is created, and is suspended to a moment only while it is suspended
placed_in_order : (models : List ModelOf) (state : State) (owner : Option ℕ) (row : Row) → row.model < length models → IsInOrder models (placed state owner row)
placed_in_order models state owner row there = record {
  model = there;
  waits = λ h. only_then (is_created state) row.waits h;
  until = λ h. only_then (is_suspended state) row.until h;
}

-- ---- what a command itself changes

module _ (d : DirectoryOf) (m : ModelOf) (caller : ℕ) (at : Moment) (row : Row) where
  -- never its model
  same_model : (c : Command) → (prepared d m caller at c row).model ≡ row.model
  same_model (command.SetRole list.PotentialOwners names) = refl
  same_model (command.SetRole list.ExcludedOwners names) = refl
  same_model (command.SetRole list.Administrators names) = refl
  same_model (command.SetRole list.Stakeholders names) = refl
  same_model c = refl

  -- but for a suspension up to a moment, neither its state nor its moments
  prepared_in_order : (models : List ModelOf) (c : Command) → HasBegun c → IsInOrder models row → IsInOrder models (prepared d m caller at c row)
  prepared_in_order models (command.SuspendUntil end) begun is = absurd begun
  prepared_in_order models (command.SetRole list.PotentialOwners names) begun is = same_in_order models row (prepared d m caller at (command.SetRole list.PotentialOwners names) row) refl refl refl refl is
  prepared_in_order models (command.SetRole list.ExcludedOwners names) begun is = same_in_order models row (prepared d m caller at (command.SetRole list.ExcludedOwners names) row) refl refl refl refl is
  prepared_in_order models (command.SetRole list.Administrators names) begun is = same_in_order models row (prepared d m caller at (command.SetRole list.Administrators names) row) refl refl refl refl is
  prepared_in_order models (command.SetRole list.Stakeholders names) begun is = same_in_order models row (prepared d m caller at (command.SetRole list.Stakeholders names) row) refl refl refl refl is
  prepared_in_order models c begun is = same_in_order models row (prepared d m caller at c row) refl refl refl refl is

  -- moved by the table of changes, or as it was where an activation is still to come
  now_in_order : (models : List ModelOf) (c : Command) → IsInOrder models row → IsInOrder models (moved_now (following c) (prepared d m caller at c row) (moved (op_of c) caller (named_owner d caller c) (prepared d m caller at c row)))
  now_in_order models command.Activate is = is
  now_in_order models c is = placed_in_order models _ _ (prepared d m caller at c row) (let low = is.model in let same = same_model c in omega (arith, low, same))

  -- what is left, with an end that is still to come or without
  left_in_order : (models : List ModelOf) (c : Command) (o : Option State) → ending (prepared d m caller at c row).state (op_of c) ≡ o → IsInOrder models row → LeavesInOrder models (leaves d caller c (prepared d m caller at c row) o)
  left_in_order models c (Some end) ends is = prepared_in_order models c (begun_before c (prepared d m caller at c row).state end ends) is
  left_in_order models c None ends is = now_in_order models c is

-- the whole effect
pub effect_in_order : (u : TablesOf) (models : List ModelOf) (m : ModelOf) (caller : ℕ) (at : Moment) (c : Command) (row : Row) → IsInOrder models row → LeavesInOrder models (effect u m caller at c row)
effect_in_order u models m caller at c row is =
    let new = prepared (directory u) m caller at c row in
    unless_in_order models (fault u m at row c) (prepared_leaves (directory u) m caller c new)
    (unless_in_order models (no_output m new c) (leaves (directory u) caller c new (ending new.state (op_of c)))
    (left_in_order (directory u) m caller at row models c (ending new.state (op_of c)) refl is))
