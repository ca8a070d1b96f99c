-- Sub tasks that a caller makes.
use Rattle.std.proofs.Common.{◌≡◌, ℕ, ◌+◌, Bool, true, false, Option, Some, List, [], ◌∷◌, length, refl, ap, sym, subst}
use Rattle.ht_base.specs.declared.moment.Moment.{Moment}
use Rattle.ht_base.specs.declared.operation.Op.TheVariants as op
use Rattle.ht_base.specs.declared.role.Roles.{Roles}
use Rattle.ht_base.specs.declared.state.State.{State}
use Rattle.ht_base.specs.declared.state.State.TheVariants as state
use Rattle.ht_base.specs.declared.task_id.TaskId.{TaskId}
use Rattle.ht_compose.proofs.PublicLaws.{is_to_make}
use Rattle.ht_compose.specs.ByHand.{IsEntryOf}
use Rattle.ht_compose.specs.Composing.{IsSubTask, IsToMake}
use Rattle.ht_compose.specs.Items.Item.{Make}
use Rattle.ht_compose.specs.Running.{Runs}
use Rattle.ht_machine.specs.Commands.{MakesByHand}
use Rattle.ht_machine.specs.Planning.{Does}
use Rattle.ht_owner.specs.Acting.{IsAllowed}
use Rattle.ht_rules.specs.declared.judging.Verdict.{Verdict}
use Rattle.ht_rules.specs.declared.judging.Verdict.TheVariants.{NeedsRole, WrongState, Yes}
use Rattle.ht_rules.specs.Judging.{verdict}
use Rattle.ht_base.specs.State.{is_final}
use Rattle.ht_tree.specs.Plans.{PlanOf, planned}
use Rattle.ht_tree.specs.Roles.{roles_in}
use Rattle.ht_tree.specs.Tables.{TablesOf}

abbrev is_yes : Verdict → Bool
is_yes Yes = true
is_yes (NeedsRole needs) = false
is_yes (WrongState allowed) = false

-- a sub task is made only of a task that hasn't ended
going_on : (s : State) (r : Roles) → verdict op.InstantiateSubTask s r ≡ Yes → is_final s ≡ false
going_on s r = at s r.actual_owner
  where
    at : (s : State) (b : Bool) → verdict op.InstantiateSubTask s (record r { actual_owner = b }) ≡ Yes → is_final s ≡ false
    at state.Completed true may = sym (ap is_yes may)
    at state.Completed false may = sym (ap is_yes may)
    at state.Failed true may = sym (ap is_yes may)
    at state.Failed false may = sym (ap is_yes may)
    at state.Error true may = sym (ap is_yes may)
    at state.Error false may = sym (ap is_yes may)
    at state.Exited true may = sym (ap is_yes may)
    at state.Exited false may = sym (ap is_yes may)
    at state.Obsolete true may = sym (ap is_yes may)
    at state.Obsolete false may = sym (ap is_yes may)
    at s b may = refl

pub to_make : (u : TablesOf) (caller task : ℕ) (name : List ℕ) (found : Option ℕ) (entry : ℕ) → IsAllowed u op.InstantiateSubTask caller task → IsEntryOf u task name found → found ≡ Some entry → IsToMake u task entry
to_make u caller task name found entry allowed is some =
    is_to_make u task name allowed.row found entry allowed.there (going_on (allowed.row).state (roles_in u allowed.row caller) allowed.may) is some

pub made_by_hand : (t : TablesOf) (old new : PlanOf) (at : Moment) (task : TaskId) (name : List ℕ) (found : Option ℕ) (entry : ℕ) (id : TaskId) → IsEntryOf (planned t old) task.0 name found → found ≡ Some entry → id.0 ≡ length (planned t old).rows + 1 → IsSubTask (planned t new) task.0 entry id.0 → Runs t old new at (Make task.0 entry ∷ []) → Does t old new (MakesByHand (planned t old) at.0 task.0 name) id
made_by_hand t old new at task name found entry id is some number there runs =
    let E : Option ℕ → Type 0 = λ o. IsEntryOf (planned t old) task.0 name o in
    let S : TablesOf → Type 0 = λ v. IsSubTask v task.0 entry id.0 in
    let row = subst S (runs.goes).to there in
    record {
      after = runs.after;
      comes = (Some entry, subst E some is, (runs.ends, number));
      goes = runs.goes;
      sound = λ sound. runs.sound;
      row = row.0;
      there = row.1;
    }
