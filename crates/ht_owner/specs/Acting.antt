-- A command on a task, as a step of a plan.
use Rattle.std.specs.Prelude.{◌≡◌, ℕ, Some, Result, Ok, Err, IsTrue}
use Rattle.ht_base.specs.declared.event.Command.{Command}
use Rattle.ht_base.specs.declared.moment.Moment.{Moment}
use Rattle.ht_base.specs.declared.operation.Op.{Op}
use Rattle.ht_base.specs.declared.reply.Refusal.{Refusal}
use Rattle.ht_models.specs.Model.{ModelOf}
use Rattle.ht_owner.specs.declared.follow.Follow.{Follow}
use Rattle.ht_owner.specs.declared.follow.Follow.TheVariants as follow
use Rattle.ht_owner.specs.declared.refusal.ActRefusal.{ActRefusal}
use Rattle.ht_owner.specs.declared.refusal.ActRefusal.TheVariants as why
use Rattle.ht_owner.specs.Effects.{does, effect, refuses}
use Rattle.ht_base.specs.State.{is_final}
use Rattle.ht_rules.specs.declared.judging.Verdict.TheVariants.{Yes}
use Rattle.ht_rules.specs.Judging.{verdict}
use Rattle.ht_tree.specs.declared.row.Row.{Row}
use Rattle.ht_tree.specs.Plans.{Goes, PlanOf, planned}
use Rattle.ht_tree.specs.Roles.{roles_in}
use Rattle.ht_tree.specs.Soundness.{KeepsSound}
use Rattle.ht_tree.specs.Tables.{TablesOf, model_of, task_row, with_row}

-- the task is there, and the person may do this with it in its state
pub record IsAllowed (u : TablesOf) (op : Op) (person task : ℕ) : Type 0 where
  pub row : Row
  pub there : task_row u task ≡ Some row
  pub may : verdict op row.state (roles_in u row person) ≡ Yes

-- a task is closed in a final state
abbrev pub FollowIsFinal : Follow → Type 0
FollowIsFinal (follow.Close end) = IsTrue (is_final end)
FollowIsFinal _ = Unit {0}

-- the task's row is as the command makes it, and the tables stay sound
pub record Makes (t : TablesOf) (old new : PlanOf) (task caller : ℕ) (at : Moment) (command : Command) (follow : Follow) : Type 0 where
  pub before : Row
  pub model : ModelOf
  pub after : Row
  pub there : task_row (planned t old) task ≡ Some before
  pub of_model : model_of (planned t old) before ≡ Some model
  pub effect_is : effect (planned t old) model caller at command before ≡ does after follow
  pub ends : FollowIsFinal follow
  pub goes : Goes t old new (planned t old) (with_row (planned t old) after)
  pub sound : KeepsSound (planned t old) (with_row (planned t old) after)
  pub found : task_row (with_row (planned t old) after) task ≡ Some after

-- a refusal of what the command names, which leaves the plan
pub record Refuses (t : TablesOf) (old new : PlanOf) (task caller : ℕ) (at : Moment) (command : Command) (refusal : Refusal) : Type 0 where
  pub before : Row
  pub model : ModelOf
  pub there : task_row (planned t old) task ≡ Some before
  pub of_model : model_of (planned t old) before ≡ Some model
  pub effect_is : effect (planned t old) model caller at command before ≡ refuses refusal
  pub same : new ≡ old

-- what a command makes of the plan, by its result; want of memory leaves the plan
abbrev pub Acts : TablesOf → PlanOf → PlanOf → ℕ → ℕ → Moment → Command → Result Follow ActRefusal → Type 0
Acts t old new task caller at command (Ok follow) = Makes t old new task caller at command follow
Acts t old new task caller at command (Err (why.Refused refusal)) = Refuses t old new task caller at command refusal
Acts t old new task caller at command (Err why.Memory) = new ≡ old
