-- The gate of every command and read on a task: the task is there, and the person may do this with it
-- in its state.
use Rattle.std.specs.Prelude.{◌≡◌, ℕ, Option, Some, None}
use Rattle.ht_base.specs.declared.operation.Op.{Op}
use Rattle.ht_base.specs.declared.reply.Refusal.{Refusal}
use Rattle.ht_base.specs.declared.reply.Refusal.TheVariants as refusal
use Rattle.ht_owner.specs.Acting.{IsAllowed}
use Rattle.ht_rules.specs.declared.judging.Verdict.{Verdict}
use Rattle.ht_rules.specs.declared.judging.Verdict.TheVariants.{Yes, NeedsRole, WrongState}
use Rattle.ht_rules.specs.Judging.{verdict}
use Rattle.ht_tree.specs.declared.row.Row.{Row}
use Rattle.ht_tree.specs.Roles.{roles_in}
use Rattle.ht_tree.specs.Tables.{TablesOf, task_row}

-- it opens with the task's row, or is shut
pub data Gate : Type 0 where
  opens : Row → Gate
  shuts : Refusal → Gate

-- first for want of a role, then for the state
abbrev pub judged : Verdict → Row → Gate
judged Yes row = opens row
judged (NeedsRole needs) row = shuts (refusal.Role needs)
judged (WrongState allowed) row = shuts (refusal.State allowed row.state)

-- and before both for want of the task
abbrev pub gate_at : TablesOf → Op → ℕ → ℕ → Option Row → Gate
gate_at u op person task None = shuts (refusal.Task (record { 0 = task }))
gate_at u op person task (Some row) = judged (verdict op row.state (roles_in u row person)) row

abbrev pub gate : TablesOf → Op → ℕ → ℕ → Gate
gate u op person task = gate_at u op person task (task_row u task)

-- what is answered at the gate: why it is shut, or nothing
abbrev pub Answers : TablesOf → Op → ℕ → ℕ → Option Refusal → Type 0
Answers u op person task None = IsAllowed u op person task
Answers u op person task (Some refusal) = gate u op person task ≡ shuts refusal
