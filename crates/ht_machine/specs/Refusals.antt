-- In which order a command of a person is refused (WS-HumanTask 1.1, 7.1.1 and 7.1.5): for the first of these
-- that holds. Before it comes what the caller's name and number are refused for, and want of memory.
use Rattle.std.specs.Prelude.{◌≡◌, ℕ, List, [], ◌∷◌, ◌++◌, Option, None, Some, is_some, if◌then◌else◌}
use Rattle.std.specs.Option.{option_map_or}
use Rattle.ht_base.specs.declared.event.Command.{Command}
use Rattle.ht_base.specs.declared.event.Command.TheVariants as command
use Rattle.ht_base.specs.declared.moment.Moment.{Moment}
use Rattle.ht_base.specs.declared.operation.Op.TheVariants as op
use Rattle.ht_base.specs.declared.reply.Refusal.{Refusal}
use Rattle.ht_base.specs.declared.reply.Refusal.TheVariants as refusal
use Rattle.ht_base.specs.Events.{op_of}
use Rattle.ht_compose.specs.ByHand.{entry_of}
use Rattle.ht_machine.specs.Commands.{Consequence, GathersFirst, accepted, refused, refused_input, too_many, unknown_model}
use Rattle.ht_machine.specs.Gate.{Gate, gate, opens, shuts}
use Rattle.ht_models.specs.Model.{ModelOf}
use Rattle.ht_owner.specs.Effects.{prepared}
use Rattle.ht_owner.specs.Faults.{faults, first_of, no_output}
use Rattle.ht_tree.specs.declared.row.Row.{Row}
use Rattle.ht_tree.specs.Tables.{TablesOf, directory, model_of, task_row}

-- ---- the parts of the list

-- the task isn't there, or the caller may not do this with it, or not in its state
abbrev pub why_shut : Gate → Option Refusal
why_shut (opens row) = None
why_shut (shuts why) = Some why

-- the entry of this name isn't there, or its sub task may not be made
abbrev pub no_entry : TablesOf → ℕ → List ℕ → Row → ModelOf → List (Option Refusal)
no_entry u task name row m = (if is_some (entry_of u.rows m task name) then None else Some (refusal.SubRefused name)) ∷ []

-- the faults of the operation, and then the first part of the output that is required and would be unset
abbrev pub row_refusals : TablesOf → ℕ → Moment → Command → Row → ModelOf → List (Option Refusal)
row_refusals v caller at c row m = faults v m at row c ++ no_output m (prepared (directory v) m caller at c row) c ∷ []

-- by the task's row and its model
abbrev pub of_task : TablesOf → ℕ → (Row → ModelOf → List (Option Refusal)) → List (Option Refusal)
of_task u task why = option_map_or (λ row. option_map_or (why row) (model_of u row) []) (task_row u task) []

-- ---- the list

-- u are the tables that the command finds, and v those in which the results of a completion are gathered.
abbrev pub refusals : TablesOf → TablesOf → ℕ → Moment → ℕ → Command → List (Option Refusal)
refusals u v caller at task (command.Create name input activate_at) = unknown_model u name ∷ refused_input u name input ∷ too_many u name ∷ []
refusals u v caller at task (command.InstantiateSubTask name) = why_shut (gate u op.InstantiateSubTask caller task) ∷ of_task u task (no_entry u task name)
refusals u v caller at task c = why_shut (gate u (op_of c) caller task) ∷ of_task v task (row_refusals v caller at c)

-- ---- what comes of it

-- results are gathered behind the gate alone
abbrev pub GathersBehind : Gate → Command → ℕ → TablesOf → TablesOf → Type 0
GathersBehind (opens row) c task u v = GathersFirst c task u v
GathersBehind (shuts why) c task u v = v ≡ u

-- a command is refused for this, or accepted where there is nothing
abbrev pub ComesOf : Option Refusal → Consequence → Type 0
ComesOf None (accepted v about) = Unit {0}
ComesOf None (refused why) = ⊥
ComesOf (Some why) (accepted v about) = ⊥
ComesOf (Some why) (refused other) = other ≡ why

abbrev pub IsRefusedInOrder : TablesOf → ℕ → Moment → ℕ → Command → Consequence → Type 0
IsRefusedInOrder u caller at task c o =
    (v : TablesOf) × GathersBehind (gate u (op_of c) caller task) c task u v × ComesOf (first_of (refusals u v caller at task c)) o
