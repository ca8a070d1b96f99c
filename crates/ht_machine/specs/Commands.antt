-- What comes of a command of a person (WS-HumanTask 1.1, 4.10 and 7.1.1).
use Rattle.ht_owner.specs.Faults.{first_of}
use Rattle.std.specs.Prelude.{◌≡◌, ℕ, ◌+◌, nat_lt, true, List, [], ◌∷◌, length, Option, Some, None, is_some, option_map, if◌then◌else◌}
use Rattle.std.specs.Option.{option_and_then}
use Rattle.ht_base.specs.declared.event.Command.{Command}
use Rattle.ht_base.specs.declared.event.Command.TheVariants as command
use Rattle.ht_base.specs.declared.moment.Moment.{Moment}
use Rattle.ht_base.specs.declared.parts.Parts.{Parts}
use Rattle.ht_base.specs.declared.reply.Limit.TheVariants.{Tasks}
use Rattle.ht_base.specs.declared.reply.Refusal.{Refusal}
use Rattle.ht_base.specs.declared.reply.Refusal.TheVariants as refusal
use Rattle.ht_base.specs.declared.reply.Unknown.TheVariants as unknown
use Rattle.ht_base.specs.Events.{op_of}
use Rattle.ht_compose.specs.Agenda.{Ends}
use Rattle.ht_compose.specs.ByHand.{IsEntryOf}
use Rattle.ht_compose.specs.Gathering.{Gathers}
use Rattle.ht_compose.specs.Items as items
use Rattle.ht_compose.specs.Items.Item.{Activate, Make}
use Rattle.ht_models.specs.Model.{ModelOf}
use Rattle.ht_owner.specs.Effects.{Effect, does, effect, refuses}
use Rattle.ht_people.specs.Directory.{DirectoryOf}
use Rattle.ht_tree.specs.declared.row.Row.{Row}
use Rattle.ht_tree.specs.Creating.{is_full, new_row}
use Rattle.ht_finding.specs.Giving.{refused_part, values_given}
use Rattle.ht_tree.specs.Tables.{TablesOf, directory, model_at, model_named, model_of, task_row, with_row}
use Rattle.ht_machine.specs.Following.{Spreads}
use Rattle.ht_machine.specs.Gate.{Gate, gate, opens, shuts}

-- It is accepted: the tables after it, and the task that it is about. Or it is refused.
pub data Consequence : Type 0 where
  accepted : TablesOf → ℕ → Consequence
  refused : Refusal → Consequence

-- ---- create

-- why no task of the model can be created, to which this is given: something of it is refused
abbrev pub why_not_created : DirectoryOf → ModelOf → Parts → Option Refusal
why_not_created d m input = option_map refusal.PartRefused (refused_part d true m.input input)

-- when a task that is created at a moment is activated, if that is later
abbrev pub waits_until : ℕ → Option Moment → Option Moment
waits_until moment None = None
waits_until moment (Some m) = if nat_lt moment m.0 then Some m else None

-- the row of a new top task of a model at its place
abbrev pub new_task : TablesOf → ℕ → ℕ → ℕ → Parts → Option Moment → ModelOf → Row
new_task u caller moment place input waits m = new_row u m place None caller (values_given (directory u) m.input input) waits (record { 0 = moment })

-- a new task is activated at once, unless it waits
abbrev pub ActivatesUnless : Moment → Option Moment → ℕ → TablesOf → TablesOf → Type 0
ActivatesUnless at None task u v = Ends (items.Does at) u (Activate task ∷ []) v
ActivatesUnless at (Some m) task u v = v ≡ u

-- the place of the model that is named, or else of the first
abbrev pub place_named : TablesOf → Option (List ℕ) → Option ℕ
place_named u None = Some 0
place_named u (Some name) = model_named u name

abbrev pub unknown_model : TablesOf → Option (List ℕ) → Option Refusal
unknown_model u None = None
unknown_model u (Some name) = if is_some (model_named u name) then None else Some (refusal.Unknown (unknown.Model name))

abbrev pub refused_input : TablesOf → Option (List ℕ) → Parts → Option Refusal
refused_input u name input = option_and_then (λ m. why_not_created (directory u) m input) (option_and_then (model_at u) (place_named u name))

-- with the tree of the new task there would be
abbrev pub limit_at : TablesOf → ℕ → Option Refusal
limit_at u place = if is_full u place then Some (refusal.Limit Tasks) else None

abbrev pub too_many : TablesOf → Option (List ℕ) → Option Refusal
too_many u name = option_and_then (limit_at u) (place_named u name)

-- why a create is refused: by the first of these
abbrev pub why_not : TablesOf → Option (List ℕ) → Parts → Option Refusal
why_not u name input = first_of (unknown_model u name ∷ refused_input u name input ∷ too_many u name ∷ [])

-- Where nothing speaks against it, a task of the model is put behind the others, and activated unless it waits.
abbrev pub Creates : TablesOf → ℕ → ℕ → Option (List ℕ) → Parts → Option Moment → Consequence → Type 0
Creates u caller moment name input waits (accepted v task) =
    (why_not u name input ≡ None) × (place : ℕ) × (m : ModelOf) × (place_named u name ≡ Some place) × (model_at u place ≡ Some m)
    × (task ≡ length u.rows + 1) × ActivatesUnless (record { 0 = moment }) waits task (with_row u (new_task u caller moment place input waits m)) v
Creates u caller moment name input waits (refused why) = why_not u name input ≡ Some why

-- ---- a sub task that is made by hand

abbrev pub MakesEntry : TablesOf → ℕ → ℕ → List ℕ → Option ℕ → Consequence → Type 0
MakesEntry u moment task name None o = o ≡ refused (refusal.SubRefused name)
MakesEntry u moment task name (Some entry) (accepted v about) = Ends (items.Does (record { 0 = moment })) u (Make task entry ∷ []) v × (about ≡ length u.rows + 1)
MakesEntry u moment task name (Some entry) (refused why) = ⊥

-- of the entry with this name
abbrev pub MakesByHand : TablesOf → ℕ → ℕ → List ℕ → Consequence → Type 0
MakesByHand u moment task name o = (found : Option ℕ) × IsEntryOf u task name found × MakesEntry u moment task name found o

-- ---- the other commands

-- a task that its owner completes gathers its results first
abbrev pub GathersFirst : Command → ℕ → TablesOf → TablesOf → Type 0
GathersFirst (command.Complete output) task u v = Gathers u task v
GathersFirst _ task u v = v ≡ u

-- from the tables after the effect on
abbrev pub AfterEffect : TablesOf → ℕ → ℕ → Effect → Consequence → Type 0
AfterEffect u moment task (does row follow) (accepted v number) = Spreads (record { 0 = moment }) follow task (with_row u row) v × (number ≡ task)
AfterEffect u moment task (does row follow) (refused why) = ⊥
AfterEffect u moment task (refuses why) o = o ≡ refused why

-- of a task's row, as it is then
abbrev pub HasEffect : TablesOf → ℕ → ℕ → ℕ → Command → Consequence → Type 0
HasEffect u caller moment task command o =
    (row : Row) × (m : ModelOf) × (task_row u task ≡ Some row) × (model_of u row ≡ Some m) × AfterEffect u moment task (effect u m caller (record { 0 = moment }) command row) o

-- on a task on which the caller may act
abbrev pub DoesOn : TablesOf → ℕ → ℕ → ℕ → Command → Consequence → Type 0
DoesOn u caller moment task (command.InstantiateSubTask sub) o = MakesByHand u moment task sub o
DoesOn u caller moment task command o = (v : TablesOf) × GathersFirst command task u v × HasEffect v caller moment task command o

abbrev pub BehindGate : TablesOf → ℕ → ℕ → ℕ → Command → Gate → Consequence → Type 0
BehindGate u caller moment task command (opens row) o = DoesOn u caller moment task command o
BehindGate u caller moment task command (shuts why) o = o ≡ refused why

abbrev pub ActsOn : TablesOf → ℕ → ℕ → ℕ → Command → Consequence → Type 0
ActsOn u caller moment task command o = BehindGate u caller moment task command (gate u (op_of command) caller task) o

-- ---- all commands

abbrev pub Comes : TablesOf → ℕ → ℕ → ℕ → Command → Consequence → Type 0
Comes u caller moment task (command.Create model input activate_at) o = Creates u caller moment model input (waits_until moment activate_at) o
Comes u caller moment task command o = ActsOn u caller moment task command o
