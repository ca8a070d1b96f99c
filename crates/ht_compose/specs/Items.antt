-- What is done on composite tasks, item by item, and which items that puts (WS-HumanTask 1.1, 4.7 and 4.8).
use Rattle.std.specs.Prelude.{◌≡◌, ℕ, ◌+◌, min, nat_lt, zero, suc, Bool, true, false, not, ◌&&◌, ◌||◌, List, [], ◌∷◌, ◌++◌, filter_map, length, slice_get, Option, None, Some, option_map, unwrap_or, if◌then◌else◌}
use Rattle.std.specs.List.{list_any}
use Rattle.std.specs.Option.{option_map_or}
use Rattle.ht_base.specs.declared.moment.Moment.{Moment}
use Rattle.ht_base.specs.declared.state.State.{State}
use Rattle.ht_base.specs.declared.state.State.TheVariants as state
use Rattle.ht_base.specs.declared.task_id.TaskId.{TaskId}
use Rattle.ht_base.specs.declared.values.Values.{Values}
use Rattle.ht_base.specs.Values.{updated, value_of}
use Rattle.ht_compose.specs.Agenda.{Done}
use Rattle.ht_compose.specs.Downward.{closing, skipping}
use Rattle.ht_base.specs.State.{is_final}
use Rattle.ht_tree.specs.Families.{is_made, is_sub_of}
use Rattle.ht_compose.specs.Finishes.{HasResults, chosen}
use Rattle.ht_entries.specs.declared.choices.Composition.{Composition}
use Rattle.ht_entries.specs.declared.choices.Composition.TheVariants.{Parallel, Sequential}
use Rattle.ht_models.specs.Contradictions.{is_automatic}
use Rattle.ht_models.specs.Model.{FinishOf, ModelOf}
use Rattle.ht_entries.specs.SubEntries.{SubEntry}
use Rattle.ht_tree.specs.declared.row.Row.{Row}
use Rattle.ht_tree.specs.Activation.{activated_to, owner_by, state_by}
use Rattle.ht_tree.specs.Creating.{new_row}
use Rattle.ht_tree.specs.Rows.{put_in}
use Rattle.ht_tree.specs.Soundness.{is_created}
use Rattle.ht_tree.specs.Tables.{model_at, model_named, model_of, potential_owners_of, TablesOf, task_row, with_row, with_rows}

pub data Item : Type 0 where
  Activate : ℕ → Item
  Begin : ℕ → Item
  -- of an entry of a task
  Make : ℕ → ℕ → Item
  Check : ℕ → Item
  Close : ℕ → State → Item
  -- to a parent, from a sub task of it
  Up : ℕ → ℕ → Item
  Next : ℕ → ℕ → Item

abbrev pub Step : Type 0
Step = Done TablesOf Item

-- an item that doesn't act puts nothing
abbrev pub still : TablesOf → Step
still u = record { tables = u; puts = [] }

abbrev pub does : TablesOf → List Item → Step
does u puts = record { tables = u; puts = puts }

abbrev pub is_in_progress : State → Bool
is_in_progress state.InProgress = true
is_in_progress _ = false

abbrev pub is_sequential : Composition → Bool
is_sequential Sequential = true
is_sequential Parallel = false

-- ---- activate

-- A task without an owner is worked on at once. Another is given to its one potential owner, or is ready
-- for several, or stays created where there is none. It waits no more.
abbrev pub activated_as : Bool → List ℕ → Row → Row
activated_as needs_owner owners row =
    if needs_owner
    then activated_to (state_by owners row.state) (owner_by owners) row
    else activated_to state.InProgress row.owner row

abbrev pub activated : TablesOf → ModelOf → Row → Row
activated u m row = activated_as m.owner_required (potential_owners_of u row) row

abbrev pub activates : TablesOf → Row → ModelOf → Step
activates u row m =
    if is_created row.state
    then does (with_row u (activated u m row)) (if m.owner_required then [] else Begin row.task.0 ∷ [])
    else still u

-- ---- begin

-- the first entries, as many, in their order
abbrev pub makes : ℕ → ℕ → List Item
makes task zero = []
makes task (suc n) = makes task n ++ Make task n ∷ []

-- how many are made where the task begins: all, or the first where they come one behind another
abbrev pub first_entries : ModelOf → ℕ
first_entries m = if is_sequential m.composition then min 1 (length m.subs) else length m.subs

abbrev pub begins_with : ModelOf → Row → List Item
begins_with m row = if not row.started && is_automatic m.instantiation then makes row.task.0 (first_entries m) else []

-- what is to be done where a task begins: its first entries, and then it is checked
abbrev pub begun_with : ModelOf → Row → List Item
begun_with m row = begins_with m row ++ Check row.task.0 ∷ []

abbrev pub begins : TablesOf → Row → ModelOf → Step
begins u row m =
    if is_in_progress row.state
    then does (with_row u (record row { started = true })) (begun_with m row)
    else still u

-- ---- make

-- the values of the input parts of a sub task: those of the parts to which they are mapped, where set
abbrev pub mapped : SubEntry → Values → Values
mapped entry input = updated [] (filter_map (λ pair. option_map (λ v. (pair.0, v)) (value_of pair.1 input)) entry.input)

-- The initiator of a sub task is its parent's owner, or where it has none its parent's initiator.
abbrev pub sub_task : TablesOf → Moment → Row → ℕ → SubEntry → ℕ → ModelOf → Row
sub_task u at row e entry place m = new_row u m place (Some (row.task, e)) (unwrap_or row.owner row.initiator) (mapped entry row.input) None at

abbrev pub makes_of : TablesOf → Moment → Row → ℕ → SubEntry → ℕ → Option ModelOf → Step
makes_of u at row e entry place None = still u
makes_of u at row e entry place (Some m) = does (with_row u (sub_task u at row e entry place m)) (Activate (length u.rows + 1) ∷ [])

abbrev pub makes_at : TablesOf → Moment → Row → ℕ → SubEntry → Option ℕ → Step
makes_at u at row e entry None = still u
makes_at u at row e entry (Some place) = makes_of u at row e entry place (model_at u place)

abbrev pub makes_entry : TablesOf → Moment → Row → ℕ → Option SubEntry → Step
makes_entry u at row e None = still u
makes_entry u at row e (Some entry) = makes_at u at row e entry (model_named u entry.model)

abbrev pub makes_one : TablesOf → Moment → ℕ → Row → ModelOf → Step
makes_one u at e row m = if is_final row.state || is_made row.task.0 e u.rows then still u else makes_entry u at row e (slice_get m.subs e)

-- ---- check

-- a sub task of it has ended
abbrev pub has_sub_ended : List Row → ℕ → Bool
has_sub_ended rows task = list_any (λ s. is_sub_of task s && is_final s.state) rows

abbrev pub has_ended : TablesOf → Row → Bool
has_ended u row = has_sub_ended u.rows row.task.0

abbrev pub is_checked : TablesOf → Row → ModelOf → Bool
is_checked u row m = is_in_progress row.state && is_automatic m.completion && has_ended u row

-- with this output; what is below the task is skipped, and it is closed
abbrev pub finished : TablesOf → Row → Values → Step
finished u row output = does (with_rows u (skipping row.task.0 (put_in u.rows (record row { output = output })))) (Close row.task.0 state.Completed ∷ [])

-- the results of the finish are set
abbrev pub Finishes : TablesOf → Row → ModelOf → Option FinishOf → Step → Type 0
Finishes u row m None d = d ≡ still u
Finishes u row m (Some f) d =
    (output : Values) × HasResults u.rows m row f output × (d ≡ finished u row output)

abbrev pub Checks : TablesOf → Row → ModelOf → Step → Type 0
Checks u row m d = Finishes u row m (if is_checked u row m then chosen u.rows m row else None) d

-- ---- close

abbrev pub ups : Row → List Item
ups row = option_map_or (λ p. Up p.0.0 row.task.0 ∷ []) row.parent []

abbrev pub closes : TablesOf → State → Row → Step
closes u end row = if is_final row.state then still u else does (with_rows u (closing end row.task.0 u.rows)) (ups row)

-- ---- up

abbrev pub has_failed : State → Bool
has_failed state.Failed = true
has_failed state.Error = true
has_failed _ = false

-- A parent whose entries come by themselves fails with a sub task that fails, and takes its fault.
abbrev pub rises : TablesOf → Row → Row → ModelOf → Step
rises u child row m =
    if is_final row.state then still u
    else (if has_failed child.state && is_automatic m.instantiation
    then does (with_row u (record row { fault = child.fault })) (Close row.task.0 state.Failed ∷ [])
    else does u (Check row.task.0 ∷ Next row.task.0 child.task.0 ∷ []))

-- ---- next

-- an entry follows this one by itself
abbrev pub comes_next : ModelOf → ℕ → Bool
comes_next m entry = is_sequential m.composition && is_automatic m.instantiation && nat_lt (entry + 1) (length m.subs)

abbrev pub follows_by : TablesOf → Row → ModelOf → Option (TaskId × ℕ) → Step
follows_by u row m None = still u
follows_by u row m (Some p) =
    if not (is_final row.state) && comes_next m p.1
    then does u (Make row.task.0 (p.1 + 1) ∷ [])
    else still u

-- ---- the items

-- of a task that is there, and its model
abbrev pub on_model : TablesOf → Row → (Row → ModelOf → Step) → Option ModelOf → Step
on_model u row f None = still u
on_model u row f (Some m) = f row m

abbrev pub on_task : TablesOf → (Row → ModelOf → Step) → Option Row → Step
on_task u f None = still u
on_task u f (Some row) = on_model u row f (model_of u row)

abbrev pub on_row : TablesOf → (Row → Step) → Option Row → Step
on_row u f None = still u
on_row u f (Some row) = f row

abbrev pub OnModel : TablesOf → Row → (Row → ModelOf → Step → Type 0) → Option ModelOf → Step → Type 0
OnModel u row P None d = d ≡ still u
OnModel u row P (Some m) d = P row m d

abbrev pub OnTask : TablesOf → (Row → ModelOf → Step → Type 0) → Option Row → Step → Type 0
OnTask u P None d = d ≡ still u
OnTask u P (Some row) d = OnModel u row P (model_of u row) d

-- at a moment
abbrev pub Does : Moment → TablesOf → Item → Step → Type 0
Does at u (Activate t) d = d ≡ on_task u (activates u) (task_row u t)
Does at u (Begin t) d = d ≡ on_task u (begins u) (task_row u t)
Does at u (Make t e) d = d ≡ on_task u (makes_one u at e) (task_row u t)
Does at u (Check t) d = OnTask u (Checks u) (task_row u t) d
Does at u (Close t end) d = d ≡ on_row u (closes u end) (task_row u t)
Does at u (Up p c) d = d ≡ on_row u (λ child. on_task u (rises u child) (task_row u p)) (task_row u c)
Does at u (Next p c) d = d ≡ on_row u (λ child. on_task u (λ row m. follows_by u row m child.parent) (task_row u p)) (task_row u c)
