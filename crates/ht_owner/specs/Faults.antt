-- Why a command isn't done that its caller may do (WS-HumanTask 1.1, 7.1.1): the faults of each
-- operation, of which the first is told.
use Rattle.ht_base.specs.declared.limits.TheConstants.{MOST_COMMENTS}
use Rattle.ht_tree.specs.Tables.{directory, potential_owners_of, TablesOf}
use Rattle.std.specs.Prelude.{ℕ, ◌==◌, nat_lt, Bool, true, false, not, ◌&&◌, List, [], ◌∷◌, find, is_none, length, Option, Some, None, option_map, if◌then◌else◌}
use Rattle.std.specs.Option.{option_map_or}
use Rattle.ht_base.specs.declared.end.End.{End}
use Rattle.ht_base.specs.declared.event.Command.{Command}
use Rattle.ht_base.specs.declared.event.Command.TheVariants as command
use Rattle.ht_base.specs.declared.moment.Moment.{Moment}
use Rattle.ht_base.specs.declared.parts.Parts.{Parts}
use Rattle.ht_base.specs.declared.reply.Limit.TheVariants.{Comments}
use Rattle.ht_base.specs.declared.reply.Refusal.{Refusal}
use Rattle.ht_base.specs.declared.reply.Refusal.TheVariants as refusal
use Rattle.ht_base.specs.declared.reply.Unknown.TheVariants as unknown
use Rattle.ht_base.specs.declared.role_list.RoleList.{RoleList}
use Rattle.ht_base.specs.declared.role_list.RoleList.TheVariants as list
use Rattle.ht_base.specs.declared.values.Values.{Values}
use Rattle.ht_base.specs.Persons.{has}
use Rattle.ht_base.specs.Values.{value_of}
use Rattle.ht_entries.specs.declared.choices.Delegation.{Delegation}
use Rattle.ht_entries.specs.declared.choices.Delegation.TheVariants as delegation
use Rattle.ht_models.specs.Model.{ModelOf}
use Rattle.ht_entries.specs.Parts.{Part}
use Rattle.ht_owner.specs.Naming.{is_this}
use Rattle.ht_owner.specs.Suspending.{end_at}
use Rattle.ht_people.specs.Directory as people
use Rattle.ht_people.specs.Directory.{DirectoryOf}
use Rattle.ht_tree.specs.declared.row.Row.{Row}
use Rattle.ht_finding.specs.Assigning.{resolved}
use Rattle.ht_tree.specs.Creating.{seen_in}
use Rattle.ht_finding.specs.Giving.{refused_part}

-- ---- each fault

abbrev pub told : Bool → Refusal → Option Refusal
told b why = if b then Some why else None

-- the task has no owner, by its model
abbrev pub ownerless : ModelOf → Option Refusal
ownerless m = told (not m.owner_required) refusal.Ownerless

-- nobody could own it
abbrev pub no_owners : TablesOf → ModelOf → Row → Option Refusal
no_owners u m row = told (m.owner_required && (length (potential_owners_of u row) == 0)) refusal.NoOwners

abbrev pub by_group : Row → Option Refusal
by_group row = told row.by_group refusal.ByGroup

-- the first of the names that is no person's
abbrev pub unknown_person : DirectoryOf → List (List ℕ) → Option Refusal
unknown_person d names = option_map (λ name. refusal.Unknown (unknown.Person name)) (find (λ name. is_none (people.find name d)) names)

-- the person of this name is one of these
abbrev pub is_among : DirectoryOf → List ℕ → List ℕ → Bool
is_among d persons name = option_map_or (λ p. has p persons) (people.find name d) false

-- the first of the names whose person is one of these
abbrev pub excluded : DirectoryOf → List ℕ → List (List ℕ) → Option Refusal
excluded d persons names = option_map refusal.Excluded (find (is_among d persons) names)

-- the person of this name is the actual owner
abbrev pub is_owner : DirectoryOf → Option ℕ → List ℕ → Bool
is_owner d owner name = option_map_or (λ p. is_this p owner) (people.find name d) false

-- the first of the names that is the actual owner's
abbrev pub owner_named : DirectoryOf → Option ℕ → List (List ℕ) → Option Refusal
owner_named d owner names = option_map refusal.Excluded (find (is_owner d owner) names)

-- the task may be delegated to this person, by its model, whose assignment sees the task among all rows
abbrev pub may_delegate : TablesOf → ModelOf → Row → ℕ → Delegation → Bool
may_delegate u m row person delegation.Anybody = true
may_delegate u m row person delegation.Nobody = false
may_delegate u m row person delegation.PotentialOwners = has person (potential_owners_of u row)
may_delegate u m row person delegation.Other = option_map_or (λ a. has person (resolved (directory u) (seen_in m u.rows row) a)) m.delegatees false

abbrev pub not_delegatee : TablesOf → ModelOf → Row → List ℕ → Option Refusal
not_delegatee u m row name = option_map_or (λ p. told (not (may_delegate u m row p m.delegation)) (refusal.NotDelegatee name)) (people.find name (directory u)) None

-- the part that the model doesn't declare of the output, or of whose kind the value isn't
abbrev pub output_refused : DirectoryOf → ModelOf → Parts → Option Refusal
output_refused d m output = option_map refusal.PartRefused (refused_part d false m.output output)

-- it can't be skipped, by its model
abbrev pub not_skipable : ModelOf → Option Refusal
not_skipable m = told (not m.skipable) refusal.NotSkipable

-- it has as many comments as it may have
abbrev pub fully_commented : Row → Option Refusal
fully_commented row = told (not (nat_lt (length row.comments) MOST_COMMENTS)) (refusal.Limit Comments)

-- a suspension that begins at a moment would have ended by then
abbrev pub until_past : Moment → End → Option Refusal
until_past at end = told (not (nat_lt at.0 (end_at at end).0)) refusal.UntilPast

-- ---- of each operation at a moment, in their order

abbrev pub role_faults : DirectoryOf → ModelOf → Row → List (List ℕ) → RoleList → List (Option Refusal)
role_faults d m row names list.PotentialOwners = ownerless m ∷ unknown_person d names ∷ excluded d row.excluded_owners names ∷ []
role_faults d m row names list.ExcludedOwners = unknown_person d names ∷ owner_named d row.owner names ∷ []
role_faults d m row names list.Administrators = unknown_person d names ∷ []
role_faults d m row names list.Stakeholders = unknown_person d names ∷ []

abbrev pub faults : TablesOf → ModelOf → Moment → Row → Command → List (Option Refusal)
faults u m at row (command.Create model input activate_at) = []
faults u m at row command.Claim = []
faults u m at row command.Start = []
faults u m at row command.Stop = ownerless m ∷ []
faults u m at row command.Release = ownerless m ∷ []
faults u m at row (command.Delegate name) = ownerless m ∷ unknown_person (directory u) (name ∷ []) ∷ excluded (directory u) row.excluded_owners (name ∷ []) ∷ not_delegatee u m row name ∷ []
faults u m at row (command.Forward names) = ownerless m ∷ by_group row ∷ unknown_person (directory u) names ∷ excluded (directory u) row.excluded_owners names ∷ []
faults u m at row (command.Nominate names) = ownerless m ∷ unknown_person (directory u) names ∷ excluded (directory u) row.excluded_owners names ∷ []
faults u m at row command.Activate = no_owners u m row ∷ []
faults u m at row (command.SetRole role names) = role_faults (directory u) m row names role
faults u m at row (command.SetPriority priority) = []
faults u m at row command.Suspend = []
faults u m at row (command.SuspendUntil end) = until_past at end ∷ []
faults u m at row command.Resume = []
faults u m at row (command.SetOutput output) = output_refused (directory u) m output ∷ []
faults u m at row (command.Complete output) = output_refused (directory u) m output ∷ []
faults u m at row (command.Fail name) = []
faults u m at row command.Skip = not_skipable m ∷ []
faults u m at row command.Exit = []
faults u m at row command.Error = []
faults u m at row (command.AddComment text) = fully_commented row ∷ []
faults u m at row (command.InstantiateSubTask sub) = []

-- the first of these, if there is one
abbrev pub first_of : List (Option Refusal) → Option Refusal
first_of [] = None
first_of (None ∷ fs) = first_of fs
first_of (Some why ∷ fs) = Some why

abbrev pub fault : TablesOf → ModelOf → Moment → Row → Command → Option Refusal
fault u m at row c = first_of (faults u m at row c)

-- ---- behind what a command sets

abbrev pub is_unset : Values → Part → Bool
is_unset values part = not part.optional && is_none (value_of part.name values)

abbrev pub first_unset : Values → List Part → Option Refusal
first_unset values parts = option_map (λ p. refusal.NoOutput p.name) (find (is_unset values) parts)

-- the first part of the output that is required and has no value, of a task that is to be completed
abbrev pub no_output : ModelOf → Row → Command → Option Refusal
no_output m row (command.Complete output) = first_unset row.output m.output
no_output m row _ = None
