-- What comes of each command on a task's row (WS-HumanTask 1.1, 7.1.1 "Participant operations").
use Rattle.ht_tree.specs.Tables.{directory, TablesOf}
use Rattle.std.specs.Prelude.{◌≡◌, ℕ, ◌==◌, Bool, false, not, ◌&&◌, ◌||◌, List, [], ◌∷◌, ◌++◌, filter, Option, Some, None, unwrap_or, Result, Ok, Err}
use Rattle.ht_base.specs.declared.event.Command.{Command}
use Rattle.ht_base.specs.declared.event.Command.TheVariants as command
use Rattle.ht_base.specs.declared.moment.Moment.{Moment}
use Rattle.ht_base.specs.declared.parts.Parts.{Parts}
use Rattle.ht_base.specs.declared.reply.Refusal.{Refusal}
use Rattle.ht_base.specs.declared.role_list.RoleList.{RoleList}
use Rattle.ht_base.specs.declared.role_list.RoleList.TheVariants as list
use Rattle.ht_base.specs.declared.state.State.{State}
use Rattle.ht_base.specs.declared.state.State.TheVariants.{Ready}
use Rattle.ht_base.specs.Events.{op_of}
use Rattle.ht_base.specs.Persons.{has}
use Rattle.ht_base.specs.Values.{updated}
use Rattle.ht_models.specs.Model.{ModelOf}
use Rattle.ht_owner.specs.declared.follow.Follow.{Follow}
use Rattle.ht_owner.specs.declared.follow.Follow.TheVariants as follow
use Rattle.ht_owner.specs.declared.refusal.ActRefusal.{ActRefusal}
use Rattle.ht_owner.specs.declared.refusal.ActRefusal.TheVariants as why
use Rattle.ht_owner.specs.Faults.{fault, no_output}
use Rattle.ht_owner.specs.Moving.{ending, moved}
use Rattle.ht_owner.specs.Naming.{is_named, is_this, persons_named}
use Rattle.ht_owner.specs.Suspending.{end_at}
use Rattle.ht_people.specs.Directory.{DirectoryOf, find}
use Rattle.ht_people.specs.Membership.{everybody}
use Rattle.ht_tree.specs.declared.row.Row.{Row}
use Rattle.ht_finding.specs.Giving.{values_given}

-- the row after it and what follows on others, or why it isn't done
pub data Effect : Type 0 where
  does : Row → Follow → Effect
  refuses : Refusal → Effect

-- ---- what a command itself changes, before the table of changes moves the task

-- who hands a task on: of a ready task the caller, and else its owner
abbrev pub is_forwarder : ℕ → State → Option ℕ → ℕ → Bool
is_forwarder caller Ready owner person = person == caller
is_forwarder caller _ owner person = is_this person owner

-- they and the persons who are named
abbrev pub with_named : DirectoryOf → List ℕ → List (List ℕ) → List ℕ
with_named d persons names = filter (λ p. has p persons || is_named d names p) (everybody d)

abbrev pub without_named : DirectoryOf → List ℕ → List (List ℕ) → List ℕ
without_named d persons names = filter (λ p. has p persons && not (is_named d names p)) (everybody d)

abbrev pub forwarded : DirectoryOf → ℕ → Row → List (List ℕ) → List ℕ
forwarded d caller row names = filter (λ p. (has p row.potential_owners && not (is_forwarder caller row.state row.owner p)) || is_named d names p) (everybody d)

abbrev pub with_role : DirectoryOf → Row → List (List ℕ) → RoleList → Row
with_role d row names list.PotentialOwners = record row { potential_owners = persons_named d names; by_group = false }
with_role d row names list.ExcludedOwners = record row { excluded_owners = persons_named d names; potential_owners = without_named d row.potential_owners names }
with_role d row names list.Administrators = record row { administrators = persons_named d names }
with_role d row names list.Stakeholders = record row { stakeholders = persons_named d names }

-- with the parts of the output that are given
abbrev pub with_output : DirectoryOf → ModelOf → Row → Parts → Row
with_output d m row output = record row { output = updated row.output (values_given d m.output output) }

abbrev pub with_comment : Row → Moment → ℕ → List ℕ → Row
with_comment row at person text = record row { comments = row.comments ++ record { moment = at; person = person; text = text } ∷ [] }

-- at this moment
abbrev pub prepared : DirectoryOf → ModelOf → ℕ → Moment → Command → Row → Row
prepared d m caller at (command.Delegate name) row = record row { potential_owners = with_named d row.potential_owners (name ∷ []) }
prepared d m caller at (command.Forward names) row = record row { potential_owners = forwarded d caller row names }
prepared d m caller at (command.Nominate names) row = record row { potential_owners = persons_named d names; by_group = false }
prepared d m caller at (command.SetRole role names) row = with_role d row names role
prepared d m caller at (command.SetPriority priority) row = record row { priority = priority }
prepared d m caller at (command.SuspendUntil end) row = record row { until = Some (end_at at end) }
prepared d m caller at (command.SetOutput output) row = with_output d m row output
prepared d m caller at (command.Complete output) row = with_output d m row output
prepared d m caller at (command.Fail fault) row = record row { fault = fault }
prepared d m caller at (command.AddComment text) row = with_comment row at caller text
prepared d m caller at _ row = row

-- ---- and then

-- the person who is named as the owner
abbrev pub named_owner : DirectoryOf → ℕ → Command → ℕ
named_owner d caller (command.Delegate name) = unwrap_or (find name d) caller
named_owner d caller _ = caller

abbrev pub following : Command → Follow
following command.Start = follow.Began
following command.Activate = follow.Activate
following command.Suspend = follow.Held
following (command.SuspendUntil end) = follow.Held
following command.Resume = follow.Freed
following _ = follow.Nothing

-- where an activation is still to come the row as it was, and else as it is moved
abbrev pub moved_now : Follow → Row → Row → Row
moved_now follow.Activate old new = old
moved_now _ old new = new

-- an end and an activation are still to come, and everything else is as the table of changes says
abbrev pub leaves : DirectoryOf → ℕ → Command → Row → Option State → Effect
leaves d caller c row (Some end) = does row (follow.Close end)
leaves d caller c row None = does (moved_now (following c) row (moved (op_of c) caller (named_owner d caller c) row)) (following c)

abbrev pub unless : Option Refusal → Effect → Effect
unless None e = e
unless (Some why) e = refuses why

-- what comes of a command that was prepared
abbrev pub prepared_leaves : DirectoryOf → ModelOf → ℕ → Command → Row → Effect
prepared_leaves d m caller c row = unless (no_output m row c) (leaves d caller c row (ending row.state (op_of c)))

-- of a caller's command at a moment on a task of this model, among the rows of all tasks
abbrev pub effect : TablesOf → ModelOf → ℕ → Moment → Command → Row → Effect
effect u m caller at c row = unless (fault u m at row c) (prepared_leaves (directory u) m caller c (prepared (directory u) m caller at c row))

-- what is answered is what comes of it, with this row where it is done
abbrev pub Gives : Effect → Row → Result Follow ActRefusal → Type 0
Gives e row (Ok follow) = e ≡ does row follow
Gives e row (Err (why.Refused refusal)) = e ≡ refuses refusal
Gives e row (Err why.Memory) = Unit {0}
