-- A command closes a task only in a final state.
use Rattle.ht_tree.specs.Tables.{directory, TablesOf}
use Rattle.std.proofs.Common.{◌≡◌, ℕ, None, Option, Some, refl}
use Rattle.ht_base.specs.declared.event.Command.{Command}
use Rattle.ht_base.specs.declared.event.Command.TheVariants as command
use Rattle.ht_base.specs.declared.moment.Moment.{Moment}
use Rattle.ht_base.specs.declared.reply.Refusal.{Refusal}
use Rattle.ht_base.specs.declared.state.State.{State}
use Rattle.ht_base.specs.Events.{op_of}
use Rattle.ht_models.specs.Model.{ModelOf}
use Rattle.ht_owner.specs.Acting.{FollowIsFinal}
use Rattle.ht_owner.specs.Effects.{Effect, does, effect, following, leaves, prepared, prepared_leaves, refuses, unless}
use Rattle.ht_owner.specs.Faults.{fault, no_output}
use Rattle.ht_owner.specs.Moving.{ending}
use Rattle.ht_owner.proofs.EffectsSound.{ending_final}
use Rattle.ht_people.specs.Directory.{DirectoryOf}
use Rattle.ht_tree.specs.declared.row.Row.{Row}

-- where it is done
abbrev pub Closes : Effect → Type 0
Closes (does row next) = FollowIsFinal next
Closes (refuses why) = Unit {0}

-- or why it isn't done
unless_closes : (o : Option Refusal) (e : Effect) → Closes e → Closes (unless o e)
unless_closes None e is = is
unless_closes (Some why) e is = tt

-- what follows a command by itself closes nothing
quiet : (c : Command) → FollowIsFinal (following c)
quiet command.Start = tt
quiet c = tt

-- an end is one of the table of changes
leaves_closes : (d : DirectoryOf) (caller : ℕ) (c : Command) (row : Row) (o : Option State) → ending row.state (op_of c) ≡ o → Closes (leaves d caller c row o)
leaves_closes d caller c row (Some end) is = ending_final row.state (op_of c) end is
leaves_closes d caller c row None is = quiet c

-- the whole effect
pub effect_closes : (u : TablesOf) (m : ModelOf) (caller : ℕ) (at : Moment) (c : Command) (row : Row) → Closes (effect u m caller at c row)
effect_closes u m caller at c row =
    let new = prepared (directory u) m caller at c row in
    unless_closes (fault u m at row c) (prepared_leaves (directory u) m caller c new)
    (unless_closes (no_output m new c) (leaves (directory u) caller c new (ending new.state (op_of c)))
    (leaves_closes (directory u) caller c new (ending new.state (op_of c)) refl))
