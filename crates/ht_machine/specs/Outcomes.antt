-- Whether events have outcomes at all.
use Rattle.std.specs.Prelude.{◌≤◌, ℕ, List, [], ◌∷◌, length, Option}
use Rattle.ht_base.specs.declared.event.Event.{Event}
use Rattle.ht_base.specs.declared.record.Record.{Record}
use Rattle.ht_base.specs.declared.reply.Reply.{Reply}
use Rattle.ht_due.specs.declared.due.Due.{Due}
use Rattle.ht_machine.specs.Deciding.{Decides}
use Rattle.ht_machine.specs.Turning.{IsTurn}
use Rattle.ht_models.specs.Model.{ModelOf}
use Rattle.ht_models.specs.TreeSizes.{AreSized}
use Rattle.ht_tree.specs.Tables.{TablesOf}

-- models as they are read: there is one at least, and each one's tree is counted
pub record AreRead (models : List ModelOf) : Type 0 where
  pub some : 1 ≤ length models
  pub sized : AreSized models

-- a turn by this moment comes to its end
abbrev pub HasEnd : TablesOf → ℕ → Type 0
HasEnd t by = (dues : List Due) × (after : TablesOf) × IsTurn by t dues after

-- a record that is left, or none, a reply, and tables after it
abbrev pub HasOutcome : TablesOf → Event → Type 0
HasOutcome t e = (left : Option Record) × (reply : Reply) × (after : TablesOf) × Decides t e left reply after

-- and one after another each of these, from the tables that the one before it leaves
abbrev pub HaveOutcomes : TablesOf → List Event → Type 0
HaveOutcomes t [] = Unit {0}
HaveOutcomes t (e ∷ es) = (left : Option Record) × (reply : Reply) × (after : TablesOf) × Decides t e left reply after × HaveOutcomes after es
