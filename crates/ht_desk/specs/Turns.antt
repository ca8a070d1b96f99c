-- A turn of a durable office.
use Rattle.std.specs.Prelude.{◌≡◌, ℕ, List, length, None}
use Rattle.ht_base.specs.declared.reply.Reply.{Reply}
use Rattle.ht_due.specs.declared.due.Due.{Due}
use Rattle.ht_machine.specs.Timer.{AreAlike}
use Rattle.ht_machine.specs.Turning.{IsTurn}
use Rattle.ht_tree.specs.RowDues.{first_due}
use Rattle.ht_tree.specs.Tables.{TablesOf}

-- All that was due by the moment was taken, in its order, and nothing is due by then any more. Nothing else changed but
-- the moment of the last record.
pub record HasTurned (before : TablesOf) (moment : ℕ) (reply : Reply) (after : TablesOf) : Type 0 where
  pub dues : List Due
  pub turned : TablesOf
  pub turn : IsTurn moment before dues turned
  pub taken : reply.taken ≡ length dues
  pub alike : AreAlike turned after
  pub ended : first_due after moment ≡ None
