-- The states of a durable office.
use Rattle.std.specs.Prelude.{◌≡◌, ℕ, Bool, true, false, List, Option, None}
use Rattle.ht_base.specs.Records.{RecordOf}
use Rattle.ht_base.specs.Records.RecordOf.{an_opening, a_turn, an_asking}
use Rattle.ht_desk.specs.declared.counts.Counts.{Counts}
use Rattle.ht_desk.specs.Counting.{no_counts}
use Rattle.ht_tree.specs.Tables.{TablesOf}

-- Its tables, the records of its journal and the one that may be there beside them, how often its disks
-- failed, how long the journal may be, and what was counted since it was opened.
pub record State : Type 0 where
  pub tables : TablesOf
  pub records : List RecordOf
  pub doubt : Option RecordOf
  pub faults : ℕ
  pub limit : ℕ
  pub counts : Counts

-- a record of a command
abbrev pub is_asking : RecordOf → Bool
is_asking (an_opening models people) = false
is_asking (a_turn at) = false
is_asking (an_asking at caller retry task command) = true

-- as it is opened: nothing is in doubt, and nothing is counted yet
pub record IsOpened (limit : ℕ) (s : State) : Type 0 where
  pub certain : s.doubt ≡ None
  pub uncounted : s.counts ≡ no_counts
  pub limited : s.limit ≡ limit
