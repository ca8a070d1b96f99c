-- In which state a desk with its disks is.
use Rattle.std.specs.Prelude.{◌≡◌, ℕ, ◌≤◌, Option, Some, None, option_map}
use Rattle.ht_base.specs.Records.{RecordOf}
use Rattle.ht_desk.specs.declared.desk_state.DeskState.{DeskState}
use Rattle.ht_desk.specs.declared.doubt.Doubt.{Doubt}
use Rattle.ht_desk.specs.Records.{AreSpelled, IsSpelled, bodies_of, spelling}
use Rattle.ht_desk.specs.Replaying.{Applies, IsJournalOf, TextsOf}
use Rattle.ht_desk.specs.States.{State, is_asking}
use Rattle.ht_journal.specs.Keeping.{IsKept, doubt_of}
use Rattle.ht_outside.specs.Causes.{together}
use Rattle.ht_outside.specs.declared.disk.Disk.{Ghosts}
use Rattle.ht_tree.specs.Plans.{IsPlanOf, IsPrepared, committed}
use Rattle.ht_tree.specs.Soundness.{IsSound}
use Rattle.ht_tree.specs.Tables.{RoomyTables}

-- a plan that can be committed, which makes what the record leads to
pub record Awaits (t : RoomyTables) (d : Doubt) (r : RecordOf) : Type 0 where
  pub fits : IsPlanOf t.tables d.plan
  pub prepared : IsPrepared t d.plan
  pub sound : IsSound (committed t.tables d.plan d.at.0)
  pub later : (t.tables).last ≤ d.at.0
  pub applies : Applies t.tables r (committed t.tables d.plan d.at.0)
  pub asked : d.asked ≡ is_asking r
  pub spelled : IsSpelled r

abbrev pub AreAwaited : RoomyTables → Option Doubt → Option RecordOf → Type 0
AreAwaited t None None = Unit {0}
AreAwaited t None (Some r) = ⊥
AreAwaited t (Some d) None = ⊥
AreAwaited t (Some d) (Some r) = Awaits t d r

-- The journal has the records of the state, and its doubt. They are those of an office of these texts, and lead to the
-- tables. `beside` is how often the other disk failed.
pub record IsAt {D : Type 0} (d : Ghosts D) (beside : ℕ) (texts : TextsOf) (s : State) (desk : DeskState) (disk : D) : Type 0 where
  pub tables : s.tables ≡ (desk.tables).tables
  pub kept : IsKept d (bodies_of s.records) desk.journal disk
  pub doubted : doubt_of desk.journal ≡ option_map spelling s.doubt
  pub awaited : AreAwaited desk.tables desk.doubt s.doubt
  pub failures : s.faults ≡ together (d.faults disk) beside
  pub limited : s.limit ≡ (desk.journal).limit
  pub counted : s.counts ≡ desk.counts
  pub spelled : AreSpelled s.records
  pub sound : IsSound s.tables
  pub office : IsJournalOf texts s.records s.tables
