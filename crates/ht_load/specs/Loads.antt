-- What comes of a load.
use Rattle.std.specs.Prelude.{◌≡◌, ℕ, ◌+◌, [], ◌∷◌, length, map, Option, None, if◌then◌else◌, not}
use Rattle.ht_base.specs.declared.event.Event.{Event}
use Rattle.ht_base.specs.declared.record.Record.{Record}
use Rattle.ht_base.specs.declared.reply.Reply.{Reply}
use Rattle.ht_base.specs.History.{IsLegal, end_of}
use Rattle.ht_desk.specs.declared.desk_state.DeskState.{DeskState}
use Rattle.ht_desk.specs.Keeping.{IsAt}
use Rattle.ht_desk.specs.Moves.{DeskHistory, of_tables}
use Rattle.ht_desk.specs.Replaying.{TextsOf}
use Rattle.ht_desk.specs.States.{State}
use Rattle.ht_desk.specs.Stepping.{AnswersWith}
use Rattle.ht_desk.specs.Steps.{Steps}
use Rattle.ht_journal.specs.Rooms.{IsRoomy}
use Rattle.ht_load.specs.declared.answered.Answered.{Answered}
use Rattle.ht_load.specs.declared.sums.Sums.{Sums}
use Rattle.ht_load.specs.Answers.{AreDecided, NoneFailed, accepted_in, is_done, refused_in}
use Rattle.ht_load.specs.Requests.{request, thrice}
use Rattle.ht_machine.specs.Deciding.{Decides}
use Rattle.ht_outside.specs.declared.disk.Disk.{Ghosts}
use Rattle.ht_tree.specs.Tables.{TablesOf}

-- ---- what is asked

-- The events of these entries are the requests from number k on, where drawing has come to x. Each is made by how many
-- tasks there are before it.
abbrev pub AreDrawn : ℕ → ℕ → State → DeskHistory → Type 0
AreDrawn x k s [] = Unit {0}
AreDrawn x k s (e ∷ es) = (e.event ≡ request x k (length (s.tables).rows)) × AreDrawn (thrice x) (k + 1) e.after es

-- ---- what comes of it

-- so many requests were made from a seed, one after another, by an office that went from one state to another
pub record LoadOf (seed count : ℕ) (s t : State) : Type 0 where
  pub history : DeskHistory
  pub legal : IsLegal Steps s history
  pub ends : end_of s history ≡ t
  pub drawn : AreDrawn seed 0 s history
  pub many : length history ≡ count

-- the machine decides so of an event
abbrev pub Decided : TablesOf → Event → Reply → TablesOf → Type 0
Decided old event reply new = (left : Option Record) × Decides old event left reply new

-- So many requests were made, and these are the sums of their answers, with the tasks at the end.
pub record Loads (seed count : ℕ) (s t : State) (sums : Sums) : Type 0 where
  pub load : LoadOf seed count s t
  -- Where nothing was in doubt, each reply is what the task machine decides; but for want of memory, for a disk that failed
  -- and for the length of the journal.
  pub decided : s.doubt ≡ None → AreDecided load.history → IsLegal Decided s.tables (map of_tables load.history)
  pub requests : sums.requests ≡ count
  pub accepted : sums.accepted ≡ accepted_in load.history
  pub refused : sums.refused ≡ refused_in load.history
  pub tasks : sums.tasks ≡ length (t.tables).rows

-- ---- of a desk and its disk

-- In whichever state of an office the desk was, a load brought it to another. Over a disk with room for the whole journal
-- no disk failed.
abbrev pub LoadsOver : {D : Type 0} → Ghosts D → ℕ → ℕ → DeskState → DeskState → D → D → Sums → Type 0
LoadsOver d seed count old_desk new_desk old new sums =
    (beside : ℕ) (texts : TextsOf) (s : State) → IsAt d beside texts s old_desk old
    → (t : State) × (loads : Loads seed count s t sums) × IsAt d beside texts t new_desk new
    × (IsRoomy (d.room old) s.limit → (t.faults ≡ s.faults) × NoneFailed (loads.load).history)

-- request number k was made where drawing had come to x, and its answer was counted
pub record Makes {D : Type 0} (d : Ghosts D) (x k : ℕ) (old_desk new_desk : DeskState) (old new : D) (before after : Answered) : Type 0 where
  pub reply : Reply
  pub answers : AnswersWith d (request x k (length ((old_desk.tables).tables).rows)) reply old_desk new_desk old new
  pub accepted : after.accepted ≡ before.accepted + (if is_done reply.answer then 1 else 0)
  pub refused : after.refused ≡ before.refused + (if not (is_done reply.answer) then 1 else 0)
