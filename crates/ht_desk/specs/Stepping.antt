-- What a desk with its disk does when it answers an event.
use Rattle.std.specs.Prelude.{◌≡◌, ◌≢◌, ◌≤◌, ℕ}
use Rattle.ht_base.specs.declared.event.Event.{Event}
use Rattle.ht_base.specs.declared.reply.Reply.{Reply}
use Rattle.ht_desk.specs.declared.desk_state.DeskState.{DeskState}
use Rattle.ht_desk.specs.Keeping.{IsAt}
use Rattle.ht_desk.specs.Moments.{Leaves}
use Rattle.ht_desk.specs.Replaying.{TextsOf}
use Rattle.ht_desk.specs.States.{State}
use Rattle.ht_desk.specs.Steps.{Steps, store_reply}
use Rattle.ht_journal.specs.Rooms.{IsRoomy}
use Rattle.ht_outside.specs.Causes.{Rose}
use Rattle.ht_outside.specs.declared.disk.Disk.{Ghosts}
use Rattle.ht_tree.specs.Soundness.{IsSound}

-- it is that of an office, in some state, however often the other disk failed
abbrev pub Stands : {D : Type 0} → Ghosts D → DeskState → D → Type 0
Stands d desk disk = (beside : ℕ) × (texts : TextsOf) × (s : State) × IsAt d beside texts s desk disk

-- It answered the event with this reply, and went from old to new.
pub record AnswersWith {D : Type 0} (d : Ghosts D) (event : Event) (reply : Reply) (old_desk new_desk : DeskState) (old new : D) : Type 0 where
  -- In whichever state of an office it was, that made a step, by way of sound tables. And this is what a crash leaves of it.
  pub steps : (beside : ℕ) (texts : TextsOf) (s : State) → IsAt d beside texts s old_desk old
      → (t : State) × (p : Steps s event reply t) × IsAt d beside texts t new_desk new × IsSound (p.mid).tables × Leaves d texts s p.mid t event old new
  pub limit : (new_desk.journal).limit ≡ (old_desk.journal).limit
  pub room : d.room new ≡ d.room old
  -- over a disk that tells a room for the whole journal
  pub in_room : IsRoomy (d.room old) (old_desk.journal).limit → reply.answer ≢ store_reply.answer
  pub faults : d.faults old ≤ d.faults new
  pub still : reply.answer ≢ store_reply.answer → d.faults new ≡ d.faults old
  pub store : reply.answer ≡ store_reply.answer → Rose (d.faults old) (d.faults new)
  pub tells : d.tells_images new ≡ d.tells_images old
