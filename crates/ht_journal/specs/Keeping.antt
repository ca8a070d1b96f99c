-- What holds between a journal and its disk.
use Rattle.std.specs.Prelude.{◌≡◌, ℕ, ◌+◌, ◌≤◌, IsTrue, List, length, take, drop, Option, Some, None, IfSome, option_map}
use Rattle.ht_outside.specs.declared.disk.Disk.{Ghosts}
use Rattle.ht_journal.specs.Files.{Fit, front}
use Rattle.ht_journal.specs.Parts.{Stands}
use Rattle.ht_journal.specs.Pieces.{IsRead}
use Rattle.ht_journal.specs.declared.state.JournalState.{JournalState}

-- the body in doubt: its frame is at the front of the buffer
abbrev pub doubt_of : JournalState → Option (List ℕ)
doubt_of state = option_map (λ n. take n (drop 4 state.buffer.items)) state.doubt

-- how many bytes the frame in doubt takes, with the gate behind it
abbrev pub behind : Option ℕ → ℕ
behind None = 0
behind (Some n) = 5 + n

-- The journal has these bodies: the file has them, with the one in doubt if there is one, as far as the disk tells it, and
-- so has each image that a crash may leave.
pub record IsKept {D : Type 0} (d : Ghosts D) (bodies : List (List ℕ)) (state : JournalState) (disk : D) : Type 0 where
  pub count : state.count ≡ length bodies
  -- the place behind the closed gate
  pub place : state.length ≡ length (front bodies) + 1
  pub fit : Fit bodies
  pub told : state.length + behind state.doubt ≤ d.shown disk
  pub file : IfSome (d.gives disk) (Stands bodies (doubt_of state))
  pub images : IsTrue (d.tells_images disk) → (image : List ℕ) → d.may_leave disk image → Stands bodies (doubt_of state) image
  pub reading : IfSome (d.gives disk) (IsRead bodies state.reader)
