-- A desk with its disk moves on by an event.
use Rattle.std.specs.Prelude.{◌≡◌}
use Rattle.ht_base.specs.declared.event.Event.{Event}
use Rattle.ht_base.specs.declared.reply.Reply.{Reply}
use Rattle.ht_desk.specs.declared.desk_state.DeskState.{DeskState}
use Rattle.ht_desk.specs.Stepping.{AnswersWith}
use Rattle.ht_outside.specs.declared.disk.Disk.{Ghosts}

-- of a value that has a disk, a desk and the name of the disk: it answers, and keeps its disk
abbrev pub Moves : {D A N : Type 0} → Ghosts D → (A → D) → (A → DeskState) → (A → N) → A → Event → Reply → A → Type 0
Moves d disk desk name old event reply new = (name new ≡ name old) × AnswersWith d event reply (desk old) (desk new) (disk old) (disk new)
