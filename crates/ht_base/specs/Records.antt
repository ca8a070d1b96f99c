-- What is kept, with the bytes of texts as lists.
use Rattle.std.specs.Prelude.{ℕ, List, Option}
use Rattle.ht_base.specs.declared.event.Command.{Command}
use Rattle.ht_base.specs.declared.moment.Moment.{Moment}
use Rattle.ht_base.specs.declared.record.Record.{Record}
use Rattle.ht_base.specs.declared.record.Record.TheVariants.{Asked, Opening, Turn}
use Rattle.ht_base.specs.declared.retry.Retry.{Retry}
use Rattle.ht_base.specs.declared.task_id.TaskId.{TaskId}

pub data RecordOf : Type 0 where
  -- the models text and the people text
  an_opening : List ℕ → List ℕ → RecordOf
  a_turn : Moment → RecordOf
  an_asking : Moment → List ℕ → Option Retry → TaskId → Command → RecordOf

abbrev pub record_of : Record → RecordOf
record_of (Opening models people) = an_opening models.items people.items
record_of (Turn at) = a_turn at
record_of (Asked at caller retry task command) = an_asking at caller retry task command
