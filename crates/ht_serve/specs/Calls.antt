-- Calls of a machine, and who made them.
use Rattle.std.specs.Prelude.{◌≡◌, List, map}
use Rattle.ht_base.specs.History.{Entry, IsLegal, end_of, own}
use Rattle.ht_base.specs.declared.event.Event.{Event}
use Rattle.ht_base.specs.declared.reply.Reply.{Reply}

-- an event with its reply
pub record Call : Type 0 where
  pub event : Event
  pub reply : Reply

module _ {S : Type 0} where
  abbrev pub call_of : Entry S Event Reply → Call
  call_of e = record { event = e.event; reply = e.reply }

  abbrev pub calls_in : List (Entry S Event Reply) → List Call
  calls_in es = map call_of es

  -- these calls were made by one caller, in order, each once: they are those of a legal history of pass
  -- 0 from one state to the other
  pub record StepsMade (Step : S → Event → Reply → S → Type 0) (old new : S) (calls : List Call) : Type 0 where
    pub history : List (Entry S Event Reply)
    pub legal : IsLegal Step old history
    pub ends : end_of old history ≡ new
    pub own_are : own 0 history ≡ history
    pub calls_are : calls_in history ≡ calls
