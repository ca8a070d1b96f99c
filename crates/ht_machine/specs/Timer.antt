-- When the timer runs, and whether: histories of the same events, to which Turn events are added.
use Rattle.std.specs.Prelude.{◌≡◌, ◌≢◌, ◌≤◌, ℕ, Bool, true, false, List, [], ◌∷◌, filter, map}
use Rattle.ht_base.specs.declared.event.Event.{Event}
use Rattle.ht_base.specs.declared.event.Event.TheVariants.{Ask, Read, Turn}
use Rattle.ht_base.specs.declared.moment.Moment.{Moment}
use Rattle.ht_base.specs.declared.reply.Answer.{Answer}
use Rattle.ht_machine.specs.History.{History, IsHistory, memory_reply}
use Rattle.ht_tree.specs.Tables.{TablesOf, at_moment}

-- ---- events

abbrev pub is_command : Event → Bool
is_command (Ask at caller retry task command) = true
is_command _ = false

-- the second list is the first with Turn events added, anywhere
pub data AddsTurns : List Event → List Event → Type 0 where
  none : AddsTurns [] []
  both : {e : Event} {few more : List Event} → AddsTurns few more → AddsTurns (e ∷ few) (e ∷ more)
  turn : {at : Moment} {few more : List Event} → AddsTurns few more → AddsTurns few (Turn at ∷ more)

-- the moment of an event; a read has that of the event before it
abbrev pub moment_after : ℕ → Event → ℕ
moment_after before (Turn at) = at.0
moment_after before (Ask at caller retry task command) = at.0
moment_after before (Read caller what) = before

-- the moments begin no lower than this one, and don't fall
abbrev pub NeverFall : ℕ → List Event → Type 0
NeverFall before [] = Unit {0}
NeverFall before (e ∷ es) = (before ≤ moment_after before e) × NeverFall (moment_after before e) es

-- the moment of the last one
abbrev pub moment_of_last : ℕ → List Event → ℕ
moment_of_last before [] = before
moment_of_last before (e ∷ es) = moment_of_last (moment_after before e) es

-- ---- histories

abbrev pub events_of : History → List Event
events_of history = map (λ e. e.event) history

-- what the commands were answered
abbrev pub answers_of : History → List Answer
answers_of history = map (λ e. (e.reply).answer) (filter (λ e. is_command e.event) history)

-- no reply is one for want of memory
abbrev pub HadMemory : History → Type 0
HadMemory [] = Unit {0}
HadMemory (e ∷ es) = (e.reply ≢ memory_reply) × HadMemory es

-- from these tables on, at moments that don't fall
pub record IsTimely (t : TablesOf) (history : History) : Type 0 where
  pub legal : IsHistory t history
  pub memory : HadMemory history
  pub moments : NeverFall t.last (events_of history)

-- ---- tables

-- equal but for the moment of the last record
abbrev pub AreAlike : TablesOf → TablesOf → Type 0
AreAlike u v = v ≡ at_moment u v.last
