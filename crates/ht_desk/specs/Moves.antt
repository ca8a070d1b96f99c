-- What the steps of a durable office are for the machine.
use Rattle.std.specs.Prelude.{◌≡◌, ◌⊎◌, List, [], ◌∷◌}
use Rattle.ht_base.specs.declared.event.Event.{Event}
use Rattle.ht_base.specs.declared.reply.Reply.{Reply}
use Rattle.ht_base.specs.History.{Entry, IsLegal}
use Rattle.ht_desk.specs.States.{State}
use Rattle.ht_desk.specs.Steps.{Steps, full_reply, store_reply}
use Rattle.ht_machine.specs.History.{History, IsStep}
use Rattle.ht_machine.specs.Once.{IsOf, IsRepeat, IsSame}
use Rattle.ht_tree.specs.declared.slot.Slot.{Slot}
use Rattle.ht_tree.specs.Tables.{TablesOf}

-- the event is refused for a disk or for the length of the journal, and nothing changes
abbrev pub IsNotKept : TablesOf → Reply → TablesOf → Type 0
IsNotKept old reply new = (new ≡ old) × ((reply ≡ store_reply) ⊎ (reply ≡ full_reply))

-- it is a step of the machine, or isn't kept
abbrev pub IsStepOrNone : TablesOf → Event → Reply → TablesOf → Type 0
IsStepOrNone old event reply new = IsStep old event reply new ⊎ IsNotKept old reply new

-- ---- histories

abbrev pub DeskHistory : Type 0
DeskHistory = List (Entry State Event Reply)

-- the same of the tables alone
abbrev pub of_tables : Entry State Event Reply → Entry TablesOf Event Reply
of_tables e = record { pass = e.pass; event = e.event; reply = e.reply; after = (e.after).tables }

-- A history of the machine that goes with one of a desk: it has the same entries in their order, but for those that aren't
-- kept. Others may stand between them. Which ones a step brings is said by Settles: the record in doubt that was there.
pub data IsMadeOf : DeskHistory → History → Type 0 where
  no_more : IsMadeOf [] []
  both : {e : Entry State Event Reply} {es : DeskHistory} {ms : History} → IsMadeOf es ms → IsMadeOf (e ∷ es) (of_tables e ∷ ms)
  not_kept : {e : Entry State Event Reply} {es : DeskHistory} {ms : History} → (e.reply ≡ store_reply) ⊎ (e.reply ≡ full_reply) → IsMadeOf es ms → IsMadeOf (e ∷ es) ms
  between : {m : Entry TablesOf Event Reply} {es : DeskHistory} {ms : History} → IsMadeOf es ms → IsMadeOf es (m ∷ ms)

-- ---- commands that are sent again

-- Wherever the slot's command is sent again, it does nothing, and gets its first answer, or is refused since a later one
-- was accepted. Or it isn't kept, as any other.
abbrev pub RemembersOver : (slot : Slot) (old : State) (history : DeskHistory) → IsLegal Steps old history → Type 0
RemembersOver slot old [] legal = Unit {0}
RemembersOver slot old (e ∷ es) legal =
    (IsOf ((legal.0).mid).tables slot slot.number e.event → IsSame slot e.event
    → IsRepeat slot ((legal.0).mid).tables e.event (e.after).tables (e.reply).answer ⊎ IsNotKept ((legal.0).mid).tables e.reply (e.after).tables)
    × RemembersOver slot e.after es legal.1
