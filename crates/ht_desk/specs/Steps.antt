-- One step of a durable office, from one state to the next: a doubt is settled, and then the event is decided and what it
-- leaves is kept.
use Rattle.std.specs.Prelude.{◌≡◌, ◌⊎◌, ◌<◌, ◌≤◌, [], ◌∷◌, ◌++◌, Some, None}
use Rattle.ht_base.specs.declared.event.Event.{Event}
use Rattle.ht_base.specs.declared.record.Record.{Record}
use Rattle.ht_base.specs.declared.reply.Answer.TheVariants.{Refused}
use Rattle.ht_base.specs.declared.reply.Limit.TheVariants as limit
use Rattle.ht_base.specs.declared.reply.Refusal.TheVariants as refusal
use Rattle.ht_base.specs.declared.reply.Reply.{Reply}
use Rattle.ht_base.specs.Records.{RecordOf, record_of}
use Rattle.ht_desk.specs.Counting.{replied, with_joined}
use Rattle.ht_desk.specs.Records.{length_of}
use Rattle.ht_desk.specs.Replaying.{Applies}
use Rattle.ht_desk.specs.States.{State, is_asking}
use Rattle.ht_machine.specs.Deciding.{Decides, reply_of}
pub use Rattle.ht_machine.specs.History.{memory_reply}
use Rattle.ht_outside.specs.Causes.{Rose}
use Rattle.ht_tree.specs.Tables.{TablesOf}

-- ---- replies for which nothing is decided, or what was decided isn't kept

-- a disk failed
abbrev pub store_reply : Reply
store_reply = reply_of (Refused refusal.Store)

-- the journal would be longer than it may be
abbrev pub full_reply : Reply
full_reply = reply_of (Refused (refusal.Limit limit.Journal))

-- ---- the two parts of a step

-- a record joins the others, and leads to these tables
abbrev pub with_record : State → RecordOf → TablesOf → State
with_record s r u = record s { tables = u; records = s.records ++ r ∷ []; counts = with_joined s.counts (is_asking r) }

-- The first part goes from the old state to the middle one.
pub data Settles (old mid : State) : Type 0 where
  -- nothing is in doubt
  certain : old.doubt ≡ None → mid ≡ old → Settles old mid
  -- the record in doubt isn't there
  dropped : (r : RecordOf) → old.doubt ≡ Some r → mid ≡ record old { doubt = None } → Settles old mid
  -- it is there, and joins the others
  joined : (r : RecordOf) (u : TablesOf) → old.doubt ≡ Some r → Applies old.tables r u → mid ≡ record (with_record old r u) { doubt = None } → Settles old mid
  -- a disk failed, and the doubt stays
  undecided : (r : RecordOf) → old.doubt ≡ Some r → mid ≡ record old { faults = mid.faults } → Rose old.faults mid.faults → Settles old mid

-- The second part goes on from there, by an event and its reply.
pub data Acts (mid : State) (event : Event) (reply : Reply) (new : State) : Type 0 where
  -- the doubt stayed
  unsettled : (r : RecordOf) → mid.doubt ≡ Some r → reply ≡ store_reply → new ≡ mid → Acts mid event reply new
  -- there is not enough memory
  out_of_memory : mid.doubt ≡ None → reply ≡ memory_reply → new ≡ mid → Acts mid event reply new
  -- the event leaves no record
  nothing_left : (u : TablesOf) → mid.doubt ≡ None → Decides mid.tables event None reply u → new ≡ mid → Acts mid event reply new
  -- with its record the journal would be too long
  full : (r : Record) (d : Reply) (u : TablesOf) → mid.doubt ≡ None → Decides mid.tables event (Some r) d u
      → mid.limit < length_of (mid.records ++ record_of r ∷ []) → reply ≡ full_reply → new ≡ mid → Acts mid event reply new
  -- its record joins the others
  done : (r : Record) (u : TablesOf) → mid.doubt ≡ None → Decides mid.tables event (Some r) reply u
      → length_of (mid.records ++ record_of r ∷ []) ≤ mid.limit → new ≡ with_record mid (record_of r) u → Acts mid event reply new
  -- a disk failed, and its record is in doubt or isn't there
  failed : (r : Record) (d : Reply) (u : TablesOf) → mid.doubt ≡ None → Decides mid.tables event (Some r) d u
      → length_of (mid.records ++ record_of r ∷ []) ≤ mid.limit → reply ≡ store_reply → Rose mid.faults new.faults
      → (new ≡ record mid { faults = new.faults }) ⊎ (new ≡ record mid { doubt = Some (record_of r); faults = new.faults }) → Acts mid event reply new

-- ---- a step

-- the reply is counted
abbrev pub replied_to : State → Event → Reply → State
replied_to s event reply = record s { counts = replied s.counts event reply.taken }

pub record Steps (old : State) (event : Event) (reply : Reply) (new : State) : Type 0 where
  -- in which the doubt is settled
  pub mid : State
  -- and the event was acted on
  pub acted : State
  pub settles : Settles old mid
  pub acts : Acts mid event reply acted
  pub counted : new ≡ replied_to acted event reply
