-- What a run writes that has no fault, and memory for each reply: the task machine goes over the
-- requests of the bytes read, one by one.
use Rattle.std.specs.Prelude.{◌≡◌, ◌⊎◌, ℕ, ◌+◌, ◌<◌, ◌≤◌, List, [], ◌∷◌, ◌++◌, length, Option, Some, None, IfSome, Ok, Err, Result}
use Rattle.ht_base.specs.declared.event.Event.{Event}
use Rattle.ht_base.specs.declared.record.Record.{Record}
use Rattle.ht_base.specs.declared.reply.Answer.TheVariants.{Refused}
use Rattle.ht_base.specs.declared.reply.Reply.{Reply}
use Rattle.ht_base.specs.Records.{RecordOf, record_of}
use Rattle.ht_desk.specs.Opening.{AreOfFile}
use Rattle.ht_desk.specs.Records.{AreSpelled, length_of}
use Rattle.ht_desk.specs.Replaying.{IsJournalOf, TextsOf}
use Rattle.ht_desk.specs.States.{State}
use Rattle.ht_desk.specs.Steps.{full_reply}
use Rattle.ht_machine.specs.Deciding.{Decides}
use Rattle.ht_outside.specs.Clocks.{moment_of}
use Rattle.ht_tree.specs.Tables.{TablesOf}
use Rattle.ht_wire.specs.declared.request.Request.{Request}
use Rattle.ht_wire.specs.Replies.{reply_bytes}
use Rattle.ht_wire.specs.Requests.{AreRequests, IsRefused}
use Rattle.ht_api.specs.declared.refusal.ApiRefusal.{ApiRefusal}
use Rattle.ht_api.specs.Events.{event_due}
use Rattle.ht_api.specs.Refusals.{refusal_of}
use Rattle.ht_api.specs.Replies.{answer_text}
use Rattle.ht_api.specs.Statuses.{refusal_status}
use Rattle.ht_serve.specs.Closing.{GoOn}
use Rattle.ht_serve.specs.Inputs.{AreOver}
use Rattle.ht_serve.specs.Texts.{refusal_bytes, reply_status}
use Rattle.ht_program.specs.Inputs.{budget, lasts}
use Rattle.ht_program.specs.Reading.{Reads}
use Rattle.ht_program.specs.Words.{AreWords, WordsOf}
use Rattle.ht_program.specs.Words.WorkOf.{running}

-- ---- the office

-- its tables, and the records of its journal
pub record OfficeOf : Type 0 where
  pub tables : TablesOf
  pub records : List RecordOf

abbrev pub office_of : State → OfficeOf
office_of s = record { tables = s.tables; records = s.records }

-- What an office does with an event whose journal may have this length, apart from want of memory and from disks
-- that fail: the task machine decides, and the record that it leaves is kept. Or the journal would be too long with
-- it, and nothing changes.
pub data Decided (limit : ℕ) (old : OfficeOf) (event : Event) (reply : Reply) (new : OfficeOf) : Type 0 where
  nothing_left : (u : TablesOf) → Decides old.tables event None reply u → new ≡ old → Decided limit old event reply new
  kept : (r : Record) (u : TablesOf) → Decides old.tables event (Some r) reply u → length_of (old.records ++ record_of r ∷ []) ≤ limit
      → new ≡ record { tables = u; records = old.records ++ record_of r ∷ [] } → Decided limit old event reply new
  full : (r : Record) (d : Reply) (u : TablesOf) → Decides old.tables event (Some r) d u → limit < length_of (old.records ++ record_of r ∷ [])
      → reply ≡ full_reply → new ≡ old → Decided limit old event reply new

-- Of any machine, by what its steps are.
module _ {S : Type 0} (Step : S → Event → Reply → S → Type 0) where
  -- ---- one request

  -- the bytes of its reply and the state after it: the refusal of a request that makes no event, or
  -- what a step makes of its event
  abbrev pub RepliesTo : S → Request → Result Event ApiRefusal → List ℕ → S → Type 0
  RepliesTo s r (Err why) bytes after =
      (bytes ≡ reply_bytes (refusal_status (refusal_of why)) (answer_text (Refused (refusal_of why))) r.last) × (after ≡ s)
  RepliesTo s r (Ok e) bytes after =
      (reply : Reply) × Step s e reply after × (bytes ≡ reply_bytes (reply_status e reply.answer) (answer_text reply.answer) r.last)

  -- ---- requests one behind another

  -- each makes its event at its moment, of which `moment` has the kth for each k, in the state that the
  -- one before it left
  abbrev pub Folds : (ℕ → ℕ) → S → List Request → List ℕ → Type 0
  Folds moment s [] bytes = bytes ≡ []
  Folds moment s (r ∷ rs) bytes =
      (first : List ℕ) × (after : S) × (others : List ℕ)
      × RepliesTo s r (event_due r (moment 0)) first after
      × Folds (λ k. moment (k + 1)) after rs others
      × (bytes ≡ first ++ others)

-- ---- the bytes read

-- The requests in front of the rest are those that are answered: they end, or close the connection, or
-- are as many as may be. Nothing is written behind their replies.
abbrev pub AreAll : ℕ → List Request → List ℕ → Type 0
AreAll most asked rest =
    ((length asked ≤ most) × AreOver (lasts asked) rest) ⊎ (GoOn (lasts asked) × (length asked ≡ most))

-- or the rest is refused, and its refusal is written
abbrev pub IsBehind : ℕ → List Request → List ℕ → List ℕ → Type 0
IsBehind most asked rest tail =
    ((tail ≡ []) × AreAll most asked rest)
    ⊎ (GoOn (lasts asked) × (length asked < most) × ((code : ℕ) × IsRefused rest code × (tail ≡ refusal_bytes code)))

-- what is written of these bytes, by steps from this state on
pub record IsOutput {S : Type 0} (Step : S → Event → Reply → S → Type 0) (moment : ℕ → ℕ) (most : ℕ) (s : S) (bytes out : List ℕ) : Type 0 where
  pub asked : List Request
  pub rest : List ℕ
  pub stand : AreRequests bytes asked rest
  pub replies : List ℕ
  pub folds : Folds Step moment s asked replies
  pub tail : List ℕ
  pub behind : IsBehind most asked rest tail
  pub all : out ≡ replies ++ tail

-- what stands behind requests, none of which closes the connection, isn't refused both as a head that is
-- too long, 431, and as none, 400
abbrev pub IsRefusedOneWay : List ℕ → Type 0
IsRefusedOneWay bytes =
    (asked : List Request) (rest : List ℕ) → AreRequests bytes asked rest → GoOn (lasts asked) → IsRefused rest 431 → IsRefused rest 400 → ⊥

-- ---- the words, the texts and the journal

-- what the first file of the journal holds at the start: nothing, where there is none
abbrev pub file_of : Option (List ℕ) → List ℕ → List ℕ
file_of None file = []
file_of (Some name) file = file

-- the same as far as a disk tells it
abbrev pub file_told : Option (List ℕ) → Option (List ℕ) → Option (List ℕ)
file_told None told = Some []
file_told (Some name) told = told

-- the office of these texts whose records a file holds, where it is told, or one that begins where it holds none
pub record IsIn (texts : TextsOf) (file : Option (List ℕ)) (office : OfficeOf) : Type 0 where
  pub spelled : AreSpelled office.records
  pub journal : IsJournalOf texts office.records office.tables
  pub found : IfSome file (AreOfFile texts office.records)

-- what `office_alone` writes that is given these words, of `run`, these texts and this file, and reads these bytes
pub record IsOutputOf (words : List (List ℕ)) (told : List ℕ → List ℕ) (file bytes out : List ℕ) : Type 0 where
  pub said : WordsOf
  pub said_is : AreWords words said
  pub from : ℕ
  pub step : ℕ
  pub serves : said.work ≡ running from step
  pub texts : TextsOf
  pub reads : Reads said.texts (Some told) (Ok texts)
  pub office : OfficeOf
  pub opens : IsIn texts (Some (file_of said.journal file)) office
  pub output : IsOutput (Decided said.limit) (moment_of from step) budget office bytes out
