-- What the two steps of reading a request do to a buffer.
use Rattle.std.specs.Prelude.{◌≡◌, ◌⊎◌, ℕ, ◌<◌, ◌≤◌, List, ◌++◌, length, Option, Some, None, Result, Ok, Err}
use Rattle.httparse.specs.declared.spans.HeaderSpan.{HeaderSpan}
use Rattle.httparse.specs.declared.spans.RequestSpans.{RequestSpans}
use Rattle.ht_outside.specs.Tells.{Flow, Takes, IsAtEnd}
use Rattle.ht_wire.specs.declared.buffer.FillFault.{FillFault}
use Rattle.ht_wire.specs.declared.buffer.FillFault.TheVariants as fault
use Rattle.ht_wire.specs.declared.looking.Sight.TheVariants.{Head}
use Rattle.ht_wire.specs.declared.reading.Next.{Next}
use Rattle.ht_wire.specs.declared.reading.Next.TheVariants.{Request, End, Refused, ReadFault, Memory}
use Rattle.ht_wire.specs.Looking.{Sees}
use Rattle.ht_wire.specs.Reading.{LastReadWhere, Reads}
use Rattle.ht_wire.specs.Requests.{IsUnfinished}
use Rattle.ht_wire.specs.Window.{front}

-- bytes were read behind those that were there, and only where this held of what was there
pub record ReadsOn (P : List ℕ → Type 0) (f g : Option Flow) (old new : List ℕ) : Type 0 where
  pub taken : List ℕ
  pub takes : Takes f g taken
  pub behind : new ≡ old ++ taken
  pub needed : LastReadWhere P f g old

-- nothing was read, or bytes were needed that weren't there
abbrev pub ReadsWhereNeeded : {A : Type 0} → A → A → List ℕ → List ℕ → Type 0
ReadsWhereNeeded before after old new = ((after ≡ before) × (new ≡ old)) ⊎ IsUnfinished old

-- a whole head stands in front, or the answer is found
abbrev pub FindsHead : Option Flow → Option Flow → List ℕ → List ℕ → List HeaderSpan → Result RequestSpans Next → Type 0
FindsHead f g old new headers (Ok head) = ReadsOn IsUnfinished f g old new × Sees (front new) headers (Head head)
FindsHead f g old new headers (Err next) = Reads f g old new next

-- why fewer bytes are there
abbrev pub IsWhyShort : Option Flow → Next → Type 0
IsWhyShort g (Refused code) = (code ≡ 400) × IsAtEnd g
IsWhyShort g ReadFault = Unit {0}
IsWhyShort g Memory = Unit {0}
IsWhyShort g (Request r) = ⊥
IsWhyShort g End = ⊥

abbrev pub ComesTo : ℕ → Option Flow → List ℕ → Option Next → Type 0
ComesTo end g new None = end ≤ length new
ComesTo end g new (Some next) = (length new < end) × IsWhyShort g next

-- so many bytes are there, or the answer is found
pub record FindsBody (end : ℕ) (f g : Option Flow) (old new : List ℕ) (result : Option Next) : Type 0 where
  pub reads : ReadsOn (λ bytes. length bytes < end) f g old new
  pub comes : ComesTo end g new result

abbrev pub failure : FillFault → Next
failure fault.Failed = ReadFault
failure fault.Memory = Memory
