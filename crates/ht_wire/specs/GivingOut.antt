-- What comes of a whole head that stands at the front of a buffer: its body is read, and the request
-- is given out.
use Rattle.std.specs.Prelude.{◌≡◌, ◌⊎◌, ℕ, List, ◌++◌, length, drop, map, take, Option, Ok, Err}
use Rattle.httparse.specs.declared.spans.HeaderSpan.{HeaderSpan}
use Rattle.httparse.specs.declared.spans.RequestSpans.{RequestSpans}
use Rattle.httparse.specs.Spans.{header_bytes, span_bytes}
use Rattle.ht_outside.specs.Tells.{Flow, Takes, IsAtEnd}
use Rattle.ht_wire.specs.declared.reading.Next.{Next}
use Rattle.ht_wire.specs.declared.reading.Next.TheVariants.{Request, End, Refused, ReadFault, Memory}
use Rattle.ht_wire.specs.Bodies.{announced}
use Rattle.ht_wire.specs.Reading.{LastReadWhere}
use Rattle.ht_wire.specs.Requests.{Carries, IsCutShort}
use Rattle.ht_wire.specs.Window.{front}

-- the fields by name and value
abbrev pub fields_at : List ℕ → List HeaderSpan → RequestSpans → List (List ℕ × List ℕ)
fields_at bytes headers head = map (header_bytes bytes) (take head.headers headers)

-- the answer, of the bytes that are there when it is found
abbrev pub GivesAs : Option Flow → List ℕ → List ℕ → List HeaderSpan → RequestSpans → List ℕ → Next → Type 0
GivesAs g bytes before headers head new (Request r) =
    (drop head.len bytes ≡ r.body.items ++ new) × (announced (fields_at before headers head) ≡ Ok (length r.body.items))
    × Carries (span_bytes before head.method) (span_bytes before head.path) head.version (fields_at before headers head) r
GivesAs g bytes before headers head new (Refused code) =
    (new ≡ bytes)
    × ((announced (fields_at before headers head) ≡ Err code)
    ⊎ ((code ≡ 400) × IsCutShort (fields_at before headers head) (drop head.len bytes) × IsAtEnd g))
GivesAs g bytes before headers head new ReadFault = (new ≡ bytes) × IsCutShort (fields_at before headers head) (drop head.len bytes)
GivesAs g bytes before headers head new Memory = new ≡ bytes
GivesAs g bytes before headers head new End = ⊥

-- bytes were read only where the body wasn't there whole
pub record GivesOut (f g : Option Flow) (old : List ℕ) (headers : List HeaderSpan) (head : RequestSpans) (new : List ℕ) (next : Next) : Type 0 where
  pub taken : List ℕ
  pub takes : Takes f g taken
  pub gives : GivesAs g (old ++ taken) (front old) headers head new next
  pub needed : LastReadWhere (λ bytes. IsCutShort (fields_at (front old) headers head) (drop head.len bytes)) f g old
