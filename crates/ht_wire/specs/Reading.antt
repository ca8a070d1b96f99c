-- What one call of `next_request` reads: from the bytes that were buffered and those that it took
-- from the source, to the bytes that are buffered after it. It reads on only while more are needed.
use Rattle.std.specs.Prelude.{◌≡◌, ◌⊎◌, ℕ, List, ◌++◌, Option, Some, None, ⊤}
use Rattle.ht_outside.specs.Tells.{Flow, Takes, IsAtEnd}
use Rattle.ht_wire.specs.declared.reading.Next.{Next}
use Rattle.ht_wire.specs.declared.reading.Next.TheVariants.{Request, End, Refused, ReadFault, Memory}
use Rattle.ht_wire.specs.declared.request.Request.{Request as OneRequest}
use Rattle.ht_wire.specs.Heads.{IsEnd, IsCorner}
use Rattle.ht_wire.specs.Requests.{IsRequest, IsRefused, IsSame, IsUnfinished}

-- the bytes read are all there are, and they are the end of the requests
abbrev pub EndsAt : Option Flow → List ℕ → Type 0
EndsAt flow bytes = IsAtEnd flow × IsEnd bytes

-- and so they are with those that the source has left
abbrev pub IsRefusedOn : Option Flow → List ℕ → ℕ → Type 0
IsRefusedOn None bytes code = ⊤
IsRefusedOn (Some flow) bytes code = IsRefused (bytes ++ flow.left) code

-- the bytes read are refused with this code
abbrev pub RefusedAt : Option Flow → List ℕ → ℕ → Type 0
RefusedAt flow bytes code = IsRefused bytes code × IsRefusedOn flow bytes code

-- the answer, of the bytes that were read and not given out yet
abbrev pub Finds : List ℕ → Option Flow → List ℕ → Next → Type 0
Finds bytes flow new (Request r) = IsRequest bytes r new
Finds bytes flow new End = (new ≡ bytes) × EndsAt flow bytes
Finds bytes flow new (Refused code) = (new ≡ bytes) × RefusedAt flow bytes code
Finds bytes flow new ReadFault = (new ≡ bytes) × IsUnfinished bytes
Finds bytes flow new Memory = new ≡ bytes

-- the source failed, or there is no memory
abbrev pub IsFailure : Next → Type 0
IsFailure (Request r) = ⊥
IsFailure End = ⊥
IsFailure (Refused code) = ⊥
IsFailure ReadFault = Unit {0}
IsFailure Memory = Unit {0}

-- the answer is this request
abbrev pub Gives : OneRequest → Next → Type 0
Gives r (Request s) = IsSame r s
Gives r End = ⊥
Gives r (Refused code) = ⊥
Gives r ReadFault = ⊥
Gives r Memory = ⊥

-- in a corner, 431 and 400 stand for each other
abbrev pub IsEither : List ℕ → ℕ → ℕ → Type 0
IsEither stream code other = IsCorner stream × (((code ≡ 431) × (other ≡ 400)) ⊎ ((code ≡ 400) × (other ≡ 431)))

-- the answer is this code, or in a corner the other one
abbrev pub Refuses : List ℕ → ℕ → Next → Type 0
Refuses stream code (Request s) = ⊥
Refuses stream code End = ⊥
Refuses stream code (Refused other) = (other ≡ code) ⊎ IsEither stream code other
Refuses stream code ReadFault = ⊥
Refuses stream code Memory = ⊥

-- what stands in the stream is what is answered, unless the call fails
pub record IsTrueTo (stream : List ℕ) (next : Next) : Type 0 where
  pub request : (r : OneRequest) (rest : List ℕ) → IsRequest stream r rest → Gives r next ⊎ IsFailure next
  pub end : IsEnd stream → (next ≡ End) ⊎ IsFailure next
  pub refused : (code : ℕ) → IsRefused stream code → Refuses stream code next ⊎ IsFailure next

-- the stream: the bytes buffered, and those that the source has left, if it tells
abbrev pub IsExact : Option Flow → List ℕ → Next → Type 0
IsExact None old next = ⊤
IsExact (Some flow) old next = IsTrueTo (old ++ flow.left) next

-- no read was made, or the last one where this held of the bytes buffered and those taken before it
abbrev pub LastReadWhere : (List ℕ → Type 0) → Option Flow → Option Flow → List ℕ → Type 0
LastReadWhere P None None old = ⊤
LastReadWhere P None (Some new) old = ⊥
LastReadWhere P (Some f) None old = ⊥
LastReadWhere P (Some f) (Some g) old = (g ≡ f) ⊎ ((earlier : List ℕ) × (g.before ≡ f.taken ++ earlier) × P (old ++ earlier))

-- old and new: the bytes buffered before and after
pub record Reads (f g : Option Flow) (old new : List ℕ) (next : Next) : Type 0 where
  pub taken : List ℕ
  pub takes : Takes f g taken
  pub finds : Finds (old ++ taken) g new next
  pub exact : IsExact f old next
  pub needed : LastReadWhere IsUnfinished f g old
