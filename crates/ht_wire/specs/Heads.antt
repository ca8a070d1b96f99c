-- What stands at the front of a stream of bytes: the end, a whole head within the limits, or what
-- is refused. The grammar of heads is httparse's (RFC 9112, sections 2 to 5).
use Rattle.std.specs.Prelude.{◌≡◌, ◌⊎◌, ℕ, ◌<◌, ◌≤◌, List, length, map, All}
use Rattle.httparse.specs.Grammar.{RequestHead, print_request, ReadsRequest, HasNoRequest, NeverHasRequest, MayBecomeRequest, EndsInTarget}
use Rattle.httparse.specs.Spans.{RequestExceeds, RequestOverflows, name_and_value}
use Rattle.ht_wire.specs.declared.limits.TheConstants.{LONGEST_HEAD, MOST_FIELDS}
use Rattle.ht_wire.specs.Window.{front}

-- CR or LF
abbrev pub IsLineByte : ℕ → Type 0
IsLineByte b = (b ≡ 13) ⊎ (b ≡ 10)

-- the end of the requests: fewer bytes than a head may have, and all of them CR or LF
pub record IsEnd (stream : List ℕ) : Type 0 where
  pub short : length stream < LONGEST_HEAD
  pub blank : All IsLineByte stream

-- the head h, which isn't too long and hasn't too many fields, and then rest
pub record IsHead (stream : List ℕ) (h : RequestHead) (rest : List ℕ) : Type 0 where
  pub reads : ReadsRequest stream h rest
  pub short : length (print_request h) ≤ LONGEST_HEAD
  pub few : length h.fields ≤ MOST_FIELDS

-- a head is begun and isn't whole: bytes can follow that make it so, or it ends in its target
pub record IsBegun (stream : List ℕ) : Type 0 where
  pub short : length stream < LONGEST_HEAD
  pub none : HasNoRequest stream
  pub may : MayBecomeRequest stream

-- the fields of a head by name and value
abbrev pub fields_of : RequestHead → List (List ℕ × List ℕ)
fields_of h = map name_and_value h.fields

-- more fields than a head has, or as many bytes as one has at most that are no whole head but may begin one
abbrev pub IsTooLong : List ℕ → Type 0
IsTooLong stream =
    (RequestExceeds MOST_FIELDS (front stream) × RequestOverflows MOST_FIELDS (front stream))
    ⊎ ((LONGEST_HEAD ≤ length stream) × HasNoRequest (front stream) × MayBecomeRequest (front stream))

-- no continuation makes a head, or the bytes end before the head does
abbrev pub IsNoHead : List ℕ → Type 0
IsNoHead stream = NeverHasRequest (front stream) ⊎ ((length stream < LONGEST_HEAD) × HasNoRequest (front stream))

-- the two corners, in which a stream may be both too long and no head: as many bytes as a head has end in
-- the target, or more whole fields than a head has stand in them
abbrev pub IsCorner : List ℕ → Type 0
IsCorner stream = ((LONGEST_HEAD ≤ length stream) × EndsInTarget (front stream)) ⊎ RequestExceeds MOST_FIELDS (front stream)
