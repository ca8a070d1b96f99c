-- The requests that stand in a stream of bytes, and where they end.
use Rattle.std.specs.Prelude.{◌≡◌, ◌⊎◌, ℕ, ◌<◌, true, List, [], ◌∷◌, ◌++◌, length, Ok, Err}
use Rattle.httparse.specs.Grammar.{RequestHead}
use Rattle.ht_wire.specs.declared.request.Request.{Request}
use Rattle.ht_wire.specs.Bodies.{announced}
use Rattle.ht_wire.specs.Fields.{person_of, is_last}
use Rattle.ht_wire.specs.Heads.{IsEnd, IsHead, IsBegun, fields_of, IsTooLong, IsNoHead}

-- the request says what these parts of a head say
pub record Carries (method target : List ℕ) (minor : ℕ) (fields : List (List ℕ × List ℕ)) (r : Request) : Type 0 where
  pub method_is : r.method ≡ method
  pub target_is : r.target.items ≡ target
  pub person_is : r.person ≡ person_of fields
  pub last_is : r.last ≡ is_last minor fields

-- the request r stands at the front of the stream, head and body, and rest follows
pub record IsRequest (stream : List ℕ) (r : Request) (rest : List ℕ) : Type 0 where
  pub head : RequestHead
  pub stands : IsHead stream head (r.body.items ++ rest)
  pub sized : announced (fields_of head) ≡ Ok (length r.body.items)
  pub carries : Carries head.method head.target head.minor (fields_of head) r

-- the bytes behind a head end before the body does that its fields announce
abbrev pub IsCutShort : List (List ℕ × List ℕ) → List ℕ → Type 0
IsCutShort fields behind = (n : ℕ) × (announced fields ≡ Ok n) × (length behind < n)

-- a whole head, and less of a body than it announces
abbrev pub IsWithoutBody : List ℕ → Type 0
IsWithoutBody stream = (h : RequestHead) × (behind : List ℕ) × IsHead stream h behind × IsCutShort (fields_of h) behind

-- more bytes are needed to tell what stands there: so far it is the end, or the beginning of a head, or
-- a head without all of its body
abbrev pub IsUnfinished : List ℕ → Type 0
IsUnfinished stream = IsEnd stream ⊎ (IsBegun stream ⊎ IsWithoutBody stream)

-- a whole head, whose body is refused with this code: by the fields, or since the bytes end before it
abbrev pub IsBadBody : List ℕ → ℕ → Type 0
IsBadBody stream code =
    (h : RequestHead) × (behind : List ℕ) × IsHead stream h behind
    × ((announced (fields_of h) ≡ Err code) ⊎ ((code ≡ 400) × IsCutShort (fields_of h) behind))

-- why the stream is refused, and the code
abbrev pub IsReason : List ℕ → ℕ → Type 0
IsReason stream code =
    ((code ≡ 431) × IsTooLong stream) ⊎ (((code ≡ 400) × IsNoHead stream) ⊎ IsBadBody stream code)

-- the stream isn't the end of the requests, and it is refused with this code
pub record IsRefused (stream : List ℕ) (code : ℕ) : Type 0 where
  pub more : IsEnd stream → ⊥
  pub why : IsReason stream code

-- the codes of the refusals
abbrev pub IsRefusalCode : ℕ → Type 0
IsRefusalCode code = (code ≡ 431) ⊎ ((code ≡ 400) ⊎ ((code ≡ 413) ⊎ (code ≡ 501)))

-- two requests that say the same
pub record IsSame (r s : Request) : Type 0 where
  pub method : r.method ≡ s.method
  pub target : r.target.items ≡ s.target.items
  pub person : r.person ≡ s.person
  pub last : r.last ≡ s.last
  pub body : r.body.items ≡ s.body.items

-- these requests stand at the front of the stream, one behind another, and rest follows. None
-- stands behind one that is the last of its connection.
abbrev pub AreRequests : List ℕ → List Request → List ℕ → Type 0
AreRequests stream [] rest = stream ≡ rest
AreRequests stream (r ∷ rs) rest =
    (mid : List ℕ) × IsRequest stream r mid × (r.last ≡ true → rs ≡ []) × AreRequests mid rs rest
