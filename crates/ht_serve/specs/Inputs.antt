-- How the input of a connection ends. The endings Done, Wire and Budget are each exactly for one of these ways.
use Rattle.std.specs.Prelude.{◌≡◌, ◌⊎◌, ◌↔◌, ℕ, ◌+◌, ◌<◌, ◌≤◌, Bool, false, List, [], ◌∷◌, length, Option, Some, None, ⊤}
use Rattle.ht_outside.specs.Tells.{Flow}
use Rattle.ht_wire.specs.declared.request.Request.{Request}
use Rattle.ht_wire.specs.Heads.{IsEnd}
use Rattle.ht_wire.specs.Requests.{AreRequests, IsRefused}
use Rattle.ht_serve.specs.declared.ending.Ending.{Ending}
use Rattle.ht_serve.specs.declared.ending.Ending.TheVariants.{Done, Wire, Budget}
use Rattle.ht_serve.specs.Closing.{GoOn, Close, closes_at}

-- which of the replies to these requests, from number k on, close the connection
abbrev pub closes_of : Bool → ℕ → ℕ → List Request → List Bool
closes_of closing most k [] = []
closes_of closing most k (r ∷ rs) = closes_at closing most k r.last ∷ closes_of closing most (k + 1) rs

-- the last of these replies closes the connection, or none does and the rest is the end
abbrev pub AreOver : List Bool → List ℕ → Type 0
AreOver closes rest = Close closes ⊎ (GoOn closes × IsEnd rest)

-- the input is requests and their end, or requests of which the last closes the connection
pub record IsWhole (closing : Bool) (most : ℕ) (input : List ℕ) : Type 0 where
  pub asked : List Request
  pub rest : List ℕ
  pub stand : AreRequests input asked rest
  pub few : length asked ≤ most
  pub over : AreOver (closes_of closing most 0 asked) rest

-- behind some requests something is refused
pub record IsBroken (closing : Bool) (most : ℕ) (input : List ℕ) : Type 0 where
  pub asked : List Request
  pub rest : List ℕ
  pub stand : AreRequests input asked rest
  pub few : length asked < most
  pub open_still : GoOn (closes_of closing most 0 asked)
  pub code : ℕ
  pub refused : IsRefused rest code

-- behind the most requests that may be answered there isn't the end, and the connection isn't closed there
pub record IsTooMuch (closing : Bool) (most : ℕ) (input : List ℕ) : Type 0 where
  pub stays : closing ≡ false
  pub asked : List Request
  pub rest : List ℕ
  pub stand : AreRequests input asked rest
  pub all : length asked ≡ most
  pub open_still : GoOn (closes_of closing most 0 asked)
  pub more : IsEnd rest → ⊥

-- the ending of a connection that had no fault and memory enough, over an input that tells its bytes
abbrev pub IsEndingOf : Bool → ℕ → Option Flow → Ending → Type 0
IsEndingOf closing most None ending = ⊤
IsEndingOf closing most (Some flow) ending =
    ((ending ≡ Done) ↔ IsWhole closing most flow.left)
    × (((code : ℕ) × (ending ≡ Wire code)) ↔ IsBroken closing most flow.left)
    × ((ending ≡ Budget) ↔ IsTooMuch closing most flow.left)
