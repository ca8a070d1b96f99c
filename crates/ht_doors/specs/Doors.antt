-- What a door tells: how many links it took, how many of its calls failed, and the links that were handed back.
use Rattle.std.specs.Prelude.{◌≡◌, ℕ, ◌+◌, ◌-◌, ◌^◌, ◌<◌, min, List, [], ◌++◌, length, Option, Some, None, ⊤}
use Rattle.ht_outside.specs.Tells.{SourceState, SinkState}

-- what the two halves of a link tell
pub record LinkState : Type 0 where
  pub input : SourceState
  pub output : SinkState

abbrev pub link_of : SourceState → SinkState → LinkState
link_of input output = record { input = input; output = output }

-- a link with these bytes to read, of which nothing was taken or written, and of which no call failed
abbrev pub fresh : List ℕ → LinkState
fresh bytes = record {
  input = record { flow = Some (record { left = bytes; taken = []; before = [] }); faults = 0 };
  output = record { written = Some []; faults = 0 };
}

-- back: the links that were handed back, in order, where the door tells them
pub record DoorState : Type 0 where
  pub links : ℕ
  pub faults : ℕ
  pub back : Option (List LinkState)

-- a count after so many more, up to the greatest number of 64 bits, where it stops
abbrev pub count_on : ℕ → ℕ → ℕ
count_on n more = min (n + more) (2 ^ 64 - 1)

-- what a door that tells takes is a fresh link
abbrev pub IsAccepted : Option (List LinkState) → LinkState → Type 0
IsAccepted None link = ⊤
IsAccepted (Some back) link = (bytes : List ℕ) × (link ≡ fresh bytes)

-- the links of a fork stand behind those of the door, where both together have fewer than 2 ^ 63
abbrev pub AreJoined : Option (List LinkState) → Option (List LinkState) → Option (List LinkState) → Type 0
AreJoined None fork new = new ≡ None
AreJoined (Some old) None new = new ≡ Some old
AreJoined (Some old) (Some fork) new = length old + length fork < 2 ^ 63 → new ≡ Some (old ++ fork)
