-- A door in memory, of which a test says which calls fail.
use Rattle.std.specs.Prelude.{◌≡◌, ℕ, ◌==◌, Bool, List, [], ◌∷◌, map, Some, if◌then◌else◌}
use Rattle.std.specs.List.{list_any}
use Rattle.ht_outside.specs.Causes.{next_count}
use Rattle.ht_doors.specs.Doors.{DoorState, LinkState}
use Rattle.ht_doors.specs.declared.memory_link.MemoryLink.{MemoryLink}

-- what a link tells
abbrev pub state_of : MemoryLink → LinkState
state_of link = record {
  input = record { flow = Some link.source.flow; faults = link.source.faults };
  output = record { written = Some link.sink.written; faults = link.sink.faults };
}

-- failing: the numbers of the calls that fail, counted from 1. returned: the links that were handed back, in order
pub record ScriptedDoor : Type 0 where
  pub returned : List MemoryLink
  pub failing : List ℕ
  pub calls : ℕ
  pub links : ℕ
  pub faults : ℕ

-- a door at which nothing was done yet
abbrev pub door_of : List ℕ → ScriptedDoor
door_of failing = record { returned = []; failing = failing; calls = 0; links = 0; faults = 0 }

-- what a door tells
abbrev pub told_by : ScriptedDoor → DoorState
told_by door = record { links = door.links; faults = door.faults; back = Some (map state_of door.returned) }

-- whether the next call is to fail
abbrev pub is_to_fail : ScriptedDoor → Bool
is_to_fail door = list_any (λ n. n == next_count door.calls) door.failing

-- one more call was made, and the same ones are to fail
pub record IsCounted (old new : ScriptedDoor) : Type 0 where
  pub calls : new.calls ≡ next_count old.calls
  pub failing : new.failing ≡ old.failing

-- what was written to the link of this place, of those that were handed back the first; else nothing
abbrev pub written_at : ℕ → List MemoryLink → List ℕ
written_at place [] = []
written_at place (link ∷ links) = if link.place == place then link.sink.written else written_at place links
