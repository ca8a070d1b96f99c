-- Worked examples of the definitions. A wrong reading of one fails the check.
use Rattle.std.specs.Prelude.{◌≡◌, refl, ℕ, true, false, List, [], ◌∷◌, Option, Some, None, codes}
use Rattle.std.proofs.Common.{ap, lit<}
use Rattle.ht_doors.specs.Doors.{AreJoined, IsAccepted, LinkState, count_on, fresh}
use Rattle.ht_doors.specs.MemoryDoors.{ScriptedDoor, door_of, is_to_fail, state_of, told_by, written_at}
use Rattle.ht_doors.specs.declared.memory_link.MemoryLink.{MemoryLink}

-- ---- counts

three_and_four : count_on 3 4 ≡ 7
three_and_four = refl

counts_stop : count_on 18446744073709551614 2 ≡ 18446744073709551615
counts_stop = refl

-- ---- links that are taken

-- a link of this place, of whose bytes three were taken, and to which two were written
abbrev used : ℕ → MemoryLink
used place = record {
  source = record { flow = record { left = codes " one"; taken = codes "any"; before = [] }; failing = []; calls = 1; faults = 0 };
  sink = record { written = codes "ok"; failing = []; calls = 2; faults = 1 };
  place = place;
}

abbrev shown : LinkState
shown = record {
  input = record { flow = Some (record { left = codes " one"; taken = codes "any"; before = [] }); faults = 0 };
  output = record { written = Some (codes "ok"); faults = 1 };
}

-- with the bytes left, taken and written, and both counts of faults
what_a_link_tells : state_of (used 0) ≡ shown
what_a_link_tells = refl

any_bytes_are_taken : IsAccepted (Some []) (fresh (codes "GET"))
any_bytes_are_taken = (codes "GET", refl)

no_used_link_is_taken : IsAccepted (Some []) shown → ⊥
no_used_link_is_taken (bytes, is) = no (ap (λ (link : LinkState). link.output.faults) is)
  where
    no : ◌≡◌ {A = ℕ} 1 0 → ⊥
    no e = cc

-- ---- forks

-- the links of the fork stand behind those of the door
behind : AreJoined (Some (shown ∷ [])) (Some (fresh [] ∷ [])) (Some (shown ∷ fresh [] ∷ []))
behind few = refl

abbrev faults_of_first : Option (List LinkState) → ℕ
faults_of_first None = 0
faults_of_first (Some []) = 0
faults_of_first (Some (link ∷ links)) = link.output.faults

not_in_front : AreJoined (Some (shown ∷ [])) (Some (fresh [] ∷ [])) (Some (fresh [] ∷ shown ∷ [])) → ⊥
not_in_front joined = no (ap faults_of_first (joined (lit< tt)))
  where
    no : ◌≡◌ {A = ℕ} 0 1 → ⊥
    no e = cc

-- a door that doesn't tell goes on so
nothing_is_told : AreJoined None None None
nothing_is_told = refl

-- ---- a door in memory

abbrev door : ScriptedDoor
door = record (door_of (1 ∷ 3 ∷ [])) { returned = used 4 ∷ used 2 ∷ []; links = 2; faults = 1; calls = 1 }

what_it_tells : told_by door ≡ record { links = 2; faults = 1; back = Some (shown ∷ shown ∷ []) }
what_it_tells = refl

-- the numbers of calls begin at 1
the_first_call_fails : is_to_fail (door_of (1 ∷ 3 ∷ [])) ≡ true
the_first_call_fails = refl

the_second_does_not : is_to_fail door ≡ false
the_second_does_not = refl

written_to_it : written_at 2 door.returned ≡ codes "ok"
written_to_it = refl

it_was_not_handed_back : written_at 0 door.returned ≡ []
it_was_not_handed_back = refl
