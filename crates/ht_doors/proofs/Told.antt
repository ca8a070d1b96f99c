-- What a door in memory tells, by what it holds.
use Rattle.std.proofs.Common.{◌≡◌, ℕ, ◌+◌, ◌^◌, ◌<◌, List, [], ◌∷◌, ◌++◌, length, map, Some, option_map, Result, Ok, Err, IfOk, OnOk, OnErr, ap, ◌∙◌, arith}
use Rattle.std.proofs.lemmas.List.{length-map, map-append}
use Rattle.ht_doors.specs.Doors.{AreJoined}
use Rattle.ht_doors.specs.MemoryDoors.{ScriptedDoor, door_of, state_of, told_by}
use Rattle.ht_doors.specs.declared.memory_link.MemoryLink.{MemoryLink}

pub added_told : {T E : Type 0} (result : Result T E) (old new : ScriptedDoor) (link : MemoryLink) → OnOk result (new.returned ≡ old.returned ++ link ∷ [])
    → OnOk result ((told_by new).back ≡ option_map (λ b. b ++ state_of link ∷ []) (told_by old).back)
added_told (Ok t) old new link is = ap (λ l. Some (map state_of l)) is ∙ ap Some (map-append state_of old.returned (link ∷ []))
added_told (Err e) old new link is = tt

pub back_told : (old new : ScriptedDoor) → new.returned ≡ old.returned → (told_by new).back ≡ (told_by old).back
back_told old new is = ap (λ l. Some (map state_of l)) is

pub kept_told : {T E : Type 0} (result : Result T E) (old new : ScriptedDoor) → OnErr result (new.returned ≡ old.returned) → OnErr result ((told_by new).back ≡ (told_by old).back)
kept_told (Ok t) old new is = tt
kept_told (Err e) old new is = back_told old new is

pub fork_told : {E : Type 0} (result : Result ScriptedDoor E) (failing : List ℕ) → IfOk result (λ d. d ≡ door_of failing)
    → IfOk result (λ d. told_by d ≡ record { links = 0; faults = 0; back = Some [] })
fork_told (Ok d) failing is = ap told_by is
fork_told (Err e) failing is = tt

pub joined_told : (old fork new : ScriptedDoor) → (length old.returned + length fork.returned < 2 ^ 63 → new.returned ≡ old.returned ++ fork.returned)
    → AreJoined (told_by old).back (told_by fork).back (told_by new).back
joined_told old fork new is few =
    ap (λ l. Some (map state_of l)) (is (omega (arith, few, length-map old.returned state_of, length-map fork.returned state_of)))
    ∙ ap Some (map-append state_of old.returned fork.returned)
