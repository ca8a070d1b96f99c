-- Worked examples of the definitions. A wrong reading of one fails the check.
use Rattle.std.specs.Prelude.{◌≡◌, refl, ℕ, zero, suc, ◌<◌, ◌≤◌, List, [], ◌∷◌, ◌++◌, Some, codes, true, false, slice_index}
use Rattle.std.proofs.Common.{ap, arith, inl, ⊎_elim, lit<, lit≤}
use Rattle.ht_outside.specs.ByteLaws.{tested}
use Rattle.ht_outside.specs.Causes.{together}
use Rattle.ht_outside.specs.Clocks.{IsNext, later, moment_of}
use Rattle.ht_outside.specs.CrashModel.{IsImage, IsMarked, IsTouched, IsUntouched, Unsynced, present}
use Rattle.ht_outside.specs.DiskHistory.{stand}
use Rattle.ht_outside.specs.Disks.{Torn, written}
use Rattle.ht_outside.specs.MemoryDisks.{IsPicked, disk_of, earlier, holds_bytes, is_from, is_to_fail}
use Rattle.ht_outside.specs.Patches.{PatchOf}
use Rattle.ht_outside.specs.declared.disk_call.DiskCall.TheVariants.{Write, Sync}

-- ---- whole writes

a_piece_within : written 1 (codes "XY") (codes "abcd") ≡ codes "aXYd"
a_piece_within = refl

a_piece_over_the_end : written 3 (codes "XY") (codes "abcd") ≡ codes "abcXY"
a_piece_over_the_end = refl

-- zeros come between
a_piece_past_the_end : written 6 (codes "Z") (codes "abcd") ≡ codes "abcd" ++ 0 ∷ 0 ∷ codes "Z"
a_piece_past_the_end = refl

-- a piece without bytes reaches up to its place too
nothing_past_the_end : written 6 [] (codes "abcd") ≡ codes "abcd" ++ 0 ∷ 0 ∷ []
nothing_past_the_end = refl

nothing_within : written 2 [] (codes "abcd") ≡ codes "abcd"
nothing_within = refl

-- ---- torn writes

any_bytes_in_the_range : Torn 1 2 (codes "abcd") (codes "a?!d")
any_bytes_in_the_range = record { before = refl; after = refl; no_shorter = lit≤ tt; no_longer = lit≤ tt }

-- a write of two bytes at 3 that came half
an_end_between : Torn 3 2 (codes "abcd") (codes "abc?")
an_end_between = record { before = refl; after = refl; no_shorter = lit≤ tt; no_longer = lit≤ tt }

-- the part past the old end may hold any bytes, also before the range
any_bytes_past_the_end : Torn 6 1 (codes "abcd") (codes "abcd?!")
any_bytes_past_the_end = record { before = refl; after = refl; no_shorter = lit≤ tt; no_longer = lit≤ tt }

no_byte_before : Torn 1 2 (codes "abcd") (codes "?bcd") → ⊥
no_byte_before torn = let same : ◌≡◌ {A = ℕ} 63 97 = ap (λ (bytes : List ℕ). slice_index bytes 0) torn.before in omega arith

no_end_below : Torn 1 2 (codes "abcd") (codes "abc") → ⊥
no_end_below torn = omega (arith, torn.no_shorter)

-- ---- what a crash leaves

abbrev patch : ℕ → List ℕ → PatchOf
patch at piece = record { at = at; piece = piece }

-- four bytes, of which the middle was written over, and one byte past the end
abbrev disk : Unsynced
disk = record { synced = codes "abcd"; patches = patch 1 (codes "XY") ∷ patch 6 (codes "Z") ∷ [] }

what_a_read_gives : present disk ≡ codes "aXYd" ++ 0 ∷ 0 ∷ codes "Z"
what_a_read_gives = refl

what_was_synced_is_an_image : IsImage disk (codes "abcd")
what_was_synced_is_an_image = record { no_shorter = lit≤ tt; no_longer = lit≤ tt; others = λ place within untouched. refl; bytes = tested (codes "abcd") refl }

-- any bytes where was written, and an end between the two
any_bytes_are_an_image : IsImage disk (codes "a?!d?")
any_bytes_are_an_image = record { no_shorter = lit≤ tt; no_longer = lit≤ tt; others = others; bytes = tested (codes "a?!d?") refl }
  where
    others : (place : ℕ) → place < 4 → IsUntouched disk.patches place → slice_index (codes "a?!d?") place ≡ slice_index (codes "abcd") place
    others zero within untouched = refl
    others (suc zero) within untouched = absurd (⊎_elim (λ (low : 1 < 1). omega (arith, low)) (λ (high : 3 ≤ 1). omega (arith, high)) untouched.0)
    others (suc (suc zero)) within untouched = absurd (⊎_elim (λ (low : 2 < 1). omega (arith, low)) (λ (high : 3 ≤ 2). omega (arith, high)) untouched.0)
    others (suc (suc (suc zero))) within untouched = refl
    others (suc (suc (suc (suc more)))) within untouched = absurd (omega (arith, within))

the_first_byte_is_untouched : IsUntouched disk.patches 0
the_first_byte_is_untouched = (inl (lit< tt), (inl (lit< tt), tt))

the_second_is_touched : IsTouched disk.patches 1
the_second_is_touched = inl (lit≤ tt, lit< tt)

another_first_byte_is_none : IsImage disk (codes "?bcd") → ⊥
another_first_byte_is_none is = let same : ◌≡◌ {A = ℕ} 63 97 = is.others 0 (lit< tt) the_first_byte_is_untouched in omega arith

a_shorter_file_is_none : IsImage disk (codes "abc") → ⊥
a_shorter_file_is_none is = omega (arith, is.no_shorter)

a_longer_file_is_none : IsImage disk (codes "abcdefgh") → ⊥
a_longer_file_is_none is = omega (arith, is.no_longer)

-- the second may be any byte, and 256 is none
the_greatest_byte_is_an_image : IsImage disk (97 ∷ 255 ∷ codes "cd")
the_greatest_byte_is_an_image = record { no_shorter = lit≤ tt; no_longer = lit≤ tt; others = others; bytes = tested (97 ∷ 255 ∷ codes "cd") refl }
  where
    others : (place : ℕ) → place < 4 → IsUntouched disk.patches place → slice_index (97 ∷ 255 ∷ codes "cd") place ≡ slice_index (codes "abcd") place
    others zero within untouched = refl
    others (suc zero) within untouched = absurd (⊎_elim (λ (low : 1 < 1). omega (arith, low)) (λ (high : 3 ≤ 1). omega (arith, high)) untouched.0)
    others (suc (suc zero)) within untouched = refl
    others (suc (suc (suc zero))) within untouched = refl
    others (suc (suc (suc (suc more)))) within untouched = absurd (omega (arith, within))

a_number_that_is_no_byte_is_none : IsImage disk (97 ∷ 256 ∷ codes "cd") → ⊥
a_number_that_is_no_byte_is_none is = let small : 256 < 256 = is.bytes 1 in omega (arith, small)

-- ---- a disk in memory

-- what was written before the sync is synced
a_sync_between : stand (codes "abcd") (Write (patch 1 (codes "XY")) ∷ Sync ∷ Write (patch 0 (codes "V")) ∷ []) ≡ record { synced = codes "aXYd"; patches = patch 0 (codes "V") ∷ [] }
a_sync_between = refl

the_first_pick : IsPicked 0 disk (codes "abcd")
the_first_pick = refl

the_second_pick : IsPicked 1 disk (codes "aXYd" ++ 0 ∷ 0 ∷ codes "Z")
the_second_pick = refl

-- a disk tells its images where what it held and what was written are bytes
these_are_bytes : holds_bytes (codes "abcd") (Write (patch 1 (codes "XY")) ∷ Sync ∷ []) ≡ true
these_are_bytes = refl

this_was_none : holds_bytes (256 ∷ []) [] ≡ false
this_was_none = refl

nor_was_this : holds_bytes (codes "abcd") (Write (patch 1 (256 ∷ [])) ∷ []) ≡ false
nor_was_this = refl

the_third_pick_marks : IsMarked disk (codes "a??d???") → ⊥
the_third_pick_marks is = let same : ◌≡◌ {A = ℕ} 63 1 = is.ones 1 (lit< tt) (inl the_second_is_touched) in omega arith

-- the numbers of calls begin at 1
the_first_call_fails : is_to_fail (disk_of (codes "abcd") (1 ∷ [])) ≡ true
the_first_call_fails = refl

the_second_will : is_to_fail (disk_of (codes "abcd") (2 ∷ [])) ≡ false
the_second_will = refl

stopped_from_a_call_on : is_from (Some 3) 4 ≡ true
stopped_from_a_call_on = refl

not_before_it : is_from (Some 3) 2 ≡ false
not_before_it = refl

the_earlier_stop_counts : earlier (Some 3) 5 ≡ 3
the_earlier_stop_counts = refl

-- ---- two disks

the_faults_of_two : together 3 4 ≡ 7
the_faults_of_two = refl

one_at_its_end : together 18446744073709551615 4 ≡ 18446744073709551615
one_at_its_end = refl

-- ---- clocks

the_third_moment : moment_of 1000 1000 2 ≡ 3000
the_third_moment = refl

moments_end : moment_of 1 253402300799999 1 ≡ 253402300799999
moments_end = refl

-- behind two moments the clock gives the third
the_third_is_next : IsNext (later (later (Some (moment_of 1000 1000)))) 3000
the_third_is_next = refl
