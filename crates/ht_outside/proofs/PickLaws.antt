-- The images that a crash makes by each pick.
use Rattle.std.proofs.Common.{◌≡◌, ◌⊎◌, ⊎_elim, inl, inr, ℕ, ◌+◌, ◌-◌, ◌<◌, ◌≤◌, List, [], ◌∷◌, ◌++◌, length, take, drop, get_or, refl, sym, ap, ◌∙◌, subst, arith, lit<, true, Ok, Err, Result}
use Rattle.std.specs.Prelude.{IfOk, replicate}
use Rattle.std.proofs.lemmas.List.{get_or-append_right, get_or-replicate, get_or-take, get_or_append_left, length-append, length-replicate, length-take-le}
use Rattle.std.proofs.lemmas.Bool.{cases_lt}
use Rattle.ht_outside.specs.ByteLaws.{IsOfBytes, laid_over_bytes, replicate_bytes, stands_of_bytes}
use Rattle.ht_outside.specs.Disks.{AreBytes, Torn, laid_over, padded, written}
use Rattle.ht_outside.specs.Patches.{PatchOf}
use Rattle.ht_outside.specs.CrashModel.{IsImage, IsMarked, IsTouched, IsUntouched, Unsynced, patched}
use Rattle.ht_outside.specs.ImageLaws.{present_is_image, torn_outside}
use Rattle.ht_outside.specs.MemoryDisks.{IsPicked, ScriptedDisk, disk_of, given_by, holds_bytes, stands}
use Rattle.ht_outside.specs.Replays.{mark_over, marked, picked}
use Rattle.ht_outside.specs.TornWrites.{laid_over_torn, length-laid_over, length-padded}

-- a write that marks leaves as long a file as the write itself
length-mark_over : (patch : PatchOf) (file whole : List ℕ) → length file ≡ length whole → length (mark_over patch file) ≡ length (written patch.at patch.piece whole)
length-mark_over patch file whole same =
    let ones : List ℕ = replicate (length patch.piece) 1 in
    let n : length ones ≡ length patch.piece = length-replicate (length patch.piece) 1 in
    omega (arith, n, length-laid_over 1 patch.at ones file, length-laid_over 0 patch.at patch.piece whole)

length-marked : (file whole : List ℕ) (patches : List PatchOf) → length file ≡ length whole → length (marked file patches) ≡ length (patched whole patches)
length-marked file whole [] same = same
length-marked file whole (patch ∷ patches) same = length-marked (mark_over patch file) (written patch.at patch.piece whole) patches (length-mark_over patch file whole same)

mark_torn : (patch : PatchOf) (file : List ℕ) → Torn patch.at (length patch.piece) file (mark_over patch file)
mark_torn patch file = let ones : List ℕ = replicate (length patch.piece) 1 in subst (λ n. Torn patch.at n file (laid_over 1 patch.at ones file)) (length-replicate (length patch.piece) 1) (laid_over_torn 1 patch.at ones file)

-- outside the writes the bytes stay
marked_outside : (patches : List PatchOf) (file : List ℕ) (place : ℕ) → place < length file → IsUntouched patches place → get_or (marked file patches) place 0 ≡ get_or file place 0
marked_outside [] file place within untouched = refl
marked_outside (patch ∷ patches) file place within untouched =
    let torn = mark_torn patch file in
    marked_outside patches (mark_over patch file) place (omega (arith, torn.no_shorter)) untouched.1 ∙ torn_outside patch.at (length patch.piece) file (mark_over patch file) place torn within untouched.0

-- a place in the range or past the end holds 1
mark_ones : (patch : PatchOf) (file : List ℕ) (place : ℕ) → place < length (mark_over patch file) → ((patch.at ≤ place) × (place < patch.at + length patch.piece)) ⊎ (length file ≤ place) → get_or (mark_over patch file) place 0 ≡ 1
mark_ones patch file place within is =
    let at : ℕ = patch.at in
    let ones : List ℕ = replicate (length patch.piece) 1 in
    let n : length ones ≡ length patch.piece = length-replicate (length patch.piece) 1 in
    let front : List ℕ = take at (padded 1 at file) in
    let rest : List ℕ = drop (at + length ones) file in
    let reach : length front ≡ at = length-take-le at (padded 1 at file) (omega (arith, length-padded 1 at file)) in
    let both : length (front ++ ones) ≡ at + length ones = length-append front ones ∙ ap (λ k. k + length ones) reach in
    let all = length-laid_over 1 at ones file in
    ⊎_elim
    (λ (low : place < at + length ones). get_or_append_left (front ++ ones) rest 0 place (omega arith) ∙ ⊎_elim
    (λ (gap : place < at). get_or_append_left front ones 0 place (omega arith) ∙ (get_or-take at (padded 1 at file) place 0 gap ∙ in_gap file place at gap (past patch file place is gap)))
    (λ (from : at ≤ place). get_or-append_right front ones at place 0 reach from ∙ get_or-replicate (length patch.piece) (place - at) 1 0 (omega arith))
    (cases_lt place at))
    (λ (high : at + length ones ≤ place). absurd (none patch file place is (omega arith) (omega arith)))
    (cases_lt place (at + length ones))
  where
    in_gap : (file : List ℕ) (place at : ℕ) → place < at → length file ≤ place → get_or (padded 1 at file) place 0 ≡ 1
    in_gap file place at gap beyond = get_or-append_right file (replicate (at - length file) 1) (length file) place 0 refl beyond ∙ get_or-replicate (at - length file) (place - length file) 1 0 (omega arith)

    past : (patch : PatchOf) (file : List ℕ) (place : ℕ) → ((patch.at ≤ place) × (place < patch.at + length patch.piece)) ⊎ (length file ≤ place) → place < patch.at → length file ≤ place
    past patch file place (inl range) gap = omega (arith, range.0)
    past patch file place (inr beyond) gap = beyond

    none : (patch : PatchOf) (file : List ℕ) (place : ℕ) → ((patch.at ≤ place) × (place < patch.at + length patch.piece)) ⊎ (length file ≤ place) → patch.at + length patch.piece ≤ place → place < length file → ⊥
    none patch file place (inl range) high low = omega (arith, range.1)
    none patch file place (inr beyond) high low = omega arith

-- a place that is to hold 1, or holds it: this write or a later one reaches it, or the file doesn't, or it is 1 already
abbrev ToMark : List PatchOf → List ℕ → ℕ → Type 0
ToMark patches file place = (IsTouched patches place ⊎ (length file ≤ place)) ⊎ ((place < length file) × (get_or file place 0 ≡ 1))

beyond_or_one : (patches : List PatchOf) (patch : PatchOf) (file : List ℕ) (place : ℕ) → ((patch.at ≤ place) × (place < patch.at + length patch.piece)) ⊎ (length file ≤ place) → ToMark patches (mark_over patch file) place
beyond_or_one patches patch file place is = ⊎_elim
    (λ (within : place < length (mark_over patch file)). inr (within, mark_ones patch file place within is))
    (λ (beyond : length (mark_over patch file) ≤ place). inl (inr beyond))
    (cases_lt place (length (mark_over patch file)))

one_or_outside : (patches : List PatchOf) (patch : PatchOf) (file : List ℕ) (place : ℕ) → place < length file → get_or file place 0 ≡ 1 → ToMark patches (mark_over patch file) place
one_or_outside patches patch file place within one =
    let torn = mark_torn patch file in
    let stays : (place < patch.at) ⊎ (patch.at + length patch.piece ≤ place) → ToMark patches (mark_over patch file) place = λ outside. inr (omega (arith, torn.no_shorter), torn_outside patch.at (length patch.piece) file (mark_over patch file) place torn within outside ∙ one) in
    ⊎_elim
    (λ (before : place < patch.at). stays (inl before))
    (λ (from : patch.at ≤ place). ⊎_elim
    (λ (to : place < patch.at + length patch.piece). beyond_or_one patches patch file place (inl (from, to)))
    (λ (behind : patch.at + length patch.piece ≤ place). stays (inr behind))
    (cases_lt place (patch.at + length patch.piece)))
    (cases_lt place patch.at)

next_mark : (patches : List PatchOf) (patch : PatchOf) (file : List ℕ) (place : ℕ) → ToMark (patch ∷ patches) file place → ToMark patches (mark_over patch file) place
next_mark patches patch file place (inl (inl (inl range))) = beyond_or_one patches patch file place (inl range)
next_mark patches patch file place (inl (inl (inr touched))) = inl (inl touched)
next_mark patches patch file place (inl (inr beyond)) = beyond_or_one patches patch file place (inr beyond)
next_mark patches patch file place (inr one) = one_or_outside patches patch file place one.0 one.1

marked_ones : (patches : List PatchOf) (file : List ℕ) (place : ℕ) → place < length (marked file patches) → ToMark patches file place → get_or (marked file patches) place 0 ≡ 1
marked_ones [] file place within (inl (inl touched)) = absurd touched
marked_ones [] file place within (inl (inr beyond)) = absurd (omega arith)
marked_ones [] file place within (inr one) = one.1
marked_ones (patch ∷ patches) file place within is = marked_ones patches (mark_over patch file) place within (next_mark patches patch file place is)

is_marked : (disk : Unsynced) → IsMarked disk (marked disk.synced disk.patches)
is_marked disk = record {
  ends = length-marked disk.synced disk.synced disk.patches refl;
  others = λ place within untouched. marked_outside disk.patches disk.synced place within untouched;
  ones = λ place within is. marked_ones disk.patches disk.synced place within (inl is);
}

marked_bytes : (file : List ℕ) (patches : List PatchOf) → AreBytes file → AreBytes (marked file patches)
marked_bytes file [] are = are
marked_bytes file (patch ∷ patches) are =
    let ones : List ℕ = replicate (length patch.piece) 1 in
    marked_bytes (mark_over patch file) patches (laid_over_bytes 1 patch.at ones file (lit< tt) (replicate_bytes (length patch.piece) 1 (lit< tt)) are)

one_of_three : (pick : ℕ) → pick ≤ 2 → (pick ≡ 0) ⊎ ((pick ≡ 1) ⊎ (pick ≡ 2))
one_of_three pick le = ⊎_elim
    (λ (none : pick < 1). inl (omega arith))
    (λ (some : 1 ≤ pick). ⊎_elim (λ (one : pick < 2). inr (inl (omega arith))) (λ (two : 2 ≤ pick). inr (inr (omega arith))) (cases_lt pick 2))
    (cases_lt pick 1)

is_picked : (pick : ℕ) (disk : Unsynced) → IsOfBytes disk → pick ≤ 2 → IsPicked pick disk (picked pick disk) × IsImage disk (picked pick disk)
is_picked pick disk small le =
    let P : ℕ → Type 0 = λ p. IsPicked p disk (picked p disk) × IsImage disk (picked p disk) in
    let now = present_is_image disk small in
    let all = is_marked disk in
    ⊎_elim
    (λ (zeroth : pick ≡ 0). subst P (sym zeroth) (refl, record { no_shorter = omega arith; no_longer = now.no_shorter; others = λ place within untouched. refl; bytes = small.synced }))
    (λ rest. ⊎_elim
    (λ (first : pick ≡ 1). subst P (sym first) (refl, now))
    (λ (second : pick ≡ 2). subst P (sym second) (all, record { no_shorter = omega (arith, all.ends, now.no_shorter); no_longer = omega (arith, all.ends); others = all.others; bytes = marked_bytes disk.synced disk.patches small.synced }))
    rest)
    (one_of_three pick le)

module _ {E : Type 0} (pick : ℕ) (disk : ScriptedDisk) (holds : holds_bytes disk.bytes disk.calls ≡ true) (le : pick ≤ 2) where
  pub made_by_pick : (r : Result ScriptedDisk E) → IfOk r (λ made. made ≡ disk_of (picked pick (stands disk)) []) → IfOk r (λ made. IsPicked pick (stands disk) (given_by made))
  made_by_pick (Ok made) is = subst (λ (m : ScriptedDisk). IsPicked pick (stands disk) (given_by m)) (sym is) (is_picked pick (stands disk) (stands_of_bytes disk.bytes disk.calls holds) le).0
  made_by_pick (Err e) is = tt

  pub made_is_image : (r : Result ScriptedDisk E) → IfOk r (λ made. made ≡ disk_of (picked pick (stands disk)) []) → IfOk r (λ made. IsImage (stands disk) (given_by made))
  made_is_image (Ok made) is = subst (λ (m : ScriptedDisk). IsImage (stands disk) (given_by m)) (sym is) (is_picked pick (stands disk) (stands_of_bytes disk.bytes disk.calls holds) le).1
  made_is_image (Err e) is = tt
