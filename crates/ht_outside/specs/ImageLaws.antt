-- The laws that a disk in memory keeps of its images.
use Rattle.std.proofs.Common.{◌≡◌, ◌⊎◌, ⊎_elim, ℕ, ◌+◌, ◌-◌, ◌<◌, ◌≤◌, List, [], ◌∷◌, ◌++◌, length, take, get_or, min, refl, sym, ap, ◌∙◌, subst, true, arith, append-nil, append_assoc, Some}
use Rattle.std.proofs.Math.Seq.{take-length}
use Rattle.std.proofs.lemmas.List.{get_or-drop, get_or-take}
use Rattle.ht_outside.specs.ByteLaws.{IsOfBytes, WroteBytes, patched_bytes, stands_of_bytes, wrote-join}
use Rattle.ht_outside.specs.Disks.{AreBytes, Torn, written}
use Rattle.ht_outside.specs.Patches.{PatchOf}
use Rattle.ht_outside.specs.CrashModel.{IsImage, IsUntouched, Unsynced, patched, present}
use Rattle.ht_outside.specs.DiskHistory.{LeftSince, after_call, stand}
use Rattle.ht_outside.specs.MemoryDisks.{holds_bytes}
use Rattle.ht_outside.specs.TornWrites.{laid_over_torn, length-laid_over}
use Rattle.ht_outside.specs.declared.disk_call.DiskCall.{DiskCall}
use Rattle.ht_outside.specs.declared.disk_call.DiskCall.TheVariants.{Write}

-- outside its range a torn write leaves the bytes that were there
pub torn_outside : (at n : ℕ) (old new : List ℕ) (place : ℕ) → Torn at n old new → place < length old → (place < at) ⊎ (at + n ≤ place) → get_or new place 0 ≡ get_or old place 0
torn_outside at n old new place torn within outside = ⊎_elim
    (λ (before : place < at).
    let m : ℕ = min at (length old) in
    sym (get_or-take m new place 0 (omega arith)) ∙ (ap (λ (l : List ℕ). get_or l place 0) torn.before ∙ get_or-take m old place 0 (omega arith)))
    (λ (behind : at + n ≤ place).
    let i : ℕ = place - (at + n) in
    let e : (at + n) + i ≡ place = omega arith in
    ap (λ k. get_or new k 0) (sym e) ∙ (sym (get_or-drop (at + n) new i 0) ∙ (ap (λ (l : List ℕ). get_or l i 0) torn.after ∙ (get_or-drop (at + n) old i 0 ∙ ap (λ k. get_or old k 0) e))))
    outside

-- a whole write lengthens the file up to its end
pub length_written : (at : ℕ) (piece file : List ℕ) → (at + length piece ≤ length (written at piece file)) × (length file ≤ length (written at piece file))
length_written at piece file = let all = length-laid_over 0 at piece file in (omega arith, omega arith)

pub patched-push : (file : List ℕ) (patches : List PatchOf) (patch : PatchOf) → patched file (patches ++ patch ∷ []) ≡ written patch.at patch.piece (patched file patches)
patched-push file [] patch = refl
patched-push file (p ∷ patches) patch = patched-push (written p.at p.piece file) patches patch

pub untouched-split : (xs ys : List PatchOf) (place : ℕ) → IsUntouched (xs ++ ys) place → IsUntouched xs place × IsUntouched ys place
untouched-split [] ys place both = (tt, both)
untouched-split (x ∷ xs) ys place both = let rest = untouched-split xs ys place both.1 in ((both.0, rest.0), rest.1)

-- an image after one more write, torn or whole
pub image_after : (disk : Unsynced) (patch : PatchOf) (before image : List ℕ) → IsImage disk before → Torn patch.at (length patch.piece) before image → AreBytes image → IsImage (after_call disk (Write patch)) image
image_after disk patch before image was torn bytes =
    let long = length_written patch.at patch.piece (present disk) in
    let same : length (present (after_call disk (Write patch))) ≡ length (written patch.at patch.piece (present disk)) = ap length (patched-push disk.synced disk.patches patch) in
    record {
      no_shorter = omega (arith, was.no_shorter, torn.no_shorter);
      no_longer = omega (arith, was.no_longer, torn.no_longer, same, long.0, long.1);
      others = λ place within untouched.
          let apart = untouched-split disk.patches (patch ∷ []) place untouched in
          torn_outside patch.at (length patch.piece) before image place torn (omega (arith, was.no_shorter, within)) apart.1.0 ∙ was.others place within apart.0;
      bytes = bytes;
    }

-- what a read gives is an image
module _ (synced : List ℕ) (small : AreBytes synced) where
  abbrev AfterAll : List PatchOf → Type 0
  AfterAll patches = IsImage (record { synced = synced; patches = patches }) (patched synced patches)

  after_more : (done patches : List PatchOf) → WroteBytes done → WroteBytes patches → AfterAll done → AfterAll (done ++ patches)
  after_more done [] before wrote was = subst AfterAll (sym (append-nil done)) was
  after_more done (patch ∷ patches) before wrote was =
      let disk : Unsynced = record { synced = synced; patches = done } in
      let so_far : WroteBytes (done ++ patch ∷ []) = wrote-join done (patch ∷ []) before (wrote.0, tt) in
      let bytes : AreBytes (written patch.at patch.piece (patched synced done)) = subst AreBytes (patched-push synced done patch) (patched_bytes synced (done ++ patch ∷ []) small so_far) in
      let next : AfterAll (done ++ patch ∷ []) = subst (IsImage (after_call disk (Write patch))) (sym (patched-push synced done patch)) (image_after disk patch (present disk) _ was (laid_over_torn 0 patch.at patch.piece (present disk)) bytes) in
      subst AfterAll (append_assoc done (patch ∷ []) patches) (after_more (done ++ patch ∷ []) patches so_far wrote.1 next)

  pub all_whole : (patches : List PatchOf) → WroteBytes patches → AfterAll patches
  all_whole patches wrote = after_more [] patches tt wrote (record { no_shorter = omega arith; no_longer = omega arith; others = λ place within untouched. refl; bytes = small })

pub present_is_image : (disk : Unsynced) → IsOfBytes disk → IsImage disk (present disk)
present_is_image disk is = all_whole disk.synced is.synced disk.patches is.patches

-- the laws of the trait
pub now_is : (bytes : List ℕ) (calls : List DiskCall) → holds_bytes bytes calls ≡ true → (file : List ℕ) × (Some (present (stand bytes calls)) ≡ Some file) × IsImage (stand bytes calls) file
now_is bytes calls holds = (present (stand bytes calls), refl, present_is_image (stand bytes calls) (stands_of_bytes bytes calls holds))

pub image_is_bytes : (disk : Unsynced) (image : List ℕ) → IsImage disk image → AreBytes image
image_is_bytes disk image is = is.bytes

pub past_is_bytes : (bytes : List ℕ) (calls : List DiskCall) (t : ℕ) (image : List ℕ) → LeftSince bytes calls t image → AreBytes image
past_is_bytes bytes calls t image since = since.3.bytes

pub counts_now : (bytes : List ℕ) (calls : List DiskCall) (t : ℕ) (image : List ℕ) → t ≤ length calls → IsImage (stand bytes calls) image → LeftSince bytes calls t image
counts_now bytes calls t image le now = (length calls, le, omega arith, subst (λ (cs : List DiskCall). IsImage (stand bytes cs) image) (sym (take-length calls)) now)

pub only_now : (bytes : List ℕ) (calls : List DiskCall) (image : List ℕ) → LeftSince bytes calls (length calls) image → IsImage (stand bytes calls) image
only_now bytes calls image since = subst (λ (cs : List DiskCall). IsImage (stand bytes cs) image) (ap (λ n. take n calls) (let a = since.1 in let b = since.2 in omega arith) ∙ take-length calls) since.3
