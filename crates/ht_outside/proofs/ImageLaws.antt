-- What a crash may leave of a disk in memory, call by call.
use Rattle.std.proofs.Common.{◌≡◌, ◌⊎◌, ⊎_elim, inl, inr, ℕ, ◌+◌, ◌<◌, ◌≤◌, ◌&&◌, true, List, [], ◌∷◌, ◌++◌, length, take, drop, get_or, map, max, min, refl, sym, ap, ◌∙◌, subst, arith, lit<, Ok, Err, Result}
use Rattle.std.specs.Prelude.{OnErr, OnOk, ⊤, nat_le, nat_lt, if◌then◌else◌}
use Rattle.std.specs.List.{list_all, range_with_len}
use Rattle.std.proofs.lemmas.List.Folds.{list_all-append}
use Rattle.std.proofs.lemmas.List.{ext_get_or, get_or-drop, get_or-take, get_or_past, length-drop, length-take}
use Rattle.std.proofs.lemmas.List.FromFn.{get_or-map-range_with_len, length-map-range_with_len}
use Rattle.std.proofs.lemmas.Bool.{and_from, and_parts, cases_lt}
use Rattle.std.proofs.lemmas.Bool.Decides.{nat_tests}
use Rattle.ht_outside.specs.ByteLaws.{IsOfBytes, passes, stands_of_bytes}
use Rattle.ht_outside.specs.Disks.{AreBytes, Follows, Holds, KeepsEachImage, MakesEachImage, Only, Torn, all_bytes, written}
use Rattle.ht_outside.specs.Patches.{PatchOf}
use Rattle.ht_outside.specs.CrashModel.{IsImage, IsUntouched, Unsynced, present}
use Rattle.ht_outside.specs.DiskHistory.{after_call, after_calls, stand}
use Rattle.ht_outside.specs.ImageLaws.{image_after, patched-push, present_is_image}
use Rattle.ht_outside.specs.TornWrites.{laid_over_torn}
use Rattle.ht_outside.specs.MemoryDisks.{ScriptedDisk, holds_bytes, wrote_bytes, stands, given_by, IsWriteOf, IsSyncOf}
use Rattle.ht_outside.specs.declared.disk_call.DiskCall.{DiskCall}
use Rattle.ht_outside.specs.declared.disk_call.DiskCall.TheVariants.{Write, Sync}

still_torn : (at n : ℕ) (file : List ℕ) → Torn at n file file
still_torn at n file = record { before = refl; after = refl; no_shorter = omega arith; no_longer = omega arith }

untouched-join : (xs ys : List PatchOf) (place : ℕ) → IsUntouched xs place → IsUntouched ys place → IsUntouched (xs ++ ys) place
untouched-join [] ys place a b = b
untouched-join (x ∷ xs) ys place a b = (a.0, untouched-join xs ys place a.1 b)

-- An image after a write comes from an image before it: in the write's range put back what was synced, and cut off what lies
-- past the end before
module _ (at n : ℕ) (synced image : List ℕ) where
  byte_before : ℕ → ℕ
  byte_before place = if nat_le at place && nat_lt place (at + n) then get_or synced place 0 else get_or image place 0

  byte_outside : (place : ℕ) → (place < at) ⊎ (at + n ≤ place) → byte_before place ≡ get_or image place 0
  unfolding byte_before
  byte_outside place (inl before) = grind (arith, nat_tests)
  byte_outside place (inr behind) = grind (arith, nat_tests)

  byte_inside : (place : ℕ) → at ≤ place → place < at + n → byte_before place ≡ get_or synced place 0
  unfolding byte_before
  byte_inside place from to = grind (arith, nat_tests)

  cut_back : ℕ → List ℕ
  cut_back end = map byte_before (range_with_len 0 end)

  length-cut_back : (end : ℕ) → length (cut_back end) ≡ end
  unfolding cut_back
  length-cut_back end = length-map-range_with_len byte_before 0 end

  get_or-cut_back : (end place : ℕ) → place < end → get_or (cut_back end) place 0 ≡ byte_before place
  unfolding cut_back
  get_or-cut_back end place within = get_or-map-range_with_len byte_before 0 end place place 0 within (omega arith)

  byte_is_small : AreBytes synced → AreBytes image → (place : ℕ) → byte_before place < 256
  byte_is_small old new place = ⊎_elim
      (λ (before : place < at). subst (λ n. n < 256) (sym (byte_outside place (inl before))) (new place))
      (λ (from : at ≤ place). ⊎_elim
      (λ (to : place < at + n). subst (λ n. n < 256) (sym (byte_inside place from to)) (old place))
      (λ (behind : at + n ≤ place). subst (λ n. n < 256) (sym (byte_outside place (inr behind))) (new place))
      (cases_lt place (at + n)))
      (cases_lt place at)

  cut_bytes : AreBytes synced → AreBytes image → (end : ℕ) → AreBytes (cut_back end)
  cut_bytes old new end place = ⊎_elim
      (λ (within : place < end). subst (λ n. n < 256) (sym (get_or-cut_back end place within)) (byte_is_small old new place))
      (λ (past : end ≤ place). subst (λ n. n < 256) (sym (get_or_past (cut_back end) place 0 (omega (arith, length-cut_back end)))) (lit< tt))
      (cases_lt place end)

  cut_torn : (old : ℕ) → length image ≤ old ⊎ (length image ≤ at + n) → Torn at n (cut_back (min (length image) old)) image
  cut_torn old ends =
      let end : ℕ = min (length image) old in
      let cut : List ℕ = cut_back end in
      let long : length cut ≡ end = length-cut_back end in
      let m : ℕ = min at (length cut) in
      record {
        before = ext_get_or 0 (take m image) (take m cut) (length-take m image ∙ (omega arith) ∙ sym (length-take m cut))
            (λ i lt. let low : i < m = omega (arith, length-take m image) in
            get_or-take m image i 0 low ∙ (sym (byte_outside i (inl (omega arith))) ∙ (sym (get_or-cut_back end i (omega arith)) ∙ sym (get_or-take m cut i 0 low))));
        after = ext_get_or 0 (drop (at + n) image) (drop (at + n) cut) (length-drop (at + n) image ∙ (omega arith) ∙ sym (length-drop (at + n) cut))
            (λ i lt. let low : (at + n) + i < length image = omega (arith, length-drop (at + n) image) in
            get_or-drop (at + n) image i 0 ∙ (sym (byte_outside ((at + n) + i) (inr (omega arith))) ∙ (sym (get_or-cut_back end ((at + n) + i) (omega arith)) ∙ sym (get_or-drop (at + n) cut i 0))));
        no_shorter = omega arith;
        no_longer = omega arith;
      }

-- one call more
after_calls-push : (disk : Unsynced) (calls : List DiskCall) (call : DiskCall) → after_calls disk (calls ++ call ∷ []) ≡ after_call (after_calls disk calls) call
after_calls-push disk [] call = refl
after_calls-push disk (c ∷ calls) call = after_calls-push (after_call disk c) calls call

pub stand-push : (bytes : List ℕ) (calls : List DiskCall) (call : DiskCall) → stand bytes (calls ++ call ∷ []) ≡ after_call (stand bytes calls) call
stand-push bytes calls call = after_calls-push (record { synced = bytes; patches = [] }) calls call

either_end : (a b c d e : ℕ) → a ≤ b → b ≡ c → c ≤ max d e → (a ≤ d) ⊎ (a ≤ e)
either_end a b c d e le is most = ⊎_elim (λ (lt : d < a). inr (omega arith)) (λ (ge : a ≤ d). inl ge) (cases_lt d a)

image_before : (disk : Unsynced) (patch : PatchOf) (image : List ℕ) → IsOfBytes disk → IsImage (after_call disk (Write patch)) image → (before : List ℕ) × IsImage disk before × Torn patch.at (length patch.piece) before image
image_before disk patch image small is =
    let at : ℕ = patch.at in
    let n : ℕ = length patch.piece in
    let old : ℕ = length (present disk) in
    let end : ℕ = min (length image) old in
    let cut : List ℕ = cut_back at n disk.synced image end in
    let long : length cut ≡ end = length-cut_back at n disk.synced image end in
    let now = present_is_image disk small in
    let whole = laid_over_torn 0 at patch.piece (present disk) in
    let same : length (present (after_call disk (Write patch))) ≡ length (written at patch.piece (present disk)) = ap length (patched-push disk.synced disk.patches patch) in (
      cut,
      record {
        no_shorter = omega (arith, now.no_shorter, is.no_shorter);
        no_longer = omega arith;
        others = λ place within untouched.
            let low : place < end = omega (arith, now.no_shorter, is.no_shorter) in
            get_or-cut_back at n disk.synced image end place low ∙ ⊎_elim
            (λ (before : place < at). byte_outside at n disk.synced image place (inl before) ∙ is.others place within (untouched-join disk.patches (patch ∷ []) place untouched (inl before, tt)))
            (λ (from : at ≤ place). ⊎_elim
            (λ (to : place < at + n). byte_inside at n disk.synced image place from to)
            (λ (behind : at + n ≤ place). byte_outside at n disk.synced image place (inr behind) ∙ is.others place within (untouched-join disk.patches (patch ∷ []) place untouched (inr behind, tt)))
            (cases_lt place (at + n)))
            (cases_lt place at);
        bytes = cut_bytes at n disk.synced image small.synced is.bytes end;
      },
      cut_torn at n disk.synced image old (either_end (length image) (length (present (after_call disk (Write patch)))) (length (written at patch.piece (present disk))) old (at + n) is.no_longer same whole.no_longer),
    )

module _ (bytes : List ℕ) (calls after : List DiskCall) (at : ℕ) (piece : List ℕ) (is : after ≡ calls ++ Write (record { at = at; piece = piece }) ∷ []) where
  stand_written : stand bytes after ≡ after_call (stand bytes calls) (Write (record { at = at; piece = piece }))
  stand_written = ap (stand bytes) is ∙ stand-push bytes calls (Write (record { at = at; piece = piece }))

  pub present_written : present (stand bytes after) ≡ written at piece (present (stand bytes calls))
  present_written = ap present stand_written ∙ patched-push (stand bytes calls).synced (stand bytes calls).patches (record { at = at; piece = piece })

  pub images_written : holds_bytes bytes calls ≡ true → Follows (Torn at (length piece)) (IsImage (stand bytes calls)) (IsImage (stand bytes after))
  images_written holds image left = image_before (stand bytes calls) (record { at = at; piece = piece }) image (stands_of_bytes bytes calls holds) (subst (λ (disk : Unsynced). IsImage disk image) stand_written left)

  pub images_made : (before image : List ℕ) → IsImage (stand bytes calls) before → Torn at (length piece) before image → AreBytes image → IsImage (stand bytes after) image
  images_made before image was torn small = subst (λ (disk : Unsynced). IsImage disk image) (sym stand_written) (image_after (stand bytes calls) (record { at = at; piece = piece }) before image was torn small)

-- after a sync there is one image
only_image : (synced image : List ℕ) → IsImage (record { synced = synced; patches = [] }) image → image ≡ synced
only_image synced image is = ext_get_or 0 image synced (let a = is.no_shorter in let b = is.no_longer in omega arith) (λ place within. is.others place (omega (arith, is.no_longer)) tt)

module _ (bytes : List ℕ) (calls after : List DiskCall) (is : after ≡ calls ++ Sync ∷ []) where
  stand_synced : stand bytes after ≡ after_call (stand bytes calls) Sync
  stand_synced = ap (stand bytes) is ∙ stand-push bytes calls Sync

  pub present_synced : present (stand bytes after) ≡ present (stand bytes calls)
  present_synced = ap present stand_synced

  pub only_synced : Only (present (stand bytes calls)) (IsImage (stand bytes after))
  only_synced image left = only_image (present (stand bytes calls)) image (subst (λ (disk : Unsynced). IsImage disk image) stand_synced left)

  pub images_synced : holds_bytes bytes calls ≡ true → (image : List ℕ) → IsImage (stand bytes after) image → IsImage (stand bytes calls) image
  images_synced holds image left = subst (IsImage (stand bytes calls)) (sym (only_synced image left)) (present_is_image (stand bytes calls) (stands_of_bytes bytes calls holds))

-- calls that were done, or failed
module _ {E : Type 0} (old new : ScriptedDisk) (at : ℕ) (piece : List ℕ) where
  pub write_holds : (r : Result ⊤ E) → IsWriteOf old new at piece r → OnOk r (Holds at piece (given_by old) (given_by new))
  write_holds (Ok u) done = ap given_by done ∙ present_written old.bytes old.calls _ at piece refl
  write_holds (Err e) done = tt

  pub write_follows : holds_bytes old.bytes old.calls ≡ true → (r : Result ⊤ E) → IsWriteOf old new at piece r → Follows (Torn at (length piece)) (IsImage (stands old)) (IsImage (stands new))
  write_follows holds (Ok u) done image left = images_written old.bytes old.calls _ at piece refl holds image (subst (λ (disk : ScriptedDisk). IsImage (stands disk) image) done left)
  write_follows holds (Err e) done image left = (image, subst (λ (disk : ScriptedDisk). IsImage (stands disk) image) done left, still_torn at (length piece) image)

  pub write_makes : (r : Result ⊤ E) → IsWriteOf old new at piece r → OnOk r (MakesEachImage (Torn at (length piece)) (holds_bytes old.bytes old.calls) (IsImage (stands old)) (IsImage (stands new)))
  write_makes (Ok u) done = λ tells before image was torn small. subst (λ (disk : ScriptedDisk). IsImage (stands disk) image) (sym done) (images_made old.bytes old.calls _ at piece refl before image was torn small)
  write_makes (Err e) done = tt

  pub write_keeps : (r : Result ⊤ E) → IsWriteOf old new at piece r → KeepsEachImage true (IsImage (stands old)) (IsImage (stands new))
  write_keeps (Ok u) done tells image was = subst (λ (disk : ScriptedDisk). IsImage (stands disk) image) (sym done) (images_made old.bytes old.calls _ at piece refl image image was (still_torn at (length piece) image) was.bytes)
  write_keeps (Err e) done tells image was = subst (λ (disk : ScriptedDisk). IsImage (stands disk) image) (sym done) was

module _ {E : Type 0} (old new : ScriptedDisk) where
  pub sync_only : (r : Result ⊤ E) → IsSyncOf old new r → OnOk r (Only (given_by old) (IsImage (stands new)))
  sync_only (Ok u) done = λ image left. only_synced old.bytes old.calls _ refl image (subst (λ (disk : ScriptedDisk). IsImage (stands disk) image) done left)
  sync_only (Err e) done = tt

  pub sync_keeps : (r : Result ⊤ E) → IsSyncOf old new r → given_by new ≡ given_by old
  sync_keeps (Ok u) done = ap given_by done ∙ present_synced old.bytes old.calls _ refl
  sync_keeps (Err e) done = ap given_by done

  pub sync_leaves : holds_bytes old.bytes old.calls ≡ true → (r : Result ⊤ E) → IsSyncOf old new r → (image : List ℕ) → IsImage (stands new) image → IsImage (stands old) image
  sync_leaves holds (Ok u) done image left = images_synced old.bytes old.calls _ refl holds image (subst (λ (disk : ScriptedDisk). IsImage (stands disk) image) done left)
  sync_leaves holds (Err e) done image left = subst (λ (disk : ScriptedDisk). IsImage (stands disk) image) done left

  pub failed_keeps : (r : Result ⊤ E) → IsSyncOf old new r → OnErr r (KeepsEachImage true (IsImage (stands old)) (IsImage (stands new)))
  failed_keeps (Ok u) done = tt
  failed_keeps (Err e) done = λ tells image was. subst (λ (disk : ScriptedDisk). IsImage (stands disk) image) (sym done) was

-- a disk of bytes stays one
module _ (bytes : List ℕ) (calls : List DiskCall) (holds : holds_bytes bytes calls ≡ true) where
  one_more : (call : DiskCall) → wrote_bytes call ≡ true → holds_bytes bytes (calls ++ call ∷ []) ≡ true
  one_more call wrote =
      let both = and_parts (all_bytes bytes) (list_all wrote_bytes calls) holds in
      let last : list_all wrote_bytes (call ∷ []) ≡ true = and_from (wrote_bytes call) true wrote refl in
      and_from (all_bytes bytes) (list_all wrote_bytes (calls ++ call ∷ [])) both.0 (list_all-append wrote_bytes calls (call ∷ []) ∙ and_from (list_all wrote_bytes calls) (list_all wrote_bytes (call ∷ [])) both.1 last)

  pub holds_written : (after : List DiskCall) (at : ℕ) (piece : List ℕ) → AreBytes piece → after ≡ calls ++ Write (record { at = at; piece = piece }) ∷ [] → holds_bytes bytes after ≡ true
  holds_written after at piece are is = ap (holds_bytes bytes) is ∙ one_more (Write (record { at = at; piece = piece })) (passes piece are)

  pub holds_synced : (after : List DiskCall) → after ≡ calls ++ Sync ∷ [] → holds_bytes bytes after ≡ true
  holds_synced after is = ap (holds_bytes bytes) is ∙ one_more Sync refl
