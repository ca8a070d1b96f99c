-- Where the record of calls is cut into what is synced and the writes since.
use Rattle.std.proofs.Common.{◌≡◌, ℕ, suc, ◌-◌, ◌<◌, ◌≤◌, List, [], ◌∷◌, ◌++◌, length, take, drop, get_or, refl, sym, ap, ◌∙◌, arith, append_assoc}
use Rattle.std.proofs.Math.Seq.{take-suc, drop-cons}
use Rattle.ht_outside.specs.Patches.{PatchOf}
use Rattle.ht_outside.specs.CrashModel.{Unsynced, present}
use Rattle.ht_outside.specs.DiskHistory.{after_call, after_calls, stand}
use Rattle.ht_outside.specs.Replays.{IsCutAt, mark_over, marked, marked_by, patches_of, replayed}
use Rattle.ht_outside.specs.declared.disk_call.DiskCall.{DiskCall}
use Rattle.ht_outside.specs.declared.disk_call.DiskCall.TheVariants.{Write, Sync}
use Rattle.ht_outside.specs.ImageLaws.{patched-push}
use Rattle.ht_outside.proofs.ImageLaws.{stand-push}

-- what the calls up to a place left unsynced, and the writes behind it, are what all calls left
abbrev pub Reaches : List ℕ → List DiskCall → ℕ → Type 0
Reaches bytes calls place =
    stand bytes calls ≡ record { synced = (stand bytes (take place calls)).synced; patches = (stand bytes (take place calls)).patches ++ patches_of (drop place calls) }

pub replayed-present : (disk : Unsynced) (calls : List DiskCall) → present (after_calls disk calls) ≡ replayed (present disk) calls
replayed-present disk [] = refl
replayed-present disk (Write patch ∷ calls) = replayed-present (after_call disk (Write patch)) calls ∙ ap (λ (file : List ℕ). replayed file calls) (patched-push disk.synced disk.patches patch)
replayed-present disk (Sync ∷ calls) = replayed-present (after_call disk Sync) calls

pub marked-patches : (file : List ℕ) (calls : List DiskCall) → marked_by file calls ≡ marked file (patches_of calls)
marked-patches file [] = refl
marked-patches file (Write patch ∷ calls) = marked-patches (mark_over patch file) calls
marked-patches file (Sync ∷ calls) = marked-patches file calls

abbrev whole : List ℕ → List PatchOf → Unsynced
whole synced patches = record { synced = synced; patches = patches }

-- the call before a place
module _ (calls : List DiskCall) (place : ℕ) (call d : DiskCall) (some : 0 < place) (within : place ≤ length calls) (is : get_or calls (place - 1) d ≡ call) where
  next : suc (place - 1) ≡ place
  next = omega arith

  taken : take place calls ≡ take (place - 1) calls ++ call ∷ []
  taken = ap (λ n. take n calls) (sym next) ∙ (take-suc calls (place - 1) d (omega arith) ∙ ap (λ (x : DiskCall). take (place - 1) calls ++ x ∷ []) is)

  left : drop (place - 1) calls ≡ call ∷ drop place calls
  left = drop-cons calls (place - 1) d (omega arith) ∙ (ap (λ (x : DiskCall). x ∷ drop (suc (place - 1)) calls) is ∙ ap (λ n. call ∷ drop n calls) next)

  stood : (bytes : List ℕ) → stand bytes (take place calls) ≡ after_call (stand bytes (take (place - 1) calls)) call
  stood bytes = ap (stand bytes) taken ∙ stand-push bytes (take (place - 1) calls) call

-- a write before the place goes over to those behind it
pub reaches_write : (bytes : List ℕ) (calls : List DiskCall) (place : ℕ) (patch : PatchOf) (d : DiskCall) → 0 < place → place ≤ length calls → get_or calls (place - 1) d ≡ Write patch → Reaches bytes calls place → Reaches bytes calls (place - 1)
reaches_write bytes calls place patch d some within is reached =
    let s : Unsynced = stand bytes (take (place - 1) calls) in
    let rest : List PatchOf = patches_of (drop place calls) in
    let joined : (s.patches ++ patch ∷ []) ++ rest ≡ s.patches ++ patches_of (drop (place - 1) calls) = append_assoc s.patches (patch ∷ []) rest ∙ ap (λ (cs : List DiskCall). s.patches ++ patches_of cs) (sym (left calls place (Write patch) d some within is)) in
    reached ∙ (ap (λ (x : Unsynced). whole x.synced (x.patches ++ rest)) (stood calls place (Write patch) d some within is bytes) ∙ ap (whole s.synced) joined)

-- at a sync the record of calls is cut
pub cut_at_sync : (bytes : List ℕ) (calls : List DiskCall) (place : ℕ) (d : DiskCall) → 0 < place → place ≤ length calls → get_or calls (place - 1) d ≡ Sync → Reaches bytes calls place → IsCutAt bytes calls place
cut_at_sync bytes calls place d some within is reached =
    let s : Unsynced = stand bytes (take (place - 1) calls) in
    let rest : List PatchOf = patches_of (drop place calls) in
    let at_sync = stood calls place Sync d some within is bytes in
    let given : present s ≡ replayed bytes (take place calls) = sym (ap present at_sync) ∙ replayed-present (record { synced = bytes; patches = [] }) (take place calls) in
    reached ∙ (ap (λ (x : Unsynced). whole x.synced (x.patches ++ rest)) at_sync ∙ ap (λ (file : List ℕ). whole file rest) given)

-- what is marked from there on
pub marked_behind : (bytes : List ℕ) (calls : List DiskCall) (place : ℕ) (file : List ℕ) → IsCutAt bytes calls place → file ≡ (stand bytes calls).synced → marked_by file (drop place calls) ≡ marked (stand bytes calls).synced (stand bytes calls).patches
marked_behind bytes calls place file cut is = marked-patches file (drop place calls) ∙ (ap (λ (f : List ℕ). marked f (patches_of (drop place calls))) is ∙ ap (marked (stand bytes calls).synced) (sym (ap (λ (x : Unsynced). x.patches) cut)))
