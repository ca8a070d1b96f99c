-- What a disk in memory holds consists of bytes, as far as what it held at first and what was written do.
use Rattle.std.proofs.Common.{◌≡◌, ℕ, zero, suc, ◌+◌, ◌-◌, ◌<◌, ◌≤◌, true, List, [], ◌∷◌, ◌++◌, length, take, drop, refl, sym, subst, arith, lit<, ⊎_elim}
use Rattle.std.specs.Prelude.{nat_lt, replicate, ⊤}
use Rattle.std.specs.List.{list_all, All}
use Rattle.std.proofs.lemmas.List.{get_or_past}
use Rattle.std.proofs.lemmas.List.Elements.{All-append, All-drop, All-from_get_or, All-get_or, All-replicate, All-take}
use Rattle.std.proofs.lemmas.Bool.{and_from, and_parts, cases_lt}
use Rattle.std.proofs.lemmas.Bool.Decides.{nat_tests}
use Rattle.ht_outside.specs.Disks.{AreBytes, all_bytes, laid_over, padded}
use Rattle.ht_outside.specs.Patches.{PatchOf}
use Rattle.ht_outside.specs.CrashModel.{Unsynced, patched, present}
use Rattle.ht_outside.specs.DiskHistory.{after_call, after_calls, stand}
use Rattle.ht_outside.specs.MemoryDisks.{holds_bytes, wrote_bytes}
use Rattle.ht_outside.specs.declared.disk_call.DiskCall.{DiskCall}
use Rattle.ht_outside.specs.declared.disk_call.DiskCall.TheVariants.{Write, Sync}

-- the test answers as the definition says
test_is : (n : ℕ) → nat_lt n 256 ≡ true → n < 256
test_is n is = grind (arith, nat_tests)

is_test : (n : ℕ) → n < 256 → nat_lt n 256 ≡ true
is_test n small = grind (arith, nat_tests)

pub tested : (file : List ℕ) → all_bytes file ≡ true → AreBytes file
tested [] is k = subst (λ n. n < 256) (sym (get_or_past [] k 0 (omega arith))) (lit< tt)
tested (x ∷ xs) is zero = test_is x (and_parts (nat_lt x 256) (all_bytes xs) is).0
tested (x ∷ xs) is (suc k) = tested xs (and_parts (nat_lt x 256) (all_bytes xs) is).1 k

pub passes : (file : List ℕ) → AreBytes file → all_bytes file ≡ true
passes [] are = refl
passes (x ∷ xs) are = and_from (nat_lt x 256) (all_bytes xs) (is_test x (are 0)) (passes xs (λ k. are (suc k)))

-- bytes laid over bytes
abbrev Each : List ℕ → Type 0
Each file = All (λ n. n < 256) file

each_of : (file : List ℕ) → AreBytes file → Each file
each_of file are = All-from_get_or (λ n. n < 256) file 0 (λ i within. are i)

of_each : (file : List ℕ) → Each file → AreBytes file
of_each file each k = ⊎_elim
    (λ (within : k < length file). All-get_or (λ n. n < 256) file k 0 within each)
    (λ (past : length file ≤ k). subst (λ n. n < 256) (sym (get_or_past file k 0 past)) (lit< tt))
    (cases_lt k (length file))

pub laid_over_bytes : (filler at : ℕ) (piece file : List ℕ) → filler < 256 → AreBytes piece → AreBytes file → AreBytes (laid_over filler at piece file)
laid_over_bytes filler at piece file small new old =
    let P : ℕ → Type 0 = λ n. n < 256 in
    let f : Each file = each_of file old in
    let gap : List ℕ = replicate (at - length file) filler in
    let front : Each (take at (padded filler at file)) = All-take P at (padded filler at file) (All-append P file gap f (All-replicate P (at - length file) filler small)) in
    of_each (laid_over filler at piece file) (All-append P (take at (padded filler at file) ++ piece) (drop (at + length piece) file) (All-append P (take at (padded filler at file)) piece front (each_of piece new)) (All-drop P (at + length piece) file f))

pub replicate_bytes : (n filler : ℕ) → filler < 256 → AreBytes (replicate n filler)
replicate_bytes n filler small = of_each (replicate n filler) (All-replicate (λ n. n < 256) n filler small)

-- each of these writes was one of bytes
abbrev pub WroteBytes : List PatchOf → Type 0
WroteBytes [] = ⊤
WroteBytes (patch ∷ patches) = AreBytes patch.piece × WroteBytes patches

pub wrote-join : (xs ys : List PatchOf) → WroteBytes xs → WroteBytes ys → WroteBytes (xs ++ ys)
wrote-join [] ys a b = b
wrote-join (x ∷ xs) ys a b = (a.0, wrote-join xs ys a.1 b)

pub patched_bytes : (file : List ℕ) (patches : List PatchOf) → AreBytes file → WroteBytes patches → AreBytes (patched file patches)
patched_bytes file [] are wrote = are
patched_bytes file (patch ∷ patches) are wrote = patched_bytes (laid_over 0 patch.at patch.piece file) patches (laid_over_bytes 0 patch.at patch.piece file (lit< tt) wrote.0 are) wrote.1

-- what was synced and what was written are bytes
pub record IsOfBytes (disk : Unsynced) : Type 0 where
  pub synced : AreBytes disk.synced
  pub patches : WroteBytes disk.patches

pub present_bytes : (disk : Unsynced) → IsOfBytes disk → AreBytes (present disk)
present_bytes disk is = patched_bytes disk.synced disk.patches is.synced is.patches

pub next_bytes : (disk : Unsynced) (call : DiskCall) → wrote_bytes call ≡ true → IsOfBytes disk → IsOfBytes (after_call disk call)
next_bytes disk (Write patch) wrote is = record { synced = is.synced; patches = wrote-join disk.patches (patch ∷ []) is.patches (tested patch.piece wrote, tt) }
next_bytes disk Sync wrote is = record { synced = present_bytes disk is; patches = tt }

all_next : (disk : Unsynced) (calls : List DiskCall) → list_all wrote_bytes calls ≡ true → IsOfBytes disk → IsOfBytes (after_calls disk calls)
all_next disk [] wrote is = is
all_next disk (call ∷ calls) wrote is =
    let both = and_parts (wrote_bytes call) (list_all wrote_bytes calls) wrote in
    all_next (after_call disk call) calls both.1 (next_bytes disk call both.0 is)

-- a disk that holds bytes
pub stands_of_bytes : (bytes : List ℕ) (calls : List DiskCall) → holds_bytes bytes calls ≡ true → IsOfBytes (stand bytes calls)
stands_of_bytes bytes calls holds =
    let both = and_parts (all_bytes bytes) (list_all wrote_bytes calls) holds in
    all_next (record { synced = bytes; patches = [] }) calls both.1 (record { synced = tested bytes both.0; patches = tt })
