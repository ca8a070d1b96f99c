-- What an opening leaves of its disk, step by step, and which fault it tells.
use Rattle.std.proofs.Common.{◌≡◌, ◌≢◌, ◌≤◌, ◌⊎◌, inl, inr, ⊎_elim, ℕ, List, [], Option, Some, None, IfSome, Ok, sym, ◌∙◌, subst, refl, arith}
use Rattle.ht_journal.specs.Files.{contents}
use Rattle.ht_journal.specs.Rooms.{IsRoomy}
use Rattle.ht_journal.proofs.PublicLaws.{runs_on, started, told_weaker, weaker}
use Rattle.ht_outside.specs.Disks.{Both}
use Rattle.ht_outside.specs.Moments.{LeavesOnly}
use Rattle.ht_outside.specs.declared.disk.Disk.{Ghosts}
use Rattle.ht_tree.specs.Tables.{TablesOf}
use Rattle.ht_desk.specs.declared.fault.OpenFault.{OpenFault}
use Rattle.ht_desk.specs.declared.fault.OpenFault.TheVariants.{Models, People, Damaged, RecordRefused, TextsDiffer, Store, Memory}
use Rattle.ht_desk.specs.Faults.{ComesWhere}
use Rattle.ht_desk.specs.Opening.{Fails, IsBegunAtMost, IsOpenFault, IsReason, IsTextFault}
use Rattle.ht_desk.specs.Replaying.{Begins, TextsOf}
use Rattle.ht_desk.proofs.Begun.{FindsAtMost}

-- ---- faults

pub text_comes : (texts : TextsOf) (file : Option (List ℕ)) (n : ℕ) (fault : OpenFault) → IsTextFault texts fault → IsOpenFault texts file n n fault
text_comes texts file n (Models why) is = (is, refl)
text_comes texts file n (People why) is = (is, refl)
text_comes texts file n (Damaged at) is = absurd is
text_comes texts file n (RecordRefused k) is = absurd is
text_comes texts file n TextsDiffer is = absurd is
text_comes texts file n Store is = absurd is
text_comes texts file n Memory is = refl

pub reason_of : (texts : TextsOf) (file : Option (List ℕ)) (before now : ℕ) (fault : OpenFault) → IsOpenFault texts file before now fault → IsReason texts file fault
reason_of texts file before now (Models why) is = is.0
reason_of texts file before now (People why) is = is.0
reason_of texts file before now (Damaged at) is = is.0
reason_of texts file before now (RecordRefused n) is = is.0
reason_of texts file before now TextsDiffer is = is.0
reason_of texts file before now Store is = tt
reason_of texts file before now Memory is = tt

pub text_away : (texts : TextsOf) (fault : OpenFault) → IsTextFault texts fault → fault ≢ Store
text_away texts (Models why) is e = cc
text_away texts (People why) is e = cc
text_away texts (Damaged at) is e = cc
text_away texts (RecordRefused k) is e = cc
text_away texts TextsDiffer is e = cc
text_away texts Store is e = is
text_away texts Memory is e = cc

-- the file is at fault, and both texts were read
pub file_comes : (texts : TextsOf) (file : Option (List ℕ)) (t : TablesOf) → Begins texts t → (before now : ℕ) (fault : OpenFault) → ComesWhere (λ f. IfSome file (λ x. Fails texts x f)) before now fault → IsOpenFault texts file before now fault
file_comes texts file t begins before now (Models why) is = absurd is
file_comes texts file t begins before now (People why) is = absurd is
file_comes texts file t begins before now (Damaged at) is = (((t, begins), is.0), is.1)
file_comes texts file t begins before now (RecordRefused n) is = (((t, begins), is.0), is.1)
file_comes texts file t begins before now TextsDiffer is = (((t, begins), is.0), is.1)
file_comes texts file t begins before now Store is = is
file_comes texts file t begins before now Memory is = is

-- ---- images

module _ {D : Type 0} (d : Ghosts D) (texts : TextsOf) where
  abbrev pub May : D → List ℕ → Type 0
  May old image = d.may_leave old image ⊎ IfSome (d.gives old) (λ file. IsBegunAtMost texts file image)

  -- nothing was done
  pub no_moment : (old : D) → ((image : List ℕ) → d.left_since old (d.moment old) image → d.may_leave old image) → LeavesOnly d old old (May old)
  no_moment old now = started d old (May old) (λ image left. inl (now image left))

  -- the journal was opened
  pub opened_moments : (old mid : D) → LeavesOnly d old mid (λ image. d.may_leave old image ⊎ IfSome (d.gives old) (λ file. contents image ≡ contents file)) → LeavesOnly d old mid (May old)
  opened_moments old mid all = weaker d old mid _ (May old) all (λ image found. ⊎_elim (λ was. inl was) (λ same. inr (told_weaker (d.gives old) _ _ (λ file e. inl e) same)) found)

  -- then it was begun
  pub begun_moments : (old mid new : D) → LeavesOnly d old mid (May old) → IfSome (d.gives old) (λ file. contents file ≡ Ok []) → LeavesOnly d mid new (FindsAtMost texts) → LeavesOnly d old new (May old)
  begun_moments old mid new first none then = runs_on d old mid new (May old) (FindsAtMost texts) first then
      (λ image found. inr (told_weaker (d.gives old) _ _ (λ file empty. ⊎_elim (λ nothing. inl (nothing ∙ sym empty)) (λ opening. inr (empty, opening)) found) none))

  -- or its records were read
  pub read_moments : (old mid new : D) → LeavesOnly d old mid (May old) → ((image : List ℕ) → d.may_leave mid image → d.left_since mid (d.moment old) image) → LeavesOnly d mid new (d.may_leave mid) → LeavesOnly d old new (May old)
  read_moments old mid new first counts then = runs_on d old mid new (May old) (d.may_leave mid) first then (λ image left. first.each image (counts image left))

-- ---- the file

abbrev pub Begun : TextsOf → Option (List ℕ) → Option (List ℕ) → Type 0
Begun texts old new = IfSome old (λ file. IfSome new (IsBegunAtMost texts file))

pub no_file : (texts : TextsOf) (o : Option (List ℕ)) → Begun texts o o
no_file texts None = tt
no_file texts (Some f) = inl refl

pub opened_file : (texts : TextsOf) (old mid new : Option (List ℕ)) → Both (λ file now. contents now ≡ contents file) old mid → new ≡ mid → Begun texts old new
opened_file texts old mid new both same = subst (λ (n : Option (List ℕ)). Begun texts old n) (sym same) (go old mid both)
  where
    go : (o m : Option (List ℕ)) → Both (λ file now. contents now ≡ contents file) o m → Begun texts o m
    go None m both = tt
    go (Some f) None both = tt
    go (Some f) (Some n) both = inl both

pub begun_file : (texts : TextsOf) (old new : Option (List ℕ)) → IfSome old (λ file. contents file ≡ Ok []) → IfSome new (FindsAtMost texts) → Begun texts old new
begun_file texts None new none found = tt
begun_file texts (Some f) None none found = tt
begun_file texts (Some f) (Some n) none found = ⊎_elim (λ nothing. inl (nothing ∙ sym none)) (λ opening. inr (none, opening)) found

-- ---- rooms

pub roomier : (room : Option ℕ) (most least : ℕ) → least ≤ most → IsRoomy room most → IsRoomy room least
roomier room most least low roomy = record { most = roomy.most; is = roomy.is; enough = let e = roomy.enough in omega (arith, e, low) }

pub same_room : (room other : Option ℕ) (n : ℕ) → other ≡ room → IsRoomy room n → IsRoomy other n
same_room room other n same roomy = subst (λ (r : Option ℕ). IsRoomy r n) (sym same) roomy
