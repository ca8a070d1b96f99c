-- What an opening leaves of the file, by its outcomes.
use Rattle.std.proofs.Common.{◌≡◌, inl, ℕ, ◌+◌, ◌<◌, ◌≤◌, IsTrue, List, ◌++◌, length, refl, sym, ◌∙◌, ap, subst, arith, append-nil, Option, Some, None, IfSome, IfErr, OnOk, OnErr, cond, true, false, Result, Ok, Err, nat_le}
use Rattle.std.proofs.lemmas.Bool.Decides.{nat_tests}
use Rattle.std.proofs.lemmas.List.{drop_all}
use Rattle.ht_outside.specs.Causes.{Rose}
use Rattle.ht_outside.specs.Disks.{Both, Holds}
use Rattle.ht_outside.specs.declared.disk.Disk.{Ghosts}
use Rattle.ht_journal.specs.Files.{contents}
use Rattle.ht_journal.specs.Openings.{IsBegun, IsOpened, IsRefused, IsTornBeginning, Opens, beginning, opened}
use Rattle.ht_journal.specs.Quiet.{IsQuiet}
use Rattle.ht_journal.specs.Reasons.{IsFault}
use Rattle.ht_journal.specs.declared.faults.JournalFault.{JournalFault}
use Rattle.ht_journal.specs.declared.faults.JournalFault.TheVariants.{Damaged, Store, Memory}
use Rattle.ht_journal.specs.declared.state.JournalState.{JournalState}
use Rattle.ht_journal.proofs.Moments.{both_same, both_weaker, started}

pub at_ok : {T E P : Type 0} (r : Result T E) → P → OnOk r P
at_ok (Ok x) p = p
at_ok (Err e) p = tt

-- what a step does of a file that is told, at one outcome
module _ {T E : Type 0} (r : Result T E) (step other : List ℕ → List ℕ → Type 0) (o n : Option (List ℕ)) (P : List ℕ → Type 0) (told : IfSome o P) (on : (d c : List ℕ) → P d → step d c → other d c) where
  pub both_at_ok : OnOk r (Both step o n) → OnOk r (Both other o n)
  both_at_ok = at r
    where
      at : (q : Result T E) → OnOk q (Both step o n) → OnOk q (Both other o n)
      at (Ok x) both = both_weaker step other o n P told on both
      at (Err e) both = tt

  pub both_at_err : OnErr r (Both step o n) → OnErr r (Both other o n)
  both_at_err = at r
    where
      at : (q : Result T E) → OnErr q (Both step o n) → OnErr q (Both other o n)
      at (Ok x) both = tt
      at (Err e) both = both_weaker step other o n P told on both

-- a file of at most 9 bytes over which a beginning was written whole
pub begun_file : (d c piece : List ℕ) → length d ≤ 9 → piece ≡ beginning → Holds 0 piece d c → c ≡ beginning
begun_file d c piece short is holds = holds ∙ ap (λ (l : List ℕ). piece ++ l) (drop_all (0 + length piece) d (omega (arith, ap length is))) ∙ append-nil piece ∙ is

opened_short : (f : List ℕ) → length f ≤ 9 → opened f ≡ beginning
opened_short f short = ap (λ b. cond b beginning f) (is_short (length f) short)
  where
    is_short : (n : ℕ) → n ≤ 9 → nat_le n 9 ≡ true
    is_short n le = grind (arith, nat_tests)

opened_long : (f : List ℕ) → 9 < length f → opened f ≡ f
opened_long f long = ap (λ b. cond b beginning f) (is_long (length f) long)
  where
    is_long : (n : ℕ) → 9 < n → nat_le n 9 ≡ false
    is_long n more = grind (arith, nat_tests)

pub written_short : (o m n : Option (List ℕ)) → m ≡ o → IfSome o (λ f. length f ≤ 9) → Both IsBegun m n → Both IsOpened o n
written_short o m n same short both = both_weaker IsBegun IsOpened o n (λ f. length f ≤ 9) short (λ d f s e. e ∙ sym (opened_short d s)) (subst (λ (q : Option (List ℕ)). Both IsBegun q n) same both)

pub written_long : (o n : Option (List ℕ)) → n ≡ o → IfSome o (λ f. 9 < length f) → Both IsOpened o n
written_long None n same long = subst (λ (q : Option (List ℕ)). Both IsOpened None q) (sym same) tt
written_long (Some f) n same long = subst (λ (q : Option (List ℕ)). Both IsOpened (Some f) q) (sym same) (sym (opened_long f long))

module _ {D : Type 0} (d : Ghosts D) where
  -- the disk failed
  pub at_store : {T : Type 0} (old new : D) (r : Result T JournalFault) → (y : JournalFault) × (r ≡ Err y) × (y ≡ Store) → Rose (d.faults old) (d.faults new) → Both IsTornBeginning (d.gives old) (d.gives new) → IfErr r (IsRefused d old new)
  at_store {T} old new r p rose torn = subst (λ (q : Result T JournalFault). IfErr q (IsRefused d old new)) (sym (p.1 ∙ ap Err p.2)) (rose, torn)

  pub still_begun : (old new : D) → d.gives new ≡ d.gives old → Both IsTornBeginning (d.gives old) (d.gives new)
  still_begun old new same = both_same IsTornBeginning (d.gives old) (d.gives new) same (λ f. inl refl)

  -- a refusal of calls that change nothing
  pub refused_quiet : {T : Type 0} (old mid new : D) (P : ℕ → Type 0) (r : Result T JournalFault) → IsQuiet d old new → d.faults mid ≡ d.faults old → ((at : ℕ) → P at → IfSome (d.gives old) (λ f. contents f ≡ Err at))
      → IfErr r (IsFault P (d.faults mid) (d.faults new)) → IfErr r (IsRefused d old new)
  refused_quiet old mid new P (Ok x) quiet still on fault = tt
  refused_quiet old mid new P (Err (Damaged at)) quiet still on fault = (on at fault.0, quiet, fault.1 ∙ still)
  refused_quiet old mid new P (Err Store) quiet still on fault = (subst (λ n. Rose n (d.faults new)) still fault, still_begun old new quiet.file)
  refused_quiet old mid new P (Err Memory) quiet still on fault = (quiet, fault ∙ still)

  -- nothing was done
  pub nothing_done : (limit : ℕ) (disk : D) → (IsTrue (d.tells_images disk) → (c : List ℕ) → d.left_since disk (d.moment disk) c → d.may_leave disk c) → Opens d limit disk disk (Err Memory)
  nothing_done limit disk only = record {
    found = tt;
    fresh = tt;
    written = tt;
    refused = (record { file = refl; same_room = refl; tells = refl; crash = λ t c left. left; any_moment = λ t. started d disk (d.may_leave disk) (only t) }, refl);
    any_moment = λ t. started d disk _ (λ c left. inl (only t c left));
    same = both_same _ (d.gives disk) (d.gives disk) refl (λ f. refl);
    room = refl;
    in_room = λ roomy e. absurd (cc);
    faults = omega arith;
    still = tt;
    tells = refl;
  }

  pub at_refusal : (limit : ℕ) (old new : D) (r : Result JournalState JournalFault) (e : JournalFault) → (y : JournalFault) × (r ≡ Err y) × (y ≡ e) → Opens d limit old new (Err e) → Opens d limit old new r
  at_refusal limit old new r e p h = subst (Opens d limit old new) (sym (p.1 ∙ ap Err p.2)) h

-- an error of another result
pub other_err : {T U E : Type 0} (x y : E) → (◌≡◌ {A = Result T E} (Err x) (Err y) → ⊥) → ◌≡◌ {A = Result U E} (Err x) (Err y) → ⊥
other_err x y differ e = let i : x ≡ y = cc in differ (ap Err i)
