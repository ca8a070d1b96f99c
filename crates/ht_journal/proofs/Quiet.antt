-- Calls that leave the file alone, one after another.
use Rattle.std.proofs.Common.{◌≡◌, ℕ, List, IsTrue, ◌∙◌, sym, subst}
use Rattle.ht_outside.specs.Disks.{Elapses}
use Rattle.ht_outside.specs.declared.disk.Disk.{Ghosts}
use Rattle.ht_journal.specs.Quiet.{IsQuiet}
use Rattle.ht_journal.proofs.Moments.{started, goes_on, runs_on}

module _ {D : Type 0} (d : Ghosts D) where
  -- one call
  pub quiet_call : (only_now : (disk : D) (c : List ℕ) → IsTrue (d.tells_images disk) → d.left_since disk (d.moment disk) c → d.may_leave disk c) (old new : D)
      → d.gives new ≡ d.gives old → d.room new ≡ d.room old → d.tells_images new ≡ d.tells_images old → (IsTrue (d.tells_images old) → (c : List ℕ) → d.may_leave new c → d.may_leave old c)
      → (IsTrue (d.tells_images old) → Elapses (d.moment old) (d.moment new) (d.left_since old) (d.left_since new) (d.may_leave new)) → IsQuiet d old new
  quiet_call only_now old new file same tells crash time = record {
    file = file;
    same_room = same;
    tells = tells;
    crash = crash;
    any_moment = λ t. goes_on d old old new (d.may_leave old) (d.may_leave new) (started d old (d.may_leave old) (λ c left. only_now old c t left)) (time t) (crash t);
  }

  pub quiet_on : (old mid new : D) → IsQuiet d old mid → IsQuiet d mid new → IsQuiet d old new
  quiet_on old mid new a b = record {
    file = b.file ∙ a.file;
    same_room = b.same_room ∙ a.same_room;
    tells = b.tells ∙ a.tells;
    crash = λ t c left. a.crash t c (b.crash (subst IsTrue (sym a.tells) t) c left);
    any_moment = λ t. runs_on d old mid new (d.may_leave old) (d.may_leave mid) (a.any_moment t) (b.any_moment (subst IsTrue (sym a.tells) t)) (a.crash t);
  }
