-- How a run of calls goes on.
use Rattle.std.proofs.Common.{sym, ◌≡◌, inl, inr, ⊎_elim, ℕ, List, arith, Option, Some, None, IfSome, subst}
use Rattle.ht_outside.specs.Disks.{Elapses, Both}
use Rattle.ht_outside.specs.Moments.{LeavesOnly}
use Rattle.ht_outside.specs.declared.disk.Disk.{Ghosts}

module _ {D : Type 0} (d : Ghosts D) where
  -- before the first call
  pub started : (old : D) (P : List ℕ → Type 0) → ((c : List ℕ) → d.left_since old (d.moment old) c → P c) → LeavesOnly d old old P
  started old P here = record { later = omega arith; each = here; before = λ t c le left. inl left }

  -- one call more, after which a crash leaves what has P
  pub goes_on : (old mid new : D) (P may_leave : List ℕ → Type 0) → LeavesOnly d old mid P → Elapses (d.moment mid) (d.moment new) (d.left_since mid) (d.left_since new) may_leave
      → ((c : List ℕ) → may_leave c → P c) → LeavesOnly d old new P
  goes_on old mid new P may_leave so_far time here = record {
    later = omega (arith, so_far.later, time.later);
    each = λ c left. ⊎_elim (so_far.each c) (here c) (time.nothing_else (d.moment old) c so_far.later left);
    before = λ t c le left. ⊎_elim (so_far.before t c le) (λ now. inr (here c now)) (time.nothing_else t c (omega (arith, le, so_far.later)) left);
  }

  -- a run of calls more
  pub runs_on : (old mid new : D) (P Q : List ℕ → Type 0) → LeavesOnly d old mid P → LeavesOnly d mid new Q → ((c : List ℕ) → Q c → P c) → LeavesOnly d old new P
  runs_on old mid new P Q so_far then here = record {
    later = omega (arith, so_far.later, then.later);
    each = λ c left. ⊎_elim (so_far.each c) (λ q. here c q) (then.before (d.moment old) c so_far.later left);
    before = λ t c le left. ⊎_elim (so_far.before t c le) (λ q. inr (here c q)) (then.before t c (omega (arith, le, so_far.later)) left);
  }

  -- what has P has Q
  pub weaker : (old new : D) (P Q : List ℕ → Type 0) → LeavesOnly d old new P → ((c : List ℕ) → P c → Q c) → LeavesOnly d old new Q
  weaker old new P Q all here = record {
    later = all.later;
    each = λ c left. here c (all.each c left);
    before = λ t c le left. ⊎_elim (λ past. inl past) (λ p. inr (here c p)) (all.before t c le left);
  }

-- what is told of a file after a step
pub both_told : (step : List ℕ → List ℕ → Type 0) (old new : Option (List ℕ)) (P Q : List ℕ → Type 0) → Both step old new → IfSome old P → ((d c : List ℕ) → P d → step d c → Q c) → IfSome new Q
both_told step None None P Q both told on = tt
both_told step None (Some c) P Q both told on = absurd both
both_told step (Some d) None P Q both told on = absurd both
both_told step (Some d) (Some c) P Q both told on = on d c told both

pub both_weaker : (step other : List ℕ → List ℕ → Type 0) (old new : Option (List ℕ)) (P : List ℕ → Type 0) → IfSome old P → ((d c : List ℕ) → P d → step d c → other d c) → Both step old new → Both other old new
both_weaker step other None None P told on both = both
both_weaker step other None (Some c) P told on both = both
both_weaker step other (Some d) None P told on both = both
both_weaker step other (Some d) (Some c) P told on both = on d c told both

pub told_weaker : (o : Option (List ℕ)) (P Q : List ℕ → Type 0) → ((c : List ℕ) → P c → Q c) → IfSome o P → IfSome o Q
told_weaker None P Q on told = tt
told_weaker (Some c) P Q on told = on c told

pub told_same : (o p : Option (List ℕ)) (P : List ℕ → Type 0) → p ≡ o → IfSome p P → IfSome o P
told_same o p P same told = subst (λ (q : Option (List ℕ)). IfSome q P) same told

pub both_same : (R : List ℕ → List ℕ → Type 0) (o n : Option (List ℕ)) → n ≡ o → ((f : List ℕ) → R f f) → Both R o n
both_same R o n same on = subst (λ (m : Option (List ℕ)). Both R o m) (sym same) (both_refl o)
  where
    both_refl : (p : Option (List ℕ)) → Both R p p
    both_refl None = tt
    both_refl (Some f) = on f
