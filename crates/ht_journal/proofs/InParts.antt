-- The parts of an append, one after another.
use Rattle.std.proofs.Common.{◌≡◌, inl, inr, ℕ, ◌+◌, List, [], ◌∷◌, ◌++◌, length, Some}
use Rattle.ht_outside.specs.Disks.{Torn}
use Rattle.ht_outside.specs.Moments.{LeavesOnly}
use Rattle.ht_outside.specs.declared.disk.Disk.{Ghosts}
use Rattle.ht_journal.specs.Files.{front, Fit, Rests, Doubts}
use Rattle.ht_journal.specs.Parts.{IsAppending, Reads}
use Rattle.ht_journal.proofs.Frames.{contents_rests}
use Rattle.ht_journal.proofs.Tearing.{torn_behind, torn_gate}
use Rattle.ht_journal.proofs.Moments.{started, runs_on, weaker}
use Rattle.ht_journal.proofs.Writes.{reads_doubt}

-- what is in one of the parts has the bodies from before, or one more
pub part_reads : (xs : List (List ℕ)) (body image : List ℕ) → IsAppending xs body image → Reads xs (Some body) image
part_reads xs body image (inl first) = inl first.1
part_reads xs body image (inr last) = last.1

pub closed_part : (xs : List (List ℕ)) (body image : List ℕ) → Fit xs → Rests xs image → IsAppending xs body image
closed_part xs body image fit rests = inl (rests, contents_rests xs image fit rests)

pub doubtful_part : (xs : List (List ℕ)) (body image : List ℕ) → Fit xs → Fit (xs ++ body ∷ []) → Doubts xs body [] image → IsAppending xs body image
doubtful_part xs body image fit more doubts = inr (doubts, reads_doubt xs body image fit more doubts)

module _ {D : Type 0} (d : Ghosts D) (xs : List (List ℕ)) (body : List ℕ) (fit : Fit xs) where
  -- before the first part
  pub no_part : (old : D) → ((image : List ℕ) → d.left_since old (d.moment old) image → d.may_leave old image) → ((image : List ℕ) → d.may_leave old image → Rests xs image) → LeavesOnly d old old (IsAppending xs body)
  no_part old only rests = started d old (IsAppending xs body) (λ image left. closed_part xs body image fit (rests image (only image left)))

  -- the first two
  pub first_parts : (old mid : D) (at n : ℕ) → at ≡ length (front xs) + 1 → ((image : List ℕ) → d.may_leave old image → Rests xs image)
      → LeavesOnly d old mid (λ image. (before : List ℕ) × d.may_leave old before × Torn at n before image) → LeavesOnly d old mid (IsAppending xs body)
  first_parts old mid at n place rests so_far =
      weaker d old mid _ (IsAppending xs body) so_far (λ image h. closed_part xs body image fit (torn_behind xs h.0 image at n place (rests h.0 h.1) h.2))

  -- and the last two
  pub last_parts : (old mid new : D) (gate : ℕ) → Fit (xs ++ body ∷ []) → gate ≡ length (front xs) → LeavesOnly d old mid (IsAppending xs body) → ((image : List ℕ) → d.may_leave mid image → Doubts xs body [] image)
      → LeavesOnly d mid new (λ image. (before : List ℕ) × d.may_leave mid before × Torn gate 1 before image) → LeavesOnly d old new (IsAppending xs body)
  last_parts old mid new gate more place so_far doubts then =
      runs_on d old mid new (IsAppending xs body) _ so_far then (λ image h. doubtful_part xs body image fit more (torn_gate xs body [] h.0 image gate place (doubts h.0 h.1) h.2))
