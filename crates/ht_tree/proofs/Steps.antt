-- How plans go on, step by step.
use Rattle.ht_tree.proofs.Filing.{files_itself, files_then}
use Rattle.std.proofs.Common.{◌≡◌, ◌≤◌, ℕ, fold, List, [], ◌∷◌, Option, None, append_assoc, refl, sym, ap, subst, ◌∙◌}
use Rattle.std.proofs.lemmas.List.{append-nil}
use Rattle.ht_base.specs.Moment.{last_moment}
use Rattle.ht_tree.specs.declared.notice.Notice.{Notice}
use Rattle.ht_tree.specs.declared.row.Row.{Row}
use Rattle.ht_tree.specs.declared.slot.Slot.{Slot}
use Rattle.ht_tree.specs.Plans.{Goes, IsNext, IsPlanOf, Lends, PlanOf, committed, keeping, no_plan, notifying, planned, slots_after}
use Rattle.ht_tree.specs.Rows.{put_in}
use Rattle.ht_tree.specs.Slots.{slots_with}
use Rattle.ht_tree.specs.Soundness.{IsSound, KeepsSound}
use Rattle.ht_tree.specs.Tables.{TablesOf, with_notice, with_row, with_slot}
use Rattle.ht_tree.proofs.Sounding.{sound_at}

-- a plan that is left as it is
pub stays : (t : TablesOf) (p : PlanOf) → IsPlanOf t p → Goes t p p (planned t p) (planned t p)
stays t p fit = record { from = refl; to = refl; fits = fit; slot = refl; marked = refl }

-- one step and another behind it are one
pub goes_on : (t : TablesOf) (p q r : PlanOf) (u v w : TablesOf) → Goes t p q u v → Goes t q r v w → Goes t p r u w
goes_on t p q r u v w first second = record {
  from = first.from;
  to = second.to;
  fits = second.fits;
  slot = second.slot ∙ first.slot;
  marked = second.marked ∙ first.marked;
}

-- a step from where another came
pub goes_then : (t : TablesOf) (p q r : PlanOf) (u v w : TablesOf) → Goes t p q u v → Goes t q r (planned t q) w → Goes t p r u w
goes_then t p q r u v w first second = record {
  from = first.from;
  to = second.to;
  fits = second.fits;
  slot = second.slot ∙ first.slot;
  marked = second.marked ∙ first.marked;
}

-- ---- from no change on

pub planned_nothing : (t : TablesOf) (p : PlanOf) → p ≡ no_plan → planned t p ≡ t
planned_nothing t p none = ap (λ (q : PlanOf). planned t q) none ∙ ap (λ (l : List Notice). record t { notices = l }) (append-nil t.notices)

pub no_plan_fits : (t : TablesOf) (p : PlanOf) → p ≡ no_plan → IsPlanOf t p
no_plan_fits t p none = let P : PlanOf → Type 0 = λ q. IsPlanOf t q in subst P (sym none) (record { changes_fit = tt; changes_counted = refl; marked_fit = tt; marked_counted = refl; marked_filed = files_itself t.rows; changes_filed = files_itself t.rows })

-- ---- a mark

pub marked_fits : (t : TablesOf) (p : PlanOf) → IsPlanOf t p → IsPlanOf t (record p { marked = p.changes })
marked_fits t p fit = record {
  changes_fit = fit.changes_fit;
  changes_counted = fit.changes_counted;
  marked_fit = fit.changes_fit;
  marked_counted = fit.changes_counted;
  marked_filed = files_then t.rows (fold put_in t.rows (p.marked).rows) (fold put_in t.rows (p.changes).rows) fit.marked_filed fit.changes_filed;
  changes_filed = files_itself (fold put_in t.rows (p.changes).rows);
}

pub back_fits : (t : TablesOf) (p : PlanOf) → IsPlanOf t p → IsPlanOf t (record p { changes = p.marked })
back_fits t p fit = record {
  changes_fit = fit.marked_fit;
  changes_counted = fit.marked_counted;
  marked_fit = fit.marked_fit;
  marked_counted = fit.marked_counted;
  marked_filed = fit.marked_filed;
  changes_filed = files_itself (fold put_in t.rows (p.marked).rows);
}

-- ---- all of them

-- a plan that keeps sound what nothing was planned for yet
pub committed_sound : (t : TablesOf) (p q : PlanOf) (at : ℕ) → p ≡ no_plan → IsSound t → at ≤ last_moment → KeepsSound (planned t p) (planned t q) → IsSound (committed t q at)
committed_sound t p q at none sound early keeps = let P : TablesOf → Type 0 = λ u. IsSound u in sound_at (planned t q) at (keeps (subst P (sym (planned_nothing t p none)) sound)) early

-- a row that was lent is put again
pub put_again : (t : TablesOf) (old taken new : PlanOf) (row : Row) → Lends t old taken row.task.0 → IsNext (planned t old).rows row → Goes t taken new (planned t taken) (with_row (planned t taken) row) → Goes t old new (planned t old) (with_row (planned t old) row)
put_again t old taken new row lends next goes = record {
  from = refl;
  to = goes.to ∙ lends.again row refl next;
  fits = goes.fits;
  slot = goes.slot ∙ lends.slot;
  marked = goes.marked ∙ lends.marked;
}

-- ---- a notification that is added

pub notifying_planned : (t : TablesOf) (p : PlanOf) (notice : Notice) → planned t (notifying p notice) ≡ with_notice (planned t p) notice
notifying_planned t p notice = ap (λ (l : List Notice). record (planned t p) { notices = l }) (sym (append_assoc t.notices (p.changes).notices (notice ∷ [])))

pub notifying_fits : (t : TablesOf) (p : PlanOf) (notice : Notice) → IsPlanOf t p → IsPlanOf t (notifying p notice)
notifying_fits t p notice fit = record { changes_fit = fit.changes_fit; changes_counted = fit.changes_counted; marked_fit = fit.marked_fit; marked_counted = fit.marked_counted; marked_filed = fit.marked_filed; changes_filed = fit.changes_filed }

-- ---- a reply that is kept

-- where none is kept yet
pub keeping_planned : (t : TablesOf) (p : PlanOf) (slot : Slot) → (p.changes).slot ≡ None → planned t (keeping p slot) ≡ with_slot (planned t p) slot
keeping_planned t p slot none = ap (λ (o : Option Slot). record (planned t p) { slots = slots_with (slots_after t.slots o) slot }) (sym none)

pub keeping_fits : (t : TablesOf) (p : PlanOf) (slot : Slot) → IsPlanOf t p → IsPlanOf t (keeping p slot)
keeping_fits t p slot fit = record { changes_fit = fit.changes_fit; changes_counted = fit.changes_counted; marked_fit = fit.marked_fit; marked_counted = fit.marked_counted; marked_filed = fit.marked_filed; changes_filed = fit.changes_filed }
