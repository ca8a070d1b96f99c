-- Plans in which a row is activated.
use Rattle.ht_tree.proofs.Filing.{file_of}
use Rattle.std.proofs.Common.{◌≡◌, ◌≤◌, ℕ, List, [], length, take, Option, Some, None, Result, Ok, Err, OnOk, IfSome, refl, ap, sym, ◌∙◌, subst}
use Rattle.ht_base.specs.declared.state.State.{State}
use Rattle.ht_tree.specs.declared.notice.Notice.{Notice}
use Rattle.ht_tree.specs.declared.plan.Noted.{Noted}
use Rattle.ht_tree.specs.declared.plan.Totals.{Totals}
use Rattle.ht_tree.specs.declared.row.Row.{Row}
use Rattle.ht_tree.specs.Activation.{activated_to}
use Rattle.ht_tree.specs.Places.{last_of, put_past}
use Rattle.ht_tree.specs.Plans.{AreCounted, changes_of, Goes, IsNext, IsPlanOf, KeepsFile, planned, PlanOf}
use Rattle.ht_tree.specs.Rows.{row_at}
use Rattle.ht_tree.specs.Soundness.{Fits, IsSound}
use Rattle.ht_tree.specs.Tables.{TablesOf, with_row}
use Rattle.ht_tree.proofs.Planning.{is_next_there, noted_totals, plan_with, put_goes, row_after, same_totals}

-- ---- in its place, where it was put behind the mark

module _ (t : TablesOf) (old : PlanOf) (rows : List Row) (mark : ℕ) (noted marked : Noted) (told told_before : List Notice) (view : plan_with rows mark noted marked told told_before ≡ old) (low : mark ≤ length rows) (fit : IsPlanOf t old) (state : State) (owner : Option ℕ) (row : Row) (task : ℕ) (last : last_of task rows ≡ Some row) where
  pub row_is : row_at task (planned t old).rows ≡ Some row
  row_is = sym (row_after t old task (Some row) fit (sym last ∙ ap (λ (p : PlanOf). last_of task (p.changes).rows) view))

  module _ (own : row.task.0 ≡ task) (fits : Fits t (activated_to state owner row)) where
    next : IsNext (planned t old).rows (activated_to state owner row)
    next = is_next_there (planned t old).rows task row (activated_to state owner row) row_is own

    goes_noted : (o : Option Totals) → noted.totals ≡ o → Goes t old (plan_with (put_past mark rows (activated_to state owner row)) mark noted marked told told_before) (planned t old) (with_row (planned t old) (activated_to state owner row))
    goes_noted None is = absurd (
        let P : PlanOf → Type 0 = λ p. AreCounted t (p.changes).rows (p.changes).totals in
        let C : Option Totals → Type 0 = λ o. AreCounted t rows o in
        let none : rows ≡ [] = subst C is (subst P (sym view) fit.changes_counted) in
        let L : Some row ≡ last_of task [] = sym last ∙ ap (λ (l : List Row). last_of task l) none in
        cc)
    goes_noted (Some n) is =
        let G : Option Totals → Type 0 = λ o. Goes t old (record { changes = changes_of (put_past mark rows (activated_to state owner row)) told o noted.slot; marked = changes_of (take mark (put_past mark rows (activated_to state owner row))) told_before marked.totals marked.slot }) (planned t old) (with_row (planned t old) (activated_to state owner row)) in
        let counted = noted_totals t old n fit (ap (λ (p : PlanOf). (p.changes).totals) (sym view) ∙ is) in
        subst G (sym is) (put_goes t old rows mark noted marked told told_before view low fit (activated_to state owner row) n next fits (same_totals t (planned t old).rows n task row (activated_to state owner row) row_is own refl refl counted) (file_of (planned t old).rows (activated_to state owner row) row task own row_is refl refl))

    pub activated_goes : Goes t old (plan_with (put_past mark rows (activated_to state owner row)) mark noted marked told told_before) (planned t old) (with_row (planned t old) (activated_to state owner row))
    activated_goes = goes_noted noted.totals refl

-- ---- or a copy of it is put

module _ (t : TablesOf) (old : PlanOf) (task : ℕ) (row : Row) (sound : IsSound (planned t old)) (there : row_at task (planned t old).rows ≡ Some row) (state : State) (owner : Option ℕ) (after : Row) (is : after ≡ activated_to state owner row) where
  pub copy_next : IsNext (planned t old).rows after
  copy_next = is_next_there (planned t old).rows task row after there (ap (λ (r : Row). r.task.0) is ∙ sound.numbered task row there)

  pub copy_file : KeepsFile (planned t old).rows after
  copy_file = file_of (planned t old).rows after row task (ap (λ (r : Row). r.task.0) is ∙ sound.numbered task row there) there (ap (λ (r : Row). r.parent) is) (ap (λ (r : Row). r.model) is)

  pub copy_goes : {E : Type 0} (result : Result Unit E) (new : PlanOf) → OnOk result (Goes t old new (planned t old) (with_row (planned t old) after)) → OnOk result (IfSome (row_at task (planned t old).rows) (λ r. Goes t old new (planned t old) (with_row (planned t old) (activated_to state owner r))))
  copy_goes (Err e) new goes = tt
  copy_goes (Ok u) new goes =
      let A : Row → Type 0 = λ r. Goes t old new (planned t old) (with_row (planned t old) r) in
      let I : Option Row → Type 0 = λ o. IfSome o (λ r. A (activated_to state owner r)) in
      subst I (sym there) (subst A is goes)
