-- What a deadline that is taken makes of tables, and what it doesn't look at.
use Rattle.std.proofs.Common.{◌≡◌, ◌==◌, ◌∙◌, ℕ, Bool, false, if◌then◌else◌, length, Some, ap, arith, eq-eqb, refl, sym}
use Rattle.std.specs.Prelude.{slice_get}
use Rattle.std.proofs.lemmas.Bool.Decides.{nat_tests}
use Rattle.ht_base.specs.declared.moment.Moment.{Moment}
use Rattle.ht_escalate.specs.Escalating.{TakesDeadline, notices_of, taken_row, with_notices}
use Rattle.ht_escalate.specs.Leaving.{IsKept, LeavesRest}
use Rattle.ht_models.specs.Model.{DeadlineOf, ModelOf}
use Rattle.ht_tree.specs.declared.row.Row.{Row}
use Rattle.ht_tree.specs.Creating.{seen_in}
use Rattle.ht_tree.specs.Plans.{IsNext}
use Rattle.ht_tree.specs.Rows.{row_at}
use Rattle.ht_tree.specs.Soundness.{IsSound}
use Rattle.ht_tree.specs.Tables.{TablesOf, at_moment, directory, model_of, task_row, with_row}
use Rattle.ht_tree.proofs.PublicLaws.{length-put_in, row_at-put_in, within}
use Rattle.ht_escalate.proofs.Escalating.{one}
use Rattle.ht_escalate.proofs.TakenRows.{taken_is_kept}

-- ---- it is determined

abbrev after : Moment → ℕ → TablesOf → Row → ModelOf → DeadlineOf → TablesOf
after at place u row m d = with_notices (with_row u (taken_row u row m d place)) (notices_of (directory u) (seen_in m u.rows row) row.task d at)

pub one_taking : (at : Moment) (task place : ℕ) (u v w : TablesOf) → TakesDeadline at task place u v → TakesDeadline at task place u w → v ≡ w
one_taking at task place u v w (row, m, d, there, of, listed, is) (r, n, e, there_too, of_too, listed_too, is_too) =
    let row_is = one (task_row u task) row r there there_too in
    let m_is = one (model_of u row) m n of (ap (λ (x : Row). model_of u x) row_is ∙ of_too) in
    let d_is = one (slice_get m.deadlines place) d e listed (ap (λ (x : ModelOf). slice_get x.deadlines place) m_is ∙ listed_too) in
    is
    ∙ ap (λ (x : Row). after at place u x m d) row_is
    ∙ ap (λ (x : ModelOf). after at place u r x d) m_is
    ∙ ap (λ (x : DeadlineOf). after at place u r n x) d_is
    ∙ sym is_too

-- ---- at another moment it is the same

pub takes_at_moment : (at : Moment) (task place n : ℕ) (u v : TablesOf) → TakesDeadline at task place u v → TakesDeadline at task place (at_moment u n) (at_moment v n)
takes_at_moment at task place n u v (row, m, d, there, of, listed, is) = (row, m, d, there, of, listed, ap (λ (w : TablesOf). at_moment w n) is)

-- ---- the rest stays

pub takes_leaves : (at : Moment) (task place : ℕ) (u v : TablesOf) → IsSound u → TakesDeadline at task place u v → LeavesRest task place u v
takes_leaves at task place u v sound (row, m, d, there, of, listed, is) = record {
  old = row;
  there = there;
  new = new;
  there_after = ap (λ (w : TablesOf). task_row w task) is ∙ here task number;
  kept = kept;
  taken = refl;
  others = λ other apart. (ap (λ (w : TablesOf). task_row w other) is ∙ beside other apart);
  count = ap (λ (w : TablesOf). length w.rows) is ∙ long;
  models = ap (λ (w : TablesOf). w.models) is;
  people = ap (λ (w : TablesOf). w.people) is;
  slots = ap (λ (w : TablesOf). w.slots) is;
  last = ap (λ (w : TablesOf). w.last) is;
  told = notices_of (directory u) (seen_in m u.rows row) row.task d at;
  notices = ap (λ (w : TablesOf). w.notices) is;
}
  where
    new : Row
    new = taken_row u row m d place

    kept : IsKept row new
    kept = taken_is_kept u row m d place

    number : new.task.0 ≡ task
    number = ap (λ n. n.0) kept.task ∙ sound.numbered task row there

    next : IsNext u.rows new
    next = let w = within u.rows row task there in let n = number in (let low = w.0 in omega arith, let high = w.1 in omega arith)

    here : (n : ℕ) → new.task.0 ≡ n → row_at n (with_row u new).rows ≡ Some new
    here n same = row_at-put_in u.rows new n next ∙ ap (λ (b : Bool). if b then Some new else row_at n u.rows) (eq-eqb new.task.0 n same)

    apart_from : (a b : ℕ) → (a ≡ b → ⊥) → (a == b) ≡ false
    apart_from a b d = grind (arith, nat_tests)

    beside : (other : ℕ) → (task ≡ other → ⊥) → row_at other (with_row u new).rows ≡ row_at other u.rows
    beside other apart = row_at-put_in u.rows new other next ∙ ap (λ (b : Bool). if b then Some new else row_at other u.rows) (apart_from new.task.0 other (λ e. apart (sym number ∙ e)))

    long : length (with_row u new).rows ≡ length u.rows
    long = let w = within u.rows row task there in let n = number in let l = length-put_in u.rows new next in (let high = w.1 in omega arith)
