-- That a plan goes on by what comes of one row.
use Rattle.std.proofs.Common.{◌≡◌, ℕ, false, List, Option, Some, sym, ap, subst, ◌∙◌, arith}
use Rattle.ht_compose.specs.declared.reaching.Change.{Change}
use Rattle.ht_compose.specs.declared.reaching.Reach.{Reach}
use Rattle.ht_compose.specs.Reaching.{IsTask, Reaches, changed, reached, touches}
use Rattle.ht_compose.proofs.Changed.{changed_standing, untouched}
use Rattle.ht_compose.proofs.Spread.{put_itself}
use Rattle.ht_tree.specs.declared.row.Row.{Row}
use Rattle.ht_tree.specs.Plans.{Goes, IsNext, IsPlanOf, KeepsFile, Lends, planned, PlanOf}
use Rattle.ht_tree.specs.Tables.{TablesOf, task_row, with_row, with_rows}
use Rattle.ht_tree.proofs.PublicLaws.{file_of, put_again, stays, within}

pub one : {A : Type 0} (o : Option A) (x y : A) → o ≡ Some x → o ≡ Some y → x ≡ y
one o x y e f = cc

-- it stands at its number
numbered : (u : TablesOf) (id : ℕ) (row : Row) → IsTask u id → task_row u id ≡ Some row → row.task.0 ≡ id
numbered u id row is there = let P : Row → Type 0 = λ r. r.task.0 ≡ id in subst P (one (task_row u id) is.row row is.there there) is.number

-- a row that isn't touched
pub left_alone : (t : TablesOf) (p : PlanOf) (task : ℕ) (what : Reach) (id : ℕ) (row : Row) (c : Change) → IsPlanOf t p → IsTask (planned t p) id → task_row (planned t p) id ≡ Some row → changed c row ≡ reached what (planned t p).rows task row → touches c row.state ≡ false → Reaches t p p task what id
left_alone t p task what id row c fit is there comes none =
    let u = planned t p in
    let same : with_row u (reached what u.rows task row) ≡ u =
    ap (λ (r : Row). with_row u r) (sym comes ∙ untouched c row none)
    ∙ ap (λ (l : List Row). with_rows u l) (put_itself u.rows row id there (numbered u id row is there)) in
    let P : TablesOf → Type 0 = λ v. Goes t p p u v in
    record { row = row; there = there; goes = subst P (sym same) (stays t p fit) }

module _ (t : TablesOf) (old taken : PlanOf) (task : ℕ) (what : Reach) (id : ℕ) (row : Row) (c : Change) (is : IsTask (planned t old) id) (there : task_row (planned t old) id ≡ Some row) (lends : Lends t old taken id) where
  number : (changed c row).task.0 ≡ id
  number = ap (λ b. b.0) (changed_standing c row) ∙ numbered (planned t old) id row is there

  next : IsNext (planned t old).rows (changed c row)
  next = let w = within (planned t old).rows row id there in let n = number in (let low = w.0 in omega arith, let high = w.1 in omega arith)

  -- and one that is taken and put again
  pub changed_next : IsNext (planned t taken).rows (changed c row)
  changed_next = lends.next (changed c row) number next

  pub changed_file : KeepsFile (planned t taken).rows (changed c row)
  changed_file =
      let stands = changed_standing c row in
      lends.file (changed c row) number (file_of (planned t old).rows (changed c row) row id number there (ap (λ b. b.1.0) stands) (ap (λ b. b.1.1) stands))

  pub put_reached : (new : PlanOf) → changed c row ≡ reached what (planned t old).rows task row → Goes t taken new (planned t taken) (with_row (planned t taken) (changed c row)) → Reaches t old new task what id
  put_reached new comes goes =
      let L : ℕ → Type 0 = λ n. Lends t old taken n in
      let P : Row → Type 0 = λ r. Goes t old new (planned t old) (with_row (planned t old) r) in
      record { row = row; there = there; goes = subst P comes (put_again t old taken new (changed c row) (subst L (sym number) lends) next goes) }
