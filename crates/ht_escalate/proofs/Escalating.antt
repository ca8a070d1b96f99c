-- That a plan goes on by a deadline that is taken.
use Rattle.std.proofs.Common.{◌≡◌, ◌<◌, ◌≤◌, ◌∙◌, ℕ, false, List, [], ◌∷◌, Option, None, Some, length, ap, refl, sym, subst}
use Rattle.std.specs.Prelude.{slice_get}
use Rattle.std.specs.List.{AllByRecursion}
use Rattle.std.proofs.lemmas.Bool.{or_parts}
use Rattle.std.proofs.lemmas.Option.{slice_get_within}
use Rattle.ht_base.specs.declared.moment.Moment.{Moment}
use Rattle.ht_base.specs.declared.task_id.TaskId.{TaskId}
use Rattle.ht_base.specs.Moment.{last_moment}
use Rattle.ht_base.specs.Persons.{Ascends, has}
use Rattle.ht_escalate.specs.declared.reassigning.Owners.{Owners}
use Rattle.ht_escalate.specs.Escalating.{first_reassignment, given_to, IsEscalated, IsOpen, notices_of, reassigned_by, taken_row, taken_with, with_notices}
use Rattle.ht_escalate.specs.Seeing.{given_all, owners_of, telling}
use Rattle.ht_expr.specs.Assignments.{Assignment}
use Rattle.ht_entries.specs.declared.deadlines.DeadlineKind.{DeadlineKind}
use Rattle.ht_entries.specs.declared.deadlines.DeadlineKind.TheVariants.{Start, Completion}
use Rattle.ht_models.specs.Model.{DeadlineOf, ModelOf}
use Rattle.ht_models.specs.Reassigning.{ReassignOwned}
use Rattle.ht_people.specs.Directory.{DirectoryOf}
use Rattle.ht_tree.specs.declared.notice.Notice.{Notice}
use Rattle.ht_tree.specs.declared.row.Row.{Row}
use Rattle.ht_finding.specs.Assigning.{Sight}
use Rattle.ht_tree.specs.Creating.{seen_in}
use Rattle.ht_base.specs.State.{is_final}
use Rattle.ht_tree.specs.Plans.{Goes, IsNext, Lends, PlanOf, planned}
use Rattle.ht_tree.specs.RowDues.{is_obsolete}
use Rattle.ht_tree.specs.Rows.{row_at}
use Rattle.ht_tree.specs.Soundness.{Fits, IsHeldBy, IsSound, IsSoundNotice, IsSoundRow}
use Rattle.ht_tree.specs.Tables.{TablesOf, directory, model_of, task_row, with_row}
use Rattle.ht_tree.proofs.PublicLaws.{IsPutAgain, put_again, put_again_of, sound_row_fits, standing}
use Rattle.ht_escalate.proofs.EscalatedRows.{row_sound}
use Rattle.ht_escalate.proofs.NewOwners.{of_this}
use Rattle.ht_escalate.proofs.Notices.{all_told, telling_goes, told_sound}
use Rattle.ht_escalate.proofs.TakenRows.{taken_is_kept}

pub one : {A : Type 0} (o : Option A) (x y : A) → o ≡ Some x → o ≡ Some y → x ≡ y
one o x y e f = cc

-- what isn't obsolete hasn't ended
live : (k : DeadlineKind) (row : Row) → is_obsolete k row ≡ false → is_final row.state ≡ false
live Start row e = (or_parts row.started (is_final row.state) e).1
live Completion row e = e

given_is : (d : DirectoryOf) (s : Sight) (row : Row) (o : Option Assignment) → given_all row (owners_of d s row o) ≡ reassigned_by d s row o
given_is d s row None = refl
given_is d s row (Some a) = refl

-- its place is one of the model's deadlines
pub open_within : (u : TablesOf) (task place : ℕ) (row : Row) (m : ModelOf) → IsOpen u task place → task_row u task ≡ Some row → model_of u row ≡ Some m → place < length m.deadlines
open_within u task place row m is there of =
    let row_is = one (task_row u task) is.row row is.there there in
    let of_is : model_of u is.row ≡ Some m = ap (λ (r : Row). model_of u r) row_is ∙ of in
    let m_is = one (model_of u is.row) is.model m is.of_model of_is in
    slice_get_within m.deadlines place is.deadline (ap (λ (x : ModelOf). slice_get x.deadlines place) (sym m_is) ∙ is.listed)

-- a deadline of a row that may be taken
pub record IsTaking (u : TablesOf) (task place : ℕ) (row : Row) (m : ModelOf) (d : DeadlineOf) : Type 0 where
  pub sound : IsSound u
  pub there : task_row u task ≡ Some row
  pub of : model_of u row ≡ Some m
  pub listed : slice_get m.deadlines place ≡ Some d
  pub owned : ReassignOwned u.models
  pub not_taken : has place row.taken ≡ false
  pub alive : is_final row.state ≡ false

pub taking : (u : TablesOf) (task place : ℕ) (row : Row) (m : ModelOf) (d : DeadlineOf) → IsSound u → IsOpen u task place → task_row u task ≡ Some row → model_of u row ≡ Some m → slice_get m.deadlines place ≡ Some d → ReassignOwned u.models → IsTaking u task place row m d
taking u task place row m d sound is there of listed owned =
    let row_is = one (task_row u task) is.row row is.there there in
    let of_is : model_of u is.row ≡ Some m = ap (λ (r : Row). model_of u r) row_is ∙ of in
    let m_is = one (model_of u is.row) is.model m is.of_model of_is in
    let listed_is : slice_get is.model.deadlines place ≡ Some d = ap (λ (x : ModelOf). slice_get x.deadlines place) m_is ∙ listed in
    let d_is = one (slice_get is.model.deadlines place) is.deadline d is.listed listed_is in
    record {
      sound = sound;
      there = there;
      of = of;
      listed = listed;
      owned = owned;
      not_taken = ap (λ (r : Row). has place r.taken) (sym row_is) ∙ is.not_taken;
      alive = live d.kind row (ap (λ (r : Row). is_obsolete d.kind r) (sym row_is) ∙ ap (λ (x : DeadlineOf). is_obsolete x.kind is.row) (sym d_is) ∙ is.not_obsolete);
    }

module _ {u : TablesOf} {task place : ℕ} {row : Row} {m : ModelOf} {d : DeadlineOf} (is : IsTaking u task place row m d) where
  abbrev after_row : Row
  after_row = taken_row u row m d place

  row_was_sound : IsSoundRow u row
  row_was_sound = is.sound.rows_sound task row is.there

  pub ascends : Ascends row.taken
  ascends = (of_this (λ x. IsHeldBy (length u.people.persons) x row.input row.output row.taken) (model_of u row) m is.of row_was_sound.held).taken_ascend

  still_sound : IsSoundRow u after_row
  still_sound = row_sound u row m d place is.of is.listed is.not_taken row_was_sound (is.owned row.model m is.of) is.alive

  again : IsPutAgain u task row after_row
  again =
      let kept = taken_is_kept u row m d place in
      put_again_of u task row after_row is.there (is.sound.numbered task row is.there) (λ i. (kept.task i, kept.parent i, kept.model i)) (sym kept.ended) (λ fine. still_sound)

  told : (at : Moment) → at.0 ≤ last_moment → IsSound (with_notices (with_row u after_row) (notices_of (directory u) (seen_in m u.rows row) row.task d at))
  told at early =
      let v : TablesOf = with_row u after_row in
      let s : Sight = seen_in m u.rows row in
      let kept = taken_is_kept u row m d place in
      let there : row_at after_row.task.0 v.rows ≡ Some after_row = ap (λ (n : ℕ). row_at n v.rows) again.number ∙ again.found in
      let of : model_of v after_row ≡ Some m = ap (λ (k : ℕ). slice_get u.models k) kept.model ∙ is.of in
      let T : TaskId → Type 0 = λ n. AllByRecursion (IsSoundNotice v.models (length v.people.persons) v.rows) (notices_of (directory u) s n d at) in
      all_told v (notices_of (directory u) s row.task d at) (again.keeps is.sound) (subst T kept.task (told_sound v after_row m d place at s there of is.listed early))

  -- as the code puts it
  pub row_is : (got : Row) (owners : Option Owners) (put : Row) → task_row u task ≡ Some got → owners ≡ owners_of (directory u) (seen_in m u.rows row) row (first_reassignment (seen_in m u.rows row) d) → put ≡ record (given_all got owners) { taken = taken_with place got.taken } → put ≡ after_row
  row_is got owners put at are is_put =
      let same = one (task_row u task) got row at is.there in
      is_put
      ∙ ap (λ (r : Row). record (given_all r owners) { taken = taken_with place r.taken }) same
      ∙ ap (λ (o : Option Owners). record (given_all row o) { taken = taken_with place row.taken }) are
      ∙ ap (λ (r : Row). record r { taken = taken_with place row.taken }) (given_is (directory u) (seen_in m u.rows row) row (first_reassignment (seen_in m u.rows row) d))

-- to whomever the task is given, it is the same task
pub given_standing : (row : Row) (o : Option Owners) → standing (given_all row o) ≡ standing row
given_standing row None = refl
given_standing row (Some owners) = go owners.persons
  where
    go : (ps : List ℕ) → standing (given_to row owners.by_group ps) ≡ standing row
    go [] = refl
    go (p ∷ ps) = refl

-- ---- the plan goes on by it

-- a row that was taken out of a plan, and what was found of it
pub record IsLent (t : TablesOf) (old taken : PlanOf) (task place : ℕ) (row : Row) (m : ModelOf) (d : DeadlineOf) : Type 0 where
  pub is : IsTaking (planned t old) task place row m d
  pub lends : Lends t old taken task

module _ {t : TablesOf} {old taken : PlanOf} {task place : ℕ} {row : Row} {m : ModelOf} {d : DeadlineOf} (lent : IsLent t old taken task place row m d) where
  abbrev u : TablesOf
  u = planned t old

  abbrev after : Row
  after = taken_row u row m d place

  pub next_row : (put : Row) → put ≡ after → IsNext (planned t taken).rows put
  next_row put are = let P : Row → Type 0 = λ r. IsNext (planned t taken).rows r in subst P (sym are) (lent.lends.next after (again lent.is).number (again lent.is).next)

  pub row_fits : (put : Row) → put ≡ after → Fits t put
  row_fits put are = let P : Row → Type 0 = λ r. Fits t r in subst P (sym are) (sound_row_fits t.models (length t.people.persons) after (still_sound lent.is))

  pub escalated : (put : Row) (mid new : PlanOf) (at : Moment) (more : List Notice) → put ≡ after → Goes t taken mid (planned t taken) (with_row (planned t taken) put) → new ≡ telling mid more → more ≡ notices_of (directory u) (seen_in m u.rows row) row.task d at → at.0 ≤ last_moment → IsEscalated t old new at task place
  escalated put mid new at more are goes tells more_are early =
      let s : Sight = seen_in m u.rows row in
      let G : Row → Type 0 = λ r. Goes t taken mid (planned t taken) (with_row (planned t taken) r) in
      let L : ℕ → Type 0 = λ n. Lends t old taken n in
      let N : List Notice → Type 0 = λ l. new ≡ telling mid l in
      let back : Goes t old mid u (with_row u after) = put_again t old taken mid after (subst L (sym (again lent.is).number) lent.lends) (again lent.is).next (subst G are goes) in
      record {
        after = with_notices (with_row u after) (notices_of (directory u) s row.task d at);
        takes = (row, m, d, lent.is.there, lent.is.of, lent.is.listed, refl);
        goes = telling_goes t old mid new (notices_of (directory u) s row.task d at) u (with_row u after) back (subst N more_are tells);
        sound = told lent.is at early;
      }
