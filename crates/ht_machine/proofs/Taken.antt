-- What an action that is taken makes of what is due: old tasks age, and it is due no more.
use Rattle.std.proofs.Common.{◌≡◌, ℕ, zero, suc, Bool, true, false, if◌then◌else◌, ◌∷◌, [], length, None, Option, Some, refl, sym, ap, subst, ◌∙◌, inl, inr, ◌⊎◌, ◌≤◌, ◌++◌, IsTrue, is_some, eq-eqb, arith}
use Rattle.ht_base.specs.declared.moment.Moment.{Moment}
use Rattle.ht_base.specs.declared.task_id.TaskId.{TaskId}
use Rattle.ht_base.specs.Persons as persons
use Rattle.ht_compose.proofs.PublicLaws.{activated_ages, all_age, all_age_freed, all_age_further, all_age_itself, ends_rows, freed_ages, frees_rows, numbered_still, put_ages}
use Rattle.ht_compose.specs.Aging.{Ages, AllAge}
use Rattle.ht_compose.specs.Downward.{freed}
use Rattle.ht_compose.specs.Items.Item.{Activate}
use Rattle.ht_base.specs.declared.operation.Op.TheVariants.{Resume}
use Rattle.ht_compose.specs.Agenda.{Ends}
use Rattle.ht_compose.specs.Agenda.Ends.{on}
use Rattle.ht_compose.specs.Downward.{moved_by}
use Rattle.ht_compose.specs.Items.{Does, Step, activated, activated_as, activates, does, on_model, on_task, still}
use Rattle.ht_compose.specs.Items.Item.{Begin}
use Rattle.ht_compose.specs.Work.{AreNumbered}
use Rattle.ht_entries.specs.declared.deadlines.DeadlineKind.{DeadlineKind}
use Rattle.ht_entries.specs.declared.deadlines.DeadlineKind.TheVariants.{Start, Completion}
use Rattle.ht_tree.specs.Plans.{IsNext}
use Rattle.ht_due.specs.declared.due.Due.{Due}
use Rattle.ht_due.specs.Dues.{has}
use Rattle.ht_compose.specs.Freeing.{Resumes}
use Rattle.ht_escalate.proofs.PublicLaws.{taken_has_it, taken_has_more, taken_is_kept}
use Rattle.ht_escalate.specs.Escalating.{TakesDeadline, taken_row}
use Rattle.ht_machine.specs.Turning.{Takes, TakesKind}
use Rattle.ht_machine.proofs.Rows.{one}
use Rattle.ht_models.specs.Model.{ModelOf}
use Rattle.ht_tree.proofs.PublicLaws.{IsOfRow, means_due, row_at-put_in, row_of_due, some_at, within}
use Rattle.ht_tree.specs.declared.row.Row.{Row}
use Rattle.ht_tree.specs.RowDues.{all_dues, kind_of}
use Rattle.ht_tree.specs.Rows.{row_at}
use Rattle.ht_tree.specs.Soundness.{IsSound, is_created, is_suspended}
use Rattle.ht_tree.specs.Tables.{TablesOf, model_of, task_row, with_row}

-- ---- tasks age

escalated_ages : (at : Moment) (task place : ℕ) (u v : TablesOf) → AreNumbered u.rows → TakesDeadline at task place u v → AllAge at u v
escalated_ages at task place u v numbered (row, m, d, there, of, listed, is) =
    let k = taken_is_kept u row m d place in
    let new = taken_row u row m d place in
    let A : TablesOf → Type 0 = λ w. AllAge at u w in
    let ages : Ages row new = record {
      task = k.task;
      model = k.model;
      input = k.input;
      created = k.created;
      started = λ h. k.started ∙ h;
      ended = λ h. k.ended ∙ h;
      waits = inr k.waits;
      until = inr k.until;
      taken = λ p h. taken_has_more place p row.taken h;
    } in
    let put = put_ages at u task row new numbered there ages in
    subst A (sym is) (record { there = put.there; new = put.new })

resumed_ages : (at : Moment) (task : ℕ) (u v : TablesOf) → AreNumbered u.rows → Resumes at task u v → AllAge at u v
resumed_ages at task u v numbered (row, there, frees) =
    let mid = with_row u (freed row) in
    let first = put_ages at u task row (freed row) numbered there (freed_ages row) in
    all_age_further at u mid v first (all_age_freed at task mid v (numbered_still at u mid numbered first) frees)

pub takes_ages : (u v : TablesOf) (due : Due) → AreNumbered u.rows → Takes u due v → AllAge due.at u v
takes_ages u v due numbered takes = go due.kind takes
  where
    go : (k : ℕ) → TakesKind k due.at due.task.0 due.place u v → AllAge due.at u v
    go zero ends = all_age due.at u v (Activate due.task.0 ∷ []) numbered ends
    go (suc zero) resumes = resumed_ages due.at due.task.0 u v numbered resumes
    go (suc (suc n)) escalates = escalated_ages due.at due.task.0 due.place u v numbered escalates

-- ---- models stay

pub takes_models : (u v : TablesOf) (due : Due) → Takes u due v → v.models ≡ u.models
takes_models u v due takes = go due.kind takes
  where
    go : (k : ℕ) → TakesKind k due.at due.task.0 due.place u v → v.models ≡ u.models
    go zero ends = ap (λ (w : TablesOf). w.models) (ends_rows due.at u v (Activate due.task.0 ∷ []) ends)
    go (suc zero) (row, there, frees) = ap (λ (w : TablesOf). w.models) (frees_rows due.at due.task.0 (with_row u (freed row)) v frees)
    go (suc (suc n)) (row, m, d, there, of, listed, is) = ap (λ (w : TablesOf). w.models) is

-- ---- what a due says of its task

not_waiting : (k : DeadlineKind) → 0 ≡ kind_of k → ⊥
not_waiting Start e = absurd cc
not_waiting Completion e = absurd cc

not_resumed : (k : DeadlineKind) → 1 ≡ kind_of k → ⊥
not_resumed Start e = absurd cc
not_resumed Completion e = absurd cc

-- a task that is suspended up to a moment
pub suspended_of : (u : TablesOf) (due : Due) → IsSound u → has due (all_dues u) ≡ true → due.kind ≡ 1 → (row : Row) × (task_row u due.task.0 ≡ Some row) × (is_suspended row.state ≡ true)
suspended_of u due sound h kind =
    let its = row_of_due u due sound.numbered h in
    (its.row, its.there, by its.row (means_due u.models its.row due its.due) (sound.rows_sound due.task.0 its.row its.there).when.until)
  where
    by : (row : Row) → IsOfRow u.models row due → (IsTrue (is_some row.until) → IsTrue (is_suspended row.state)) → is_suspended row.state ≡ true
    by row (IsOfRow.waits k p m) until = absurd (let e : 0 ≡ 1 = sym k ∙ kind in cc)
    by row (IsOfRow.until k p m) until = until (ap is_some m)
    by row (IsOfRow.deadline is) until = absurd (not_resumed (is.d).kind (sym kind ∙ is.kind))

-- the model of a task's row
model_there : (u : TablesOf) (row : Row) (task : ℕ) → IsSound u → task_row u task ≡ Some row → (m : ModelOf) × (model_of u row ≡ Some m)
model_there u row task sound there =
    let filed = (sound.rows_sound task row there).filed in
    some_at u.models row.model filed.model

-- ---- it is due no more

-- the row that a task has once it was changed in its place, and all tasks aged
aged_from : (at : Moment) (u v : TablesOf) (task : ℕ) (old new : Row) → IsSound u → task_row u task ≡ Some old → Ages old new → AllAge at (with_row u new) v → (after : Row) × (task_row v task ≡ Some after) × Ages new after
aged_from at u v task old new sound there ages all =
    let number : new.task.0 ≡ task = ap (λ (id : TaskId). id.0) ages.task ∙ sound.numbered task old there in
    let place = within u.rows old task there in
    let low = place.0 in
    let high = place.1 in
    let next : IsNext u.rows new = (omega (arith, low, number), omega (arith, high, number)) in
    let found : task_row (with_row u new) task ≡ Some new = row_at-put_in u.rows new task next ∙ ap (λ (b : Bool). if b then Some new else row_at task u.rows) (eq-eqb new.task.0 task number) in
    all.there task new found

none_left : (old new : Option Moment) → old ≡ None → (new ≡ None) ⊎ (new ≡ old) → new ≡ None
none_left old new none (inl gone) = gone
none_left old new none (inr same) = same ∙ none

module _ (u v : TablesOf) (due : Due) (before : IsSound u) (after : IsSound v) (h : has due (all_dues u) ≡ true) where
  -- it would be of the task's row then
  not_then : (row : Row) → task_row v due.task.0 ≡ Some row → (IsOfRow v.models row due → ⊥) → has due (all_dues v) ≡ false
  not_then row there none = go (has due (all_dues v)) refl
    where
      go : (b : Bool) → has due (all_dues v) ≡ b → has due (all_dues v) ≡ false
      go false e = e
      go true e =
          let its = row_of_due v due after.numbered e in
          let R : Row → Type 0 = λ r. IsOfRow v.models r due in
          absurd (none (subst R (one (task_row v due.task.0) its.row row its.there there) (means_due v.models its.row due its.due)))

  activated_gone : due.kind ≡ 0 → Ends (Does due.at) u (Activate due.task.0 ∷ []) v → has due (all_dues v) ≡ false
  activated_gone kind (on {d = d} doing rest) =
      let its = row_of_due u due before.numbered h in
      let row = its.row in
      at row its.there (means_due u.models row due its.due) (before.rows_sound due.task.0 row its.there).when.waits (model_there u row due.task.0 before its.there)
    where
      at : (row : Row) → task_row u due.task.0 ≡ Some row → IsOfRow u.models row due → (IsTrue (is_some row.waits) → IsTrue (is_created row.state)) → (m : ModelOf) × (model_of u row ≡ Some m) → has due (all_dues v) ≡ false
      at row there (IsOfRow.until k p m) waits model = absurd (let e : 0 ≡ 1 = sym kind ∙ k in cc)
      at row there (IsOfRow.deadline is) waits model = absurd (not_waiting (is.d).kind (sym kind ∙ is.kind))
      at row there (IsOfRow.waits k p m) waits (model, of_model) =
          let created = waits (ap is_some m) in
          let new = activated u model row in
          let puts = if model.owner_required then [] else Begin row.task.0 ∷ [] in
          let does_so : d ≡ does (with_row u new) puts =
          doing
          ∙ ap (λ (o : Option Row). on_task u (activates u) o) there
          ∙ ap (λ (o : Option ModelOf). on_model u row (activates u) o) of_model
          ∙ ap (λ (b : Bool). if b then does (with_row u new) puts else still u) created in
          let E : Step → Type 0 = λ x. Ends (Does due.at) x.tables (x.puts ++ []) v in
          let ages = activated_ages u model row created in
          let first = put_ages due.at u due.task.0 row new before.numbered there ages in
          let all = all_age due.at (with_row u new) v (puts ++ []) (numbered_still due.at u (with_row u new) before.numbered first) (subst E does_so rest) in
          let its = aged_from due.at u v due.task.0 row new before there ages all in
          not_then its.0 its.1 (by its.0 (none_left new.waits (its.0).waits (no_wait model.owner_required row) (its.2).waits))
        where
          no_wait : (b : Bool) (r : Row) → (activated_as b r.potential_owners r).waits ≡ None
          no_wait true r = refl
          no_wait false r = refl

          by : (r : Row) → r.waits ≡ None → IsOfRow v.models r due → ⊥
          by r none (IsOfRow.waits k p m) = absurd cc
          by r none (IsOfRow.until k p m) = let e : 0 ≡ 1 = sym kind ∙ k in absurd cc
          by r none (IsOfRow.deadline is) = not_waiting (is.d).kind (sym kind ∙ is.kind)

  resumed_gone : due.kind ≡ 1 → Resumes due.at due.task.0 u v → has due (all_dues v) ≡ false
  resumed_gone kind (row, there, frees) =
      let suspended = suspended_of u due before h kind in
      let S : Row → Type 0 = λ r. is_suspended r.state ≡ true in
      let is : is_suspended row.state ≡ true = subst S (one (task_row u due.task.0) suspended.0 row suspended.1 there) suspended.2 in
      let new = freed row in
      let ages = freed_ages row in
      let first = put_ages due.at u due.task.0 row new before.numbered there ages in
      let all = all_age_freed due.at due.task.0 (with_row u new) v (numbered_still due.at u (with_row u new) before.numbered first) frees in
      let its = aged_from due.at u v due.task.0 row new before there ages all in
      let no_end : new.until ≡ None = ap (λ (b : Bool). (if b then record row { state = moved_by Resume row.state; until = None } else row).until) is in
      not_then its.0 its.1 (by its.0 (none_left new.until (its.0).until no_end (its.2).until))
    where
      by : (r : Row) → r.until ≡ None → IsOfRow v.models r due → ⊥
      by r none (IsOfRow.waits k p m) = let e : 0 ≡ 1 = sym k ∙ kind in absurd cc
      by r none (IsOfRow.until k p m) = absurd cc
      by r none (IsOfRow.deadline is) = not_resumed (is.d).kind (sym kind ∙ is.kind)

  escalated_gone : (n : ℕ) → due.kind ≡ suc (suc n) → TakesDeadline due.at due.task.0 due.place u v → has due (all_dues v) ≡ false
  escalated_gone n kind (row, m, d, there, of, listed, is) =
      let new = taken_row u row m d due.place in
      let k = taken_is_kept u row m d due.place in
      let ages : Ages row new = record {
        task = k.task;
        model = k.model;
        input = k.input;
        created = k.created;
        started = λ e. k.started ∙ e;
        ended = λ e. k.ended ∙ e;
        waits = inr k.waits;
        until = inr k.until;
        taken = λ p e. taken_has_more due.place p row.taken e;
      } in
      let its = aged_from due.at u (with_row u new) due.task.0 row new before there ages (all_age_itself due.at (with_row u new)) in
      let T : Row → Type 0 = λ r. persons.has due.place r.taken ≡ true in
      let taken = (its.2).taken due.place (taken_has_it due.place row.taken) in
      not_then its.0 (ap (λ (w : TablesOf). task_row w due.task.0) is ∙ its.1) (by its.0 taken)
    where
      by : (r : Row) → persons.has due.place r.taken ≡ true → IsOfRow v.models r due → ⊥
      by r taken (IsOfRow.waits k p m) = let e : suc (suc n) ≡ 0 = sym kind ∙ k in absurd cc
      by r taken (IsOfRow.until k p m) = let e : suc (suc n) ≡ 1 = sym kind ∙ k in absurd cc
      by r taken (IsOfRow.deadline i) = let free = i.not_taken in absurd cc

  pub taken_gone : Takes u due v → has due (all_dues v) ≡ false
  taken_gone takes = go due.kind refl takes
    where
      go : (k : ℕ) → due.kind ≡ k → TakesKind k due.at due.task.0 due.place u v → has due (all_dues v) ≡ false
      go zero kind ends = activated_gone kind ends
      go (suc zero) kind resumes = resumed_gone kind resumes
      go (suc (suc n)) kind escalates = escalated_gone n kind escalates

-- ---- there are no fewer tasks

pub no_fewer : (at : Moment) (u v : TablesOf) → AllAge at u v → length u.rows ≤ length v.rows
no_fewer at u v all = go (length u.rows) refl
  where
    go : (n : ℕ) → length u.rows ≡ n → length u.rows ≤ length v.rows
    go zero e = omega (arith, e)
    go (suc i) e =
        let last = some_at u.rows i (omega (arith, e)) in
        let its = all.there (suc i) last.0 last.1 in
        let place = within v.rows its.0 (suc i) its.1 in
        let high = place.1 in
        omega (arith, e, high)
