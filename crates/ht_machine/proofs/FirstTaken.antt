-- What is due first can always be taken, and then less is left to take.
use Rattle.std.proofs.Common.{◌≡◌, ℕ, ◌+◌, ◌≤◌, suc, Bool, true, false, ◌||◌, if◌then◌else◌, List, [], ◌∷◌, ◌++◌, length, None, Option, Some, is_some, refl, sym, ap, subst, ◌∙◌, inr, arith}
use Rattle.std.specs.Option.{option_map_or}
use Rattle.std.specs.Prelude.{slice_get}
use Rattle.std.proofs.lemmas.Option.{slice_get_within}
use Rattle.ht_base.specs.declared.operation.Op.TheVariants.{Resume}
use Rattle.ht_base.specs.declared.state.State.{State}
use Rattle.ht_base.specs.State.{is_final}
use Rattle.ht_compose.proofs.PublicLaws.{AreInOrder, Fit, IsInOrder, NoMore, StayInOrder, activated_ages, activated_less, all_age, all_age_freed, all_age_itself, always_resumes, changed, end_reached, escalated_less, freed_ages, left, numbered_still, put_ages, resumed_less, taken_fewer}
use Rattle.ht_compose.specs.Agenda.{Ends}
use Rattle.ht_compose.specs.Agenda.Ends.{on}
use Rattle.ht_compose.specs.Aging.{Ages, AllAge}
use Rattle.ht_compose.specs.Downward.{freed, moved_by}
use Rattle.ht_compose.specs.Freeing.{Resumes}
use Rattle.ht_compose.specs.Items.{Does, Step, activated, activated_as, activates, does, on_model, on_task, still}
use Rattle.ht_compose.specs.Items.Item.{Activate, Begin}
use Rattle.ht_due.specs.declared.due.Due.{Due}
use Rattle.ht_entries.specs.declared.deadlines.DeadlineKind.{DeadlineKind}
use Rattle.ht_entries.specs.declared.deadlines.DeadlineKind.TheVariants.{Start, Completion}
use Rattle.ht_escalate.proofs.PublicLaws.{due_of_first, taken_has_it, taken_has_more, taken_is_kept, taken_stays_so}
use Rattle.ht_escalate.specs.Escalating.{notices_of, taken_row, with_notices}
use Rattle.ht_machine.proofs.Rows.{one}
use Rattle.ht_machine.specs.Turning.{TakesKind}
use Rattle.ht_models.specs.Model.{ModelOf}
use Rattle.ht_tree.proofs.PublicLaws.{IsOfDeadline, IsOfRow, means_due, row_of_due, some_at, standing, within}
use Rattle.ht_tree.specs.declared.row.Row.{Row}
use Rattle.ht_tree.specs.Creating.{seen_in}
use Rattle.ht_tree.specs.RowDues.{deadlines_of, first_due, is_obsolete, kind_of}
use Rattle.ht_tree.specs.Soundness.{is_created, is_suspended}
use Rattle.ht_tree.specs.Tables.{TablesOf, directory, model_of, task_row, with_row}

-- no model has more deadlines
abbrev pub HaveAtMost : ℕ → List ModelOf → Type 0
HaveAtMost most models = (place : ℕ) (m : ModelOf) → slice_get models place ≡ Some m → length m.deadlines ≤ most

-- a suspended task hasn't ended
suspended_lives : (s : State) → is_suspended s ≡ true → is_final s ≡ false
suspended_lives s h = grind arith

-- nor has one whose deadline isn't obsolete
open_lives : (k : DeadlineKind) (row : Row) → is_obsolete k row ≡ false → is_final row.state ≡ false
open_lives Start row h = go row.started h
  where
    go : (b : Bool) → (b || is_final row.state) ≡ false → is_final row.state ≡ false
    go true h = cc
    go false h = h
open_lives Completion row h = h

-- ---- one action

-- of this kind: it is taken, and then less is left to take
pub record IsTakenAs (u : TablesOf) (due : Due) (kind : ℕ) : Type 0 where
  pub after : TablesOf
  pub takes : TakesKind kind due.at due.task.0 due.place u after
  pub fit : Fit after
  pub order : StayInOrder u after
  pub fewer : (most n : ℕ) → HaveAtMost most u.models → length u.rows ≤ n → left most n after + 1 ≤ left most n u

module _ (u : TablesOf) (due : Due) (row : Row) (fit : Fit u) (all : AreInOrder u) (there : task_row u due.task.0 ≡ Some row) where
  -- its number is one of the rows' numbers
  task_within : (n : ℕ) → length u.rows ≤ n → due.task.0 ≤ n
  task_within n long = let high = (within u.rows row due.task.0 there).1 in omega (arith, long, high)

  -- its row is in order
  its : IsInOrder u.models row
  its = all due.task.0 row there

  -- the task's model
  its_model : (m : ModelOf) × (model_of u row ≡ Some m)
  its_model = some_at u.models row.model its.model

  -- ---- a deferred activation

  -- the task is activated, and then all tasks age
  activated_first : (v : TablesOf) (m : ModelOf) → model_of u row ≡ Some m → is_created row.state ≡ true → Ends (Does due.at) u (Activate due.task.0 ∷ []) v → AllAge due.at (with_row u (activated u m row)) v
  activated_first v m of created (on {d = d} doing rest) =
      let new = activated u m row in
      let puts = if m.owner_required then [] else Begin row.task.0 ∷ [] in
      let does_so : d ≡ does (with_row u new) puts =
      doing
      ∙ ap (λ (o : Option Row). on_task u (activates u) o) there
      ∙ ap (λ (o : Option ModelOf). on_model u row (activates u) o) of
      ∙ ap (λ (b : Bool). if b then does (with_row u new) puts else still u) created in
      let E : Step → Type 0 = λ x. Ends (Does due.at) x.tables (x.puts ++ []) v in
      let first = put_ages due.at u due.task.0 row new fit.numbered there (activated_ages u m row created) in
      all_age due.at (with_row u new) v (puts ++ []) (numbered_still due.at u (with_row u new) fit.numbered first) (subst E does_so rest)

  -- it waits no more then
  activation_taken : row.waits ≡ Some due.at → IsTakenAs u due 0
  activation_taken waits =
      let m = its_model.0 in
      let created = its.waits (ap is_some waits) in
      let ages = activated_ages u m row created in
      let r = end_reached due.at u (Activate due.task.0 ∷ []) (record { numbered = fit.numbered; sized = fit.sized; closings = (tt, tt) }) in
      record {
        after = r.new;
        takes = r.ends;
        fit = r.fit;
        order = r.order;
        fewer = λ most n few long.
            taken_fewer most n due.at u r.new due.task.0 row (activated u m row) fit.numbered there (task_within n long) ages
            (activated_less most row (activated u m row) ages due.at waits (no_wait m.owner_required row))
            (activated_first r.new m its_model.1 created r.ends);
      }
    where
      no_wait : (b : Bool) (x : Row) → (activated_as b x.potential_owners x).waits ≡ None
      no_wait true x = refl
      no_wait false x = refl

  -- ---- the end of a suspension

  -- a task that is resumed is suspended to no moment
  resumed_fewer : (v : TablesOf) (most n : ℕ) → row.until ≡ Some due.at → length u.rows ≤ n → Resumes due.at due.task.0 u v → left most n v + 1 ≤ left most n u
  resumed_fewer v most n until long (r, is, frees) =
      let U : Row → Type 0 = λ x. x.until ≡ Some due.at in
      let same = one (task_row u due.task.0) row r there is in
      let suspended : is_suspended r.state ≡ true = (all due.task.0 r is).until (ap is_some (subst U same until)) in
      let no_end : (freed r).until ≡ None = ap (λ (b : Bool). (if b then record r { state = moved_by Resume r.state; until = None } else r).until) suspended in
      let first = put_ages due.at u due.task.0 r (freed r) fit.numbered is (freed_ages r) in
      taken_fewer most n due.at u v due.task.0 r (freed r) fit.numbered is (task_within n long) (freed_ages r)
      (resumed_less most r (freed r) (freed_ages r) due.at (subst U same until) no_end)
      (all_age_freed due.at due.task.0 (with_row u (freed r)) v (numbered_still due.at u (with_row u (freed r)) fit.numbered first) frees)

  -- it is resumed, as it hasn't ended
  resumption_taken : row.until ≡ Some due.at → IsTakenAs u due 1
  resumption_taken until =
      let suspended = its.until (ap is_some until) in
      let r = always_resumes due.at due.task.0 u row fit there (suspended_lives row.state suspended) in
      record { after = r.after; takes = r.resumes; fit = r.fit; order = r.order; fewer = λ most n few long. resumed_fewer r.after most n until long r.resumes }

  -- ---- a deadline

  -- it is among those that were taken then
  deadline_taken : (kind : ℕ) → IsOfDeadline row (deadlines_of u.models row) due.place due → IsTakenAs u due (suc (suc kind))
  deadline_taken kind is =
      let m = its_model.0 in
      let d = is.d in
      let listed = ap (λ (o : Option ModelOf). slice_get (option_map_or (λ (x : ModelOf). x.deadlines) o []) due.place) (sym its_model.1) ∙ is.there in
      let new = taken_row u row m d due.place in
      let k = taken_is_kept u row m d due.place in
      let so = taken_stays_so u row m d due.place in
      let mid = with_row u new in
      let stands : standing new ≡ standing row = λ i. ((k.task i).0, (k.parent i, k.model i)) in
      let ages : Ages row new = record {
        task = k.task;
        model = k.model;
        input = k.input;
        created = k.created;
        started = λ h. k.started ∙ h;
        ended = λ h. k.ended ∙ h;
        waits = inr k.waits;
        until = inr k.until;
        taken = λ p h. taken_has_more due.place p row.taken h;
      } in
      let first : NoMore u mid = changed u due.task.0 row new fit there stands (open_lives (is.d).kind row is.not_obsolete) (λ old. record {
        model = let low = old.model in let same = k.model in omega (arith, low, same);
        waits = λ h. so.0 (old.waits (sym (ap is_some k.waits) ∙ h));
        until = λ h. so.1 (old.until (sym (ap is_some k.until) ∙ h));
      }) in
      let after = with_notices mid (notices_of (directory u) (seen_in m u.rows row) row.task d due.at) in
      record {
        after = after;
        takes = (row, m, d, there, its_model.1, listed, refl);
        fit = record { numbered = (first.fit).numbered; sized = (first.fit).sized };
        order = record { models = (first.order).models; counted = (first.order).counted; rows = (first.order).rows };
        fewer = λ most n few long.
            let stay = all_age_itself due.at mid in
            let low = slice_get_within m.deadlines due.place d listed in
            let some = few row.model m its_model.1 in
            taken_fewer most n due.at u after due.task.0 row new fit.numbered there (task_within n long) ages
            (escalated_less most row new ages due.place (omega (arith, low, some)) is.not_taken (taken_has_it due.place row.taken))
            (record { there = stay.there; new = stay.new });
      }

  -- ---- each of them

  -- whichever is due of the row
  pub row_taken : IsOfRow u.models row due → IsTakenAs u due due.kind
  row_taken (IsOfRow.waits kind place at) = let K : ℕ → Type 0 = λ k. IsTakenAs u due k in subst K (sym kind) (activation_taken at)
  row_taken (IsOfRow.until kind place at) = let K : ℕ → Type 0 = λ k. IsTakenAs u due k in subst K (sym kind) (resumption_taken at)
  row_taken (IsOfRow.deadline is) = let K : ℕ → Type 0 = λ k. IsTakenAs u due k in subst K (sym is.kind) (go (is.d).kind)
    where
      go : (k : DeadlineKind) → IsTakenAs u due (kind_of k)
      go Start = deadline_taken 0 is
      go Completion = deadline_taken 1 is

-- the first of what is due
pub first_taken : (u : TablesOf) (by : ℕ) (due : Due) → Fit u → AreInOrder u → first_due u by ≡ Some due → IsTakenAs u due due.kind
first_taken u by due fit all first =
    let its = row_of_due u due fit.numbered (due_of_first u by due first).0 in
    row_taken u due its.row fit all its.there (means_due u.models its.row due its.due)
