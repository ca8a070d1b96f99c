-- That all tasks age by what is done on composite tasks.
use Rattle.ht_models.specs.Contradictions.{is_automatic}
use Rattle.std.proofs.Common.{◌≡◌, ◌⊎◌, ℕ, ◌+◌, ◌==◌, Bool, true, false, not, ◌&&◌, ◌||◌, if◌then◌else◌, List, [], ◌∷◌, ◌++◌, length, map, Option, None, Some, option_map, inl, inr, refl, sym, ap, subst, ◌∙◌, arith}
use Rattle.std.proofs.lemmas.Bool.{eqb-true}
use Rattle.std.proofs.lemmas.Bool.Decides.{nat_tests}
use Rattle.std.specs.Prelude.{slice_get}
use Rattle.ht_base.specs.declared.moment.Moment.{Moment}
use Rattle.ht_base.specs.declared.state.State.{State}
use Rattle.ht_base.specs.declared.state.State.TheVariants.{Obsolete}
use Rattle.ht_base.specs.declared.task_id.TaskId.{TaskId}
use Rattle.ht_base.specs.declared.values.Values.{Values}
use Rattle.ht_compose.proofs.AgingRows.{activated_ages, ended_ages, fault_ages, freed_ages, ages_further, ages_itself, output_ages, started_ages}
use Rattle.ht_compose.proofs.ClosedRows.{shut, skipped}
use Rattle.ht_compose.proofs.OneRow.{one}
use Rattle.ht_compose.specs.Agenda.{Ends}
use Rattle.ht_compose.specs.Agenda.Ends.{end, on}
use Rattle.ht_compose.specs.Aging.{Ages, AllAge, IsNewAt}
use Rattle.ht_compose.specs.Downward.{end_below, ended, freed, freeing}
use Rattle.ht_compose.specs.Families.{is_above}
use Rattle.ht_compose.specs.Finishes.{chosen}
use Rattle.ht_compose.specs.Freeing.{Frees, checks_of}
use Rattle.ht_compose.specs.Items.{Checks, Does, Finishes, Item, OnModel, OnTask, Step, activated, activates, begins, closes, comes_next, does, finished, follows_by, has_failed, is_checked, is_in_progress, makes_at, makes_entry, makes_of, makes_one, on_model, on_row, on_task, rises, still, sub_task}
use Rattle.ht_compose.specs.Items.Item.{Activate, Begin, Check, Close, Make, Next, Up}
use Rattle.ht_compose.specs.Work.{AreNumbered}
use Rattle.ht_models.specs.Model.{FinishOf, ModelOf}
use Rattle.ht_entries.specs.SubEntries.{SubEntry}
use Rattle.ht_tree.proofs.PublicLaws.{row_at-map, row_at-put_in, within}
use Rattle.ht_tree.specs.declared.row.Row.{Row}
use Rattle.ht_base.specs.State.{is_final}
use Rattle.ht_tree.specs.Families.{is_made}
use Rattle.ht_tree.specs.Plans.{IsNext}
use Rattle.ht_tree.specs.Rows.{put_in, row_at}
use Rattle.ht_tree.specs.Soundness.{is_created}
use Rattle.ht_tree.specs.Tables.{TablesOf, model_at, model_named, model_of, task_row, with_row, with_rows}

-- ---- one after another

absent : (o : Option Row) (row : Row) → o ≡ Some row → o ≡ None → ⊥
absent o row is none = cc

pub all_age_itself : (at : Moment) (u : TablesOf) → AllAge at u u
all_age_itself at u = record { there = λ task row is. (row, is, ages_itself row); new = λ task row is none. absurd (absent (task_row u task) row is none) }

still_none : (a b : Option Moment) → a ≡ None → (b ≡ None) ⊎ (b ≡ a) → b ≡ None
still_none a b none (inl gone) = gone
still_none a b none (inr same) = same ∙ none

-- a new one is still so as it ages
still_new : (at : Moment) (task : ℕ) (row after : Row) → IsNewAt at task row → Ages row after → IsNewAt at task after
still_new at task row after new ages = (
  ages.created ∙ new.0,
  still_none row.waits after.waits new.1 ages.waits,
  still_none row.until after.until new.2 ages.until,
  ap (λ (id : TaskId). id.0) ages.task ∙ new.3,
)

pub all_age_further : (at : Moment) (u v w : TablesOf) → AllAge at u v → AllAge at v w → AllAge at u w
all_age_further at u v w a b = record {
  there = λ task row is.
      let x = a.there task row is in
      let y = b.there task x.0 x.1 in
      (y.0, y.1, ages_further row x.0 y.0 x.2 y.2);
  new = λ task row is none. go task row is none (task_row v task) refl;
}
  where
    go : (task : ℕ) (row : Row) → task_row w task ≡ Some row → task_row u task ≡ None → (o : Option Row) → task_row v task ≡ o → IsNewAt at task row
    go task row is none None gone = b.new task row is gone
    go task row is none (Some mid) there =
        let x = b.there task mid there in
        let same : x.0 ≡ row = one (task_row w task) x.0 row x.1 is in
        let N : Row → Type 0 = λ r. IsNewAt at task r in
        subst N same (still_new at task mid x.0 (a.new task mid there none) x.2)

-- the rows still stand at their numbers
pub numbered_still : (at : Moment) (u v : TablesOf) → AreNumbered u.rows → AllAge at u v → AreNumbered v.rows
numbered_still at u v numbered age task row is = go (task_row u task) refl
  where
    go : (o : Option Row) → task_row u task ≡ o → row.task.0 ≡ task
    go None none = (age.new task row is none).3
    go (Some old) was =
        let x = age.there task old was in
        let same : x.0 ≡ row = one (task_row v task) x.0 row x.1 is in
        let aged = x.2 in
        ap (λ (r : Row). r.task.0) (sym same) ∙ ap (λ (id : TaskId). id.0) aged.task ∙ numbered task old was

-- ---- rows that are put, or changed each in its place

module _ (at : Moment) (u : TablesOf) where
  pub each_ages : (f : Row → Row) → ((row : Row) → Ages row (f row)) → AllAge at u (with_rows u (map f u.rows))
  each_ages f ages = record {
    there = λ task row is. (f row, row_at-map f u.rows task ∙ ap (option_map f) is, ages row);
    new = λ task row is none. absurd (absent (row_at task (map f u.rows)) row is (row_at-map f u.rows task ∙ ap (option_map f) none));
  }

  put_at : (row : Row) (id : ℕ) (b : Bool) → IsNext u.rows row → (row.task.0 == id) ≡ b → task_row (with_row u row) id ≡ (if b then Some row else task_row u id)
  put_at row id b next test = row_at-put_in u.rows row id next ∙ ap (λ (c : Bool). if c then Some row else row_at id u.rows) test

  -- the row of a task that was there
  pub put_ages : (task : ℕ) (old row : Row) → AreNumbered u.rows → task_row u task ≡ Some old → Ages old row → AllAge at u (with_row u row)
  put_ages task old row numbered was ages = record {
    there = λ id r is. there id r is (row.task.0 == id) refl;
    new = λ id r is none. absurd (never id r is none (row.task.0 == id) refl);
  }
    where
      number : row.task.0 ≡ task
      number = ap (λ (id : TaskId). id.0) ages.task ∙ numbered task old was

      next : IsNext u.rows row
      next = let w = within u.rows old task was in let low = w.0 in let high = w.1 in let n = number in (omega arith, omega arith)

      here : (id : ℕ) → (row.task.0 == id) ≡ true → task_row u id ≡ Some old
      here id test = ap (λ (k : ℕ). row_at k u.rows) (sym (eqb-true row.task.0 id test) ∙ number) ∙ was

      there : (id : ℕ) (r : Row) → task_row u id ≡ Some r → (b : Bool) → (row.task.0 == id) ≡ b → (after : Row) × (task_row (with_row u row) id ≡ Some after) × Ages r after
      there id r is true test =
          let A : Row → Type 0 = λ x. Ages x row in
          (row, put_at row id true next test, subst A (one (task_row u id) old r (here id test) is) ages)
      there id r is false test = (r, put_at row id false next test ∙ is, ages_itself r)

      never : (id : ℕ) (r : Row) → task_row (with_row u row) id ≡ Some r → task_row u id ≡ None → (b : Bool) → (row.task.0 == id) ≡ b → ⊥
      never id r is none true test = absent (task_row u id) old (here id test) none
      never id r is none false test = absent (row_at id (put_in u.rows row)) r is (put_at row id false next test ∙ none)

  -- the row of a new task
  pub behind_ages : (row : Row) → row.task.0 ≡ length u.rows + 1 → row.created ≡ at → row.waits ≡ None → row.until ≡ None → AllAge at u (with_row u row)
  behind_ages row number created waits until = record {
    there = λ id r is. (r, put_at row id false next (other id r is) ∙ is, ages_itself r);
    new = λ id r is none. new id r is none (row.task.0 == id) refl;
  }
    where
      next : IsNext u.rows row
      next = let n = number in (omega arith, omega arith)

      other : (id : ℕ) (r : Row) → task_row u id ≡ Some r → (row.task.0 == id) ≡ false
      other id r is = let w = within u.rows r id is in let high = w.1 in let n = number in grind (arith, nat_tests)

      new : (id : ℕ) (r : Row) → task_row (with_row u row) id ≡ Some r → task_row u id ≡ None → (b : Bool) → (row.task.0 == id) ≡ b → IsNewAt at id r
      new id r is none true test =
          let N : Row → Type 0 = λ x. IsNewAt at id x in
          subst N (one (row_at id (put_in u.rows row)) row r (put_at row id true next test) is) (created, waits, until, eqb-true row.task.0 id test)
      new id r is none false test = absurd (absent (row_at id (put_in u.rows row)) r is (put_at row id false next test ∙ none))

-- ---- what each item does

below_ages : (b : Bool) (state : State) (row : Row) → Ages row (if b then ended state row else row)
below_ages true state row = ended_ages state row
below_ages false state row = ages_itself row

shut_ages : (state : State) (task : ℕ) (rows : List Row) (row : Row) → Ages row (shut state task rows row)
shut_ages state task rows row = go (row.task.0 == task)
  where
    go : (b : Bool) → Ages row (if b then ended state row else (if is_above rows task row then ended (end_below state) row else row))
    go true = ended_ages state row
    go false = below_ages (is_above rows task row) (end_below state) row

module _ (at : Moment) (u : TablesOf) (numbered : AreNumbered u.rows) where
  abbrev Aged : Step → Type 0
  Aged d = AllAge at u d.tables

  rests : Aged (still u)
  rests = all_age_itself at u

  either : (b : Bool) (d e : Step) → (b ≡ true → Aged d) → (b ≡ false → Aged e) → Aged (if b then d else e)
  either true d e x y = x refl
  either false d e x y = y refl

  of_row : (t : ℕ) (f : Row → Step) → ((row : Row) → task_row u t ≡ Some row → Aged (f row)) → Aged (on_row u f (task_row u t))
  of_row t f ages = go (task_row u t) refl
    where
      go : (o : Option Row) → task_row u t ≡ o → Aged (on_row u f o)
      go None is = rests
      go (Some row) is = ages row is

  of_task : (t : ℕ) (f : Row → ModelOf → Step) → ((row : Row) (m : ModelOf) → task_row u t ≡ Some row → Aged (f row m)) → Aged (on_task u f (task_row u t))
  of_task t f ages = go (task_row u t) refl
    where
      modelled : (row : Row) (o : Option ModelOf) → task_row u t ≡ Some row → Aged (on_model u row f o)
      modelled row None is = rests
      modelled row (Some m) is = ages row m is

      go : (o : Option Row) → task_row u t ≡ o → Aged (on_task u f o)
      go None is = rests
      go (Some row) is = modelled row (model_of u row) is

  of_entry : (e : ℕ) (row : Row) (o : Option SubEntry) → Aged (makes_entry u at row e o)
  of_entry e row None = rests
  of_entry e row (Some entry) = placed (model_named u entry.model)
    where
      known : (place : ℕ) (o : Option ModelOf) → Aged (makes_of u at row e entry place o)
      known place None = rests
      known place (Some m) = behind_ages at u (sub_task u at row e entry place m) refl refl refl refl

      placed : (o : Option ℕ) → Aged (makes_at u at row e entry o)
      placed None = rests
      placed (Some place) = known place (model_at u place)

  -- the output is put, and what is below is skipped
  finished_ages : (t : ℕ) (row : Row) (output : Values) → task_row u t ≡ Some row → Aged (finished u row output)
  finished_ages t row output is =
      let mid = with_row u (record row { output = output }) in
      all_age_further at u mid (with_rows mid (map (skipped row.task.0 mid.rows) mid.rows))
      (put_ages at u t row (record row { output = output }) numbered is (output_ages row output))
      (each_ages at mid (skipped row.task.0 mid.rows) (λ r. below_ages (is_above mid.rows row.task.0 r) Obsolete r))

  told : (d e : Step) → d ≡ e → Aged e → Aged d
  told d e same ages = let A : Step → Type 0 = λ x. Aged x in subst A (sym same) ages

  of_check : (t : ℕ) (d : Step) → OnTask u (Checks u) (task_row u t) d → Aged d
  of_check t d does = go (task_row u t) refl does
    where
      by_finish : (row : Row) (m : ModelOf) (o : Option FinishOf) → task_row u t ≡ Some row → Finishes u row m o d → Aged d
      by_finish row m None is h = told d (still u) h rests
      by_finish row m (Some f) is (output, sets, h) = told d (finished u row output) h (finished_ages t row output is)

      modelled : (row : Row) (o : Option ModelOf) → task_row u t ≡ Some row → OnModel u row (Checks u) o d → Aged d
      modelled row None is h = told d (still u) h rests
      modelled row (Some m) is h = by_finish row m (if is_checked u row m then chosen u.rows m row else None) is h

      go : (o : Option Row) → task_row u t ≡ o → OnTask u (Checks u) o d → Aged d
      go None is h = told d (still u) h rests
      go (Some row) is h = modelled row (model_of u row) is h

  follows : (row : Row) (m : ModelOf) (o : Option (TaskId × ℕ)) → Aged (follows_by u row m o)
  follows row m None = rests
  follows row m (Some p) = either (not (is_final row.state) && comes_next m p.1) _ _ (λ h. rests) (λ h. rests)

  activate_ages : (t : ℕ) → Aged (on_task u (activates u) (task_row u t))
  activate_ages t = of_task t (activates u) (λ row m is. either (is_created row.state) _ _ (λ created. put_ages at u t row (activated u m row) numbered is (activated_ages u m row created)) (λ h. rests))

  begin_ages : (t : ℕ) → Aged (on_task u (begins u) (task_row u t))
  begin_ages t = of_task t (begins u) (λ row m is. either (is_in_progress row.state) _ _ (λ h. put_ages at u t row (record row { started = true }) numbered is (started_ages row)) (λ h. rests))

  make_ages : (t e : ℕ) → Aged (on_task u (makes_one u at e) (task_row u t))
  make_ages t e = of_task t (makes_one u at e) (λ row m is. either (is_final row.state || is_made row.task.0 e u.rows) _ _ (λ h. rests) (λ h. of_entry e row (slice_get m.subs e)))

  close_ages : (t : ℕ) (state : State) → Aged (on_row u (closes u state) (task_row u t))
  close_ages t state = of_row t (closes u state) (λ row is. either (is_final row.state) _ _ (λ h. rests) (λ h. each_ages at u (shut state row.task.0 u.rows) (shut_ages state row.task.0 u.rows)))

  up_ages : (p c : ℕ) → Aged (on_row u (λ child. on_task u (rises u child) (task_row u p)) (task_row u c))
  up_ages p c = of_row c (λ child. on_task u (rises u child) (task_row u p)) (λ child there. of_task p (rises u child) (λ row m is.
      either (is_final row.state) _ _ (λ h. rests) (λ h. either (has_failed child.state && is_automatic m.instantiation) _ _ (λ failed. put_ages at u p row (record row { fault = child.fault }) numbered is (fault_ages row child.fault)) (λ h. rests))))

  next_ages : (p c : ℕ) → Aged (on_row u (λ child. on_task u (λ row m. follows_by u row m child.parent) (task_row u p)) (task_row u c))
  next_ages p c = of_row c (λ child. on_task u (λ row m. follows_by u row m child.parent) (task_row u p)) (λ child there. of_task p (λ row m. follows_by u row m child.parent) (λ row m is. follows row m child.parent))

  does_ages : (i : Item) (d : Step) → Does at u i d → Aged d
  does_ages (Activate t) d is = told d _ is (activate_ages t)
  does_ages (Begin t) d is = told d _ is (begin_ages t)
  does_ages (Make t e) d is = told d _ is (make_ages t e)
  does_ages (Check t) d is = of_check t d is
  does_ages (Close t state) d is = told d _ is (close_ages t state)
  does_ages (Up p c) d is = told d _ is (up_ages p c)
  does_ages (Next p c) d is = told d _ is (next_ages p c)

pub all_age : (at : Moment) (u v : TablesOf) (is : List Item) → AreNumbered u.rows → Ends (Does at) u is v → AllAge at u v
all_age at u v [] numbered end = all_age_itself at u
all_age at u v (i ∷ is) numbered (on {d = d} doing rest) =
    let first = does_ages at u numbered i d doing in
    all_age_further at u d.tables v first (all_age at d.tables v (d.puts ++ is) (numbered_still at u d.tables numbered first) rest)

-- ---- tasks below one that is resumed

freed_below : (task : ℕ) (rows : List Row) (row : Row) → Ages row (if is_above rows task row then freed row else row)
freed_below task rows row = go (is_above rows task row)
  where
    go : (b : Bool) → Ages row (if b then freed row else row)
    go true = freed_ages row
    go false = ages_itself row

pub freeing_ages : (at : Moment) (task : ℕ) (u : TablesOf) → AllAge at u (with_rows u (freeing task u.rows))
freeing_ages at task u = each_ages at u (λ row. if is_above u.rows task row then freed row else row) (freed_below task u.rows)

pub all_age_freed : (at : Moment) (task : ℕ) (u v : TablesOf) → AreNumbered u.rows → Frees at task u v → AllAge at u v
all_age_freed at task u v numbered frees =
    let mid = with_rows u (freeing task u.rows) in
    let first = freeing_ages at task u in
    all_age_further at u mid v first (all_age at mid v (checks_of task u.rows) (numbered_still at u mid numbered first) frees)
