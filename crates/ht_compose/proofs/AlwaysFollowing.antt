-- What follows where tasks are freed, held, gather their results or are made by hand is always there.
use Rattle.ht_models.specs.Contradictions.{is_automatic}
use Rattle.std.proofs.Common.{◌≡◌, ℕ, ◌+◌, Bool, true, false, ◌||◌, if◌then◌else◌, List, [], ◌∷◌, ◌++◌, length, map, Option, None, Some, refl, ap, subst, ◌∙◌, arith}
use Rattle.std.specs.List.{AllByRecursion}
use Rattle.std.specs.Prelude.{slice_get}
use Rattle.ht_base.specs.declared.moment.Moment.{Moment}
use Rattle.ht_base.specs.State.{is_final}
use Rattle.ht_compose.proofs.AgingRows.{output_ages}
use Rattle.ht_compose.proofs.AgingTables.{all_age, all_age_itself, numbered_still, put_ages, behind_ages}
use Rattle.ht_compose.proofs.AlwaysEnding.{Reached, end_reached}
use Rattle.ht_compose.proofs.Changed.{changed_standing, freed_ends, held_ends}
use Rattle.ht_compose.proofs.InOrder.{AreInOrder, StayInOrder, below_in_order, freed_in_order, held_below_in_order, order_then, put_in_order, same_in_order}
use Rattle.ht_compose.proofs.Keeping.{Fit, NoMore, changed, mapped}
use Rattle.ht_compose.proofs.StayingThere.{put_behind}
use Rattle.ht_compose.proofs.Stepping.{some_output}
use Rattle.ht_compose.specs.declared.reaching.Change.TheVariants as change
use Rattle.ht_compose.specs.Agenda.{Ends}
use Rattle.ht_compose.specs.Agenda.Ends.{on}
use Rattle.ht_compose.specs.Aging.{AllAge}
use Rattle.ht_compose.specs.Composing.{IsToMake}
use Rattle.ht_compose.specs.Downward.{freed, freeing, held, holding}
use Rattle.ht_compose.specs.Families.{is_above}
use Rattle.ht_compose.specs.Finishes.{chosen, completed}
use Rattle.ht_compose.specs.Freeing.{Frees, Resumes, checks_of, freed_tasks}
use Rattle.ht_compose.specs.Gathering.{Gathers, GathersBy}
use Rattle.ht_compose.specs.Items.{Does, Step, does, makes_at, makes_entry, makes_of, makes_one, on_model, on_task, still, sub_task}
use Rattle.ht_compose.specs.Items.Item.{Activate, Check, Make}
use Rattle.ht_compose.specs.Work.{ClosesForGood}
use Rattle.ht_entries.specs.SubEntries.{SubEntry}
use Rattle.ht_models.proofs.PublicLaws.{entry_found, model_found}
use Rattle.ht_models.specs.Model.{FinishOf, ModelOf}
use Rattle.ht_tree.proofs.PublicLaws.{standing, within}
use Rattle.ht_tree.specs.declared.row.Row.{Row}
use Rattle.ht_tree.specs.Families.{is_made}
use Rattle.ht_tree.specs.Tables.{TablesOf, model_of, task_row, with_row, with_rows}

-- ---- tasks are freed

-- a row that may be freed stands where it stood
below_stands : (b : Bool) (row : Row) → standing (if b then freed row else row) ≡ standing row
below_stands true row = changed_standing change.Free row
below_stands false row = refl

-- and has ended where it had
below_ends : (b : Bool) (row : Row) → is_final row.state ≡ true → is_final (if b then freed row else row).state ≡ true
below_ends true row is = freed_ends row ∙ is
below_ends false row is = is

-- checks close nothing
all_checks : (rows : List Row) (task : ℕ) → AllByRecursion ClosesForGood (map (λ row. Check row.task.0) rows ++ Check task ∷ [])
all_checks [] task = (tt, tt)
all_checks (row ∷ rows) task = (tt, all_checks rows task)

-- the tables once those below a task are freed
pub record IsFreedFrom (at : Moment) (task : ℕ) (u : TablesOf) : Type 0 where
  pub after : TablesOf
  pub frees : Frees at task u after
  pub fit : Fit after
  pub order : StayInOrder u after

pub always_frees : (at : Moment) (task : ℕ) (u : TablesOf) → Fit u → IsFreedFrom at task u
always_frees at task u fit =
    let first = mapped u (λ row. if is_above u.rows task row then freed row else row) fit (λ row. below_stands (is_above u.rows task row) row) (λ row. below_ends (is_above u.rows task row) row) (below_in_order u.models task u.rows) in
    let mid = with_rows u (freeing task u.rows) in
    let rest : Reached at mid (checks_of task u.rows) = end_reached at mid (checks_of task u.rows) (record { numbered = (first.fit).numbered; sized = (first.fit).sized; closings = all_checks (freed_tasks task u.rows) task }) in
    record { after = rest.new; frees = rest.ends; fit = rest.fit; order = order_then u mid rest.new first.order rest.order }

-- and once the task was resumed before
pub record IsResumedFrom (at : Moment) (task : ℕ) (u : TablesOf) : Type 0 where
  pub after : TablesOf
  pub resumes : Resumes at task u after
  pub fit : Fit after
  pub order : StayInOrder u after

pub always_resumes : (at : Moment) (task : ℕ) (u : TablesOf) (row : Row) → Fit u → task_row u task ≡ Some row → is_final row.state ≡ false → IsResumedFrom at task u
always_resumes at task u row fit there live =
    let first = changed u task row (freed row) fit there (changed_standing change.Free row) live (freed_in_order u.models row) in
    let rest = always_frees at task (with_row u (freed row)) first.fit in
    record {
      after = rest.after;
      resumes = (row, there, rest.frees);
      fit = rest.fit;
      order = order_then u (with_row u (freed row)) rest.after first.order rest.order;
    }

-- ---- tasks are held

-- a row that may be held stands where it stood
held_stands : (b : Bool) (row : Row) → standing (if b then held row else row) ≡ standing row
held_stands true row = changed_standing change.Hold row
held_stands false row = refl

-- and has ended where it had
held_stays : (b : Bool) (row : Row) → is_final row.state ≡ true → is_final (if b then held row else row).state ≡ true
held_stays true row is = held_ends row ∙ is
held_stays false row is = is

-- the tables once those below a task are held
pub always_holds : (task : ℕ) (u : TablesOf) → Fit u → NoMore u (with_rows u (holding task u.rows))
always_holds task u fit = mapped u (λ row. if is_above u.rows task row then held row else row) fit (λ row. held_stands (is_above u.rows task row) row) (λ row. held_stays (is_above u.rows task row) row) (held_below_in_order u.models task u.rows)

-- ---- results are gathered

-- the tables once the results of a task are set
pub record IsGatheredFrom (at : Moment) (task : ℕ) (u : TablesOf) : Type 0 where
  pub after : TablesOf
  pub gathers : Gathers u task after
  pub age : AllAge at u after
  pub all : AreInOrder u → AreInOrder after

pub always_gathers : (at : Moment) (task : ℕ) (u : TablesOf) (row : Row) (m : ModelOf) → Fit u → task_row u task ≡ Some row → model_of u row ≡ Some m → IsGatheredFrom at task u
always_gathers at task u row m fit there of =
    let g = go (if is_automatic m.completion then None else chosen u.rows m row) in
    record { after = g.0; gathers = (row, m, there, of, g.1); age = g.2; all = g.3 }
  where
    go : (o : Option FinishOf) → (v : TablesOf) × GathersBy u row m o v × AllAge at u v × (AreInOrder u → AreInOrder v)
    go None = (u, refl, all_age_itself at u, λ all. all)
    go (Some f) =
        let output = some_output (completed row.task.0 (length m.subs) u.rows) f.settings row.output in
        let new = record row { output = output.0 } in
        let number : new.task.0 ≡ task = fit.numbered task row there in
        let place = within u.rows row task there in
        let low = place.0 in
        let high = place.1 in (
          with_row u new,
          (output.0, output.1, refl),
          put_ages at u task row new fit.numbered there (output_ages row output.0),
          λ all. put_in_order u new (omega (arith, number, low), omega (arith, number, high)) (same_in_order u.models row new refl refl refl refl (all task row there)) all,
        )

-- ---- a sub task is made by hand

-- it is put behind the others
makes_sub : (at : Moment) (u : TablesOf) (t e : ℕ) → Fit u → IsToMake u t e → (new : Row) × (new.task.0 ≡ length u.rows + 1) × (AllAge at u (with_row u new)) × (on_task u (makes_one u at e) (task_row u t) ≡ does (with_row u new) (Activate (length u.rows + 1) ∷ []))
makes_sub at u t e fit is =
    let row = is.row in
    let m = is.model in
    let entry = is.sub in
    let place = entry_found u.models fit.sized row.model m e entry is.of_model is.listed in
    let sub = model_found u.models entry.model place.0 place.1 in
    let number : row.task.0 ≡ t = fit.numbered t row is.there in
    let made : is_made row.task.0 e u.rows ≡ false = ap (λ (k : ℕ). is_made k e u.rows) number ∙ is.not_made in
    let new = sub_task u at row e entry place.0 sub.0 in
    let step =
    ap (λ (o : Option Row). on_task u (makes_one u at e) o) is.there
    ∙ ap (λ (o : Option ModelOf). on_model u row (makes_one u at e) o) is.of_model
    ∙ ap (λ (b : Bool). if b || is_made row.task.0 e u.rows then still u else makes_entry u at row e (slice_get m.subs e)) is.going_on
    ∙ ap (λ (b : Bool). if b then still u else makes_entry u at row e (slice_get m.subs e)) made
    ∙ ap (λ (o : Option SubEntry). makes_entry u at row e o) is.listed
    ∙ ap (λ (o : Option ℕ). makes_at u at row e entry o) place.1
    ∙ ap (λ (o : Option ModelOf). makes_of u at row e entry place.0 o) sub.1 in
    (new, refl, behind_ages at u new refl refl refl refl, step)

-- and is there at the end of what follows
pub sub_task_there : (at : Moment) (u v : TablesOf) (t e : ℕ) → Fit u → IsToMake u t e → Ends (Does at) u (Make t e ∷ []) v → (row : Row) × (task_row v (length u.rows + 1) ≡ Some row)
sub_task_there at u v t e fit is (on {d = d} doing rest) =
    let made = makes_sub at u t e fit is in
    let mid = with_row u made.0 in
    let done : d ≡ does mid (Activate (length u.rows + 1) ∷ []) = doing ∙ made.3 in
    let E : Step → Type 0 = λ x. Ends (Does at) x.tables (x.puts ++ []) v in
    let all = all_age at mid v (Activate (length u.rows + 1) ∷ []) (numbered_still at u mid fit.numbered made.2) (subst E done rest) in
    let there = all.there (length u.rows + 1) made.0 (put_behind u made.0 made.1) in
    (there.0, there.1)
