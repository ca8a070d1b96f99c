-- What each item does leaves no more to do, and what it puts is lighter than the item.
use Rattle.ht_models.specs.Contradictions.{is_automatic}
use Rattle.std.proofs.Common.{◌≡◌, ℕ, ◌+◌, ◌*◌, ◌<◌, ◌≤◌, zero, suc, Bool, true, false, not, ◌&&◌, ◌||◌, if◌then◌else◌, List, [], ◌∷◌, ◌++◌, length, map, Option, Some, None, refl, arith}
use Rattle.std.specs.Prelude.{slice_get}
use Rattle.std.specs.Option.{option_map_or}
use Rattle.ht_aggregate.proofs.PublicLaws.{some_result}
use Rattle.ht_base.specs.declared.moment.Moment.{Moment}
use Rattle.ht_base.specs.declared.state.State.{State}
use Rattle.ht_base.specs.declared.state.State.TheVariants.{Failed}
use Rattle.ht_base.specs.declared.task_id.TaskId.{TaskId}
use Rattle.ht_base.specs.declared.values.Values.{Values}
use Rattle.ht_compose.proofs.ClosedRows.{shut, shut_ends, shut_stands, shut_stays, skipped, skipped_stands, skipped_stays}
use Rattle.ht_compose.proofs.InOrder.{StayInOrder, activated_in_order, order_before, order_then, same_in_order, shut_in_order, skipped_in_order}
use Rattle.ht_compose.proofs.Standing.{there_before, there_then}
use Rattle.ht_compose.specs.Families.{StillThere}
use Rattle.ht_compose.proofs.Keeping.{Fit, IsNext, Less, NoMore, changed, made, mapped, mapped_less}
use Rattle.ht_compose.specs.Finishes.{Sets, chosen, completed, values_for, with_result}
use Rattle.ht_compose.specs.Items.{comes_next, Checks, Does, Finishes, Item, OnModel, OnTask, Step, activated, activates, begins, begins_with, closes, does, finished, first_entries, follows_by, has_ended, has_failed, is_in_progress, makes, makes_at, makes_entry, makes_of, makes_one, on_model, on_row, on_task, rises, still, sub_task, ups}
use Rattle.ht_compose.specs.Items.Item.{Activate, Begin, Check, Close, Make, Next, Up}
use Rattle.ht_compose.specs.Work.{ClosesForGood, work}
use Rattle.ht_entries.specs.Finishes.{Setting}
use Rattle.ht_models.specs.Model.{FinishOf, ModelOf}
use Rattle.ht_entries.specs.SubEntries.{SubEntry}
use Rattle.ht_tree.proofs.PublicLaws.{standing}
use Rattle.ht_tree.specs.declared.row.Row.{Row}
use Rattle.ht_base.specs.State.{is_final}
use Rattle.ht_tree.specs.Families.{is_made}
use Rattle.ht_tree.specs.Soundness.{is_created}
use Rattle.ht_tree.specs.Tables.{TablesOf, model_at, model_named, model_of, task_row, with_row, with_rows}

-- in the order in which items lead to others where nothing less is to do
abbrev pub rank : Item → ℕ
rank (Up p c) = 6
rank (Next p c) = 5
rank (Activate t) = 4
rank (Begin t) = 3
rank (Check t) = 2
rank (Make t e) = 1
rank (Close t end) = 0

abbrev pub weight : TablesOf → Item → ℕ
weight u i = work u * 8 + rank i

-- each of these items is lighter than this
abbrev pub AreLight : TablesOf → ℕ → List Item → Type 0
AreLight u n [] = Unit {0}
AreLight u n (i ∷ is) = ClosesForGood i × (weight u i < n) × AreLight u n is

pub record Falls (u : TablesOf) (n : ℕ) (d : Step) : Type 0 where
  pub fit : Fit d.tables
  pub there : StillThere u d.tables
  pub less : work d.tables ≤ work u
  pub order : StayInOrder u d.tables
  pub light : AreLight d.tables n d.puts

pub record Steps (at : Moment) (u : TablesOf) (i : Item) : Type 0 where
  pub done : Step
  pub does : Does at u i done
  pub falls : Falls u (weight u i) done

-- ---- items in general

rests : (u : TablesOf) (n : ℕ) → Fit u → Falls u n (still u)
rests u n fit = record { fit = fit; there = there_before u; less = omega arith; order = order_before u; light = tt }

-- nothing is put
alone : (u new : TablesOf) (n : ℕ) → NoMore u new → Falls u n (does new [])
alone u new n h = record { fit = h.fit; there = h.there; less = h.less; order = h.order; light = tt }

-- one item is put, of a lower rank
puts_one : (u new : TablesOf) (i j : Item) → NoMore u new → ClosesForGood j → rank j < rank i → Falls u (weight u i) (does new (j ∷ []))
puts_one u new i j h ends lower = record { fit = h.fit; there = h.there; less = h.less; order = h.order; light = (ends, let less = h.less in omega (arith, less, lower), tt) }

unchanged : (u : TablesOf) → Fit u → NoMore u u
unchanged u fit = record { fit = fit; there = there_before u; less = omega arith; order = order_before u }

light_behind : (u : TablesOf) (n : ℕ) (is js : List Item) → AreLight u n is → AreLight u n js → AreLight u n (is ++ js)
light_behind u n [] js a b = b
light_behind u n (i ∷ is) js a b = (a.0, a.1, light_behind u n is js a.2 b)

module _ (u : TablesOf) (n t : ℕ) (fit : Fit u) where
  falls_row : (f : Row → Step) → ((row : Row) → task_row u t ≡ Some row → Falls u n (f row)) → Falls u n (on_row u f (task_row u t))
  falls_row f falls = cases (task_row u t) refl
    where
      cases : (o : Option Row) → task_row u t ≡ o → Falls u n (on_row u f o)
      cases None at = rests u n fit
      cases (Some row) at = falls row at

  falls_task : (f : Row → ModelOf → Step) → ((row : Row) (m : ModelOf) → task_row u t ≡ Some row → model_of u row ≡ Some m → Falls u n (f row m)) → Falls u n (on_task u f (task_row u t))
  falls_task f falls = cases (task_row u t) refl
    where
      models : (row : Row) (o : Option ModelOf) → task_row u t ≡ Some row → model_of u row ≡ o → Falls u n (on_model u row f o)
      models row None at of = rests u n fit
      models row (Some m) at of = falls row m at of

      cases : (o : Option Row) → task_row u t ≡ o → Falls u n (on_task u f o)
      cases None at = rests u n fit
      cases (Some row) at = models row (model_of u row) at refl

-- ---- activate and begin

pub created_lives : (s : State) → is_created s ≡ true → is_final s ≡ false
created_lives s h = grind arith

in_progress_lives : (s : State) → is_in_progress s ≡ true → is_final s ≡ false
in_progress_lives s h = grind arith

activated_stands : (u : TablesOf) (m : ModelOf) (row : Row) → standing (activated u m row) ≡ standing row
activated_stands u m row = cases m.owner_required
  where
    cases : (b : Bool) → standing (activated u (record m { owner_required = b }) row) ≡ standing row
    cases true = refl
    cases false = refl

falls_activate : (u : TablesOf) (t : ℕ) → Fit u → Falls u (weight u (Activate t)) (on_task u (activates u) (task_row u t))
falls_activate u t fit = falls_task u (weight u (Activate t)) t fit (activates u) (λ row m at of. cases row m at (is_created row.state) m.owner_required refl)
  where
    cases : (row : Row) (m : ModelOf) → task_row u t ≡ Some row → (b c : Bool) → is_created row.state ≡ b → Falls u (weight u (Activate t)) (if b then does (with_row u (activated u m row)) (if c then [] else Begin row.task.0 ∷ []) else still u)
    cases row m at false c created = rests u (weight u (Activate t)) fit
    cases row m at true true created = alone u (with_row u (activated u m row)) (weight u (Activate t)) (changed u t row (activated u m row) fit at (activated_stands u m row) (created_lives row.state created) (activated_in_order u m row created))
    cases row m at true false created = puts_one u (with_row u (activated u m row)) (Activate t) (Begin row.task.0) (changed u t row (activated u m row) fit at (activated_stands u m row) (created_lives row.state created) (activated_in_order u m row created)) tt (omega arith)

light_makes : (u : TablesOf) (n t e : ℕ) → work u * 8 + 1 < n → AreLight u n (makes t e)
light_makes u n t zero h = tt
light_makes u n t (suc e) h = light_behind u n (makes t e) (Make t e ∷ []) (light_makes u n t e h) (tt, h, tt)

falls_begin : (u : TablesOf) (t : ℕ) → Fit u → Falls u (weight u (Begin t)) (on_task u (begins u) (task_row u t))
falls_begin u t fit = falls_task u n t fit (begins u) (λ row m at of. cases row m at (is_in_progress row.state) refl)
  where
    n : ℕ
    n = weight u (Begin t)

    begun : (row : Row) (m : ModelOf) (new : TablesOf) (b : Bool) → work new ≤ work u → AreLight new (weight u (Begin t)) (if b then makes row.task.0 (first_entries m) else [])
    begun row m new true less = light_makes new (weight u (Begin t)) row.task.0 (first_entries m) (omega (arith, less))
    begun row m new false less = tt

    cases : (row : Row) (m : ModelOf) → task_row u t ≡ Some row → (b : Bool) → is_in_progress row.state ≡ b → Falls u (weight u (Begin t)) (if b then does (with_row u (record row { started = true })) (begins_with m row ++ Check row.task.0 ∷ []) else still u)
    cases row m at false going = rests u (weight u (Begin t)) fit
    cases row m at true going =
        let new = with_row u (record row { started = true }) in
        let h = changed u t row (record row { started = true }) fit at refl (in_progress_lives row.state going) (same_in_order u.models row (record row { started = true }) refl refl refl refl) in
        let less = h.less in
        record {
          fit = h.fit;
          there = h.there;
          less = less;
          order = h.order;
          light = light_behind new (weight u (Begin t)) (begins_with m row) (Check row.task.0 ∷ []) (begun row m new (not row.started && is_automatic m.instantiation) less) (tt, omega (arith, less), tt);
        }

-- ---- make

falls_make : (at : Moment) (u : TablesOf) (t e : ℕ) → Fit u → Falls u (weight u (Make t e)) (on_task u (makes_one u at e) (task_row u t))
falls_make at u t e fit = falls_task u (weight u (Make t e)) t fit (makes_one u at e) (λ row m is of. cases row m is of (is_final row.state) (is_made row.task.0 e u.rows) refl)
  where
    put_one : (row new : Row) → task_row u t ≡ Some row → IsNext u row e new → Falls u (weight u (Make t e)) (does (with_row u new) (Activate (length u.rows + 1) ∷ []))
    put_one row new is next =
        let h = made u t e row new fit is next in
        let less = h.less in
        record { fit = h.fit; there = h.there; less = omega (arith, less); order = h.order; light = (tt, omega (arith, less), tt) }

    of_model : (row : Row) (m : ModelOf) (entry : SubEntry) (place : ℕ) (o : Option ModelOf) → task_row u t ≡ Some row → model_of u row ≡ Some m → is_made row.task.0 e u.rows ≡ false → slice_get m.subs e ≡ Some entry → model_named u entry.model ≡ Some place → model_at u place ≡ o → Falls u (weight u (Make t e)) (makes_of u at row e entry place o)
    of_model row m entry place None is of new listed named there = rests u (weight u (Make t e)) fit
    of_model row m entry place (Some sub) is of new listed named there = put_one row (sub_task u at row e entry place sub) is (record {
      m = m;
      known = of;
      entry = entry;
      listed = listed;
      not_made = new;
      named = named;
      of = sub;
      there = there;
      number = refl;
      parent = refl;
      waits = refl;
      until = refl;
    })

    at_place : (row : Row) (m : ModelOf) (entry : SubEntry) (o : Option ℕ) → task_row u t ≡ Some row → model_of u row ≡ Some m → is_made row.task.0 e u.rows ≡ false → slice_get m.subs e ≡ Some entry → model_named u entry.model ≡ o → Falls u (weight u (Make t e)) (makes_at u at row e entry o)
    at_place row m entry None is of new listed named = rests u (weight u (Make t e)) fit
    at_place row m entry (Some place) is of new listed named = of_model row m entry place (model_at u place) is of new listed named refl

    of_entry : (row : Row) (m : ModelOf) (o : Option SubEntry) → task_row u t ≡ Some row → model_of u row ≡ Some m → is_made row.task.0 e u.rows ≡ false → slice_get m.subs e ≡ o → Falls u (weight u (Make t e)) (makes_entry u at row e o)
    of_entry row m None is of new listed = rests u (weight u (Make t e)) fit
    of_entry row m (Some entry) is of new listed = at_place row m entry (model_named u entry.model) is of new listed refl

    cases : (row : Row) (m : ModelOf) → task_row u t ≡ Some row → model_of u row ≡ Some m → (b c : Bool) → is_made row.task.0 e u.rows ≡ c → Falls u (weight u (Make t e)) (if b || c then still u else makes_entry u at row e (slice_get m.subs e))
    cases row m is of true c new = rests u (weight u (Make t e)) fit
    cases row m is of false true new = rests u (weight u (Make t e)) fit
    cases row m is of false false new = of_entry row m (slice_get m.subs e) is of new refl

-- ---- check

pub some_output : (subs : List Row) (ss : List Setting) (old : Values) → (new : Values) × Sets subs ss old new
some_output subs [] old = (old, refl)
some_output subs (s ∷ ss) old =
    let r = some_result s.how (values_for s.how s.from subs) in
    let more = some_output subs ss (with_result s.part r.0 old) in
    (more.0, (r.0, r.1, more.1))

falls_finished : (u : TablesOf) (t : ℕ) (row : Row) (output : Values) → Fit u → task_row u t ≡ Some row → is_final row.state ≡ false → Falls u (weight u (Check t)) (finished u row output)
falls_finished u t row output fit at live =
    let set = changed u t row (record row { output = output }) fit at refl live (same_in_order u.models row (record row { output = output }) refl refl refl refl) in
    let rows = (with_row u (record row { output = output })).rows in
    let skip = mapped (with_row u (record row { output = output })) (skipped row.task.0 rows) set.fit (skipped_stands row.task.0 rows) (skipped_stays row.task.0 rows) (skipped_in_order u.models row.task.0 rows) in
    let a = set.less in
    let b = skip.less in
    record { fit = skip.fit; there = there_then u (with_row u (record row { output = output })) (with_rows u (map (skipped row.task.0 rows) rows)) set.there skip.there; less = omega (arith, a, b); order = order_then u (with_row u (record row { output = output })) (with_rows u (map (skipped row.task.0 rows) rows)) set.order skip.order; light = (refl, omega (arith, a, b), tt) }

record Checked (u : TablesOf) (t : ℕ) (Does : Step → Type 0) : Type 0 where
  done : Step
  does : Does done
  falls : Falls u (weight u (Check t)) done

not_checked : (u : TablesOf) (t : ℕ) → Fit u → Checked u t (λ d. d ≡ still u)
not_checked u t fit = record { done = still u; does = refl; falls = rests u (weight u (Check t)) fit }

checked : (u : TablesOf) (t : ℕ) → Fit u → Checked u t (λ d. OnTask u (Checks u) (task_row u t) d)
checked u t fit = cases (task_row u t) refl
  where
    finishes : (row : Row) (m : ModelOf) (o : Option FinishOf) → task_row u t ≡ Some row → is_final row.state ≡ false → Checked u t (λ d. Finishes u row m o d)
    finishes row m None at live = not_checked u t fit
    finishes row m (Some f) at live =
        let output = some_output (completed row.task.0 (length m.subs) u.rows) f.settings row.output in
        record { done = finished u row output.0; does = (output.0, output.1, refl); falls = falls_finished u t row output.0 fit at live }

    tested : (row : Row) (m : ModelOf) (a b c : Bool) → task_row u t ≡ Some row → is_in_progress row.state ≡ a → Checked u t (λ d. Finishes u row m (if a && b && c then chosen u.rows m row else None) d)
    tested row m true true true at going = finishes row m (chosen u.rows m row) at (in_progress_lives row.state going)
    tested row m true true false at going = not_checked u t fit
    tested row m true false c at going = not_checked u t fit
    tested row m false b c at going = not_checked u t fit

    models : (row : Row) (o : Option ModelOf) → task_row u t ≡ Some row → Checked u t (λ d. OnModel u row (Checks u) o d)
    models row None at = not_checked u t fit
    models row (Some m) at = tested row m (is_in_progress row.state) (is_automatic m.completion) (has_ended u row) at refl

    cases : (o : Option Row) → task_row u t ≡ o → Checked u t (λ d. OnTask u (Checks u) o d)
    cases None at = not_checked u t fit
    cases (Some row) at = models row (model_of u row) at

-- ---- close

falls_close : (u : TablesOf) (t : ℕ) (end : State) → is_final end ≡ true → Fit u → Falls u (weight u (Close t end)) (on_row u (closes u end) (task_row u t))
falls_close u t end final fit = falls_row u (weight u (Close t end)) t fit (closes u end) (λ row at. cases row at (is_final row.state) refl)
  where
    rising : (row : Row) (new : TablesOf) (o : Option (TaskId × ℕ)) → Less u new → Falls u (weight u (Close t end)) (does new (option_map_or (λ p. Up p.0.0 row.task.0 ∷ []) o []))
    rising row new None h = let less = h.less in record { fit = h.fit; there = h.there; less = omega (arith, less); order = h.order; light = tt }
    rising row new (Some p) h = let less = h.less in record { fit = h.fit; there = h.there; less = omega (arith, less); order = h.order; light = (tt, omega (arith, less), tt) }

    cases : (row : Row) → task_row u t ≡ Some row → (b : Bool) → is_final row.state ≡ b → Falls u (weight u (Close t end)) (if b then still u else does (record u { rows = map (shut end row.task.0 u.rows) u.rows }) (ups row))
    cases row at true live = rests u (weight u (Close t end)) fit
    cases row at false live = rising row (record u { rows = map (shut end row.task.0 u.rows) u.rows }) row.parent (mapped_less u (shut end row.task.0 u.rows) fit (shut_stands end row.task.0 u.rows) (shut_stays end row.task.0 u.rows) (shut_in_order u.models end row.task.0 u.rows) t row at live (shut_ends end u.rows row final live))

-- ---- up and next

falls_up : (u : TablesOf) (p c : ℕ) → Fit u → Falls u (weight u (Up p c)) (on_row u (λ child. on_task u (rises u child) (task_row u p)) (task_row u c))
falls_up u p c fit = falls_row u (weight u (Up p c)) c fit (λ child. on_task u (rises u child) (task_row u p)) (λ child at. falls_task u (weight u (Up p c)) p fit (rises u child) (λ row m is of. cases child row m is (is_final row.state) (has_failed child.state && is_automatic m.instantiation) refl))
  where
    cases : (child row : Row) (m : ModelOf) → task_row u p ≡ Some row → (a b : Bool) → is_final row.state ≡ a → Falls u (weight u (Up p c)) (if a then still u else (if b then does (with_row u (record row { fault = child.fault })) (Close row.task.0 Failed ∷ []) else does u (Check row.task.0 ∷ Next row.task.0 child.task.0 ∷ [])))
    cases child row m is true b live = rests u (weight u (Up p c)) fit
    cases child row m is false true live = puts_one u (with_row u (record row { fault = child.fault })) (Up p c) (Close row.task.0 Failed) (changed u p row (record row { fault = child.fault }) fit is refl live (same_in_order u.models row (record row { fault = child.fault }) refl refl refl refl)) refl (omega arith)
    cases child row m is false false live = record { fit = fit; there = there_before u; less = omega arith; order = order_before u; light = (tt, omega arith, (tt, omega arith, tt)) }

falls_next : (u : TablesOf) (p c : ℕ) → Fit u → Falls u (weight u (Next p c)) (on_row u (λ child. on_task u (λ row m. follows_by u row m child.parent) (task_row u p)) (task_row u c))
falls_next u p c fit = falls_row u (weight u (Next p c)) c fit (λ child. on_task u (λ row m. follows_by u row m child.parent) (task_row u p)) (λ child at. falls_task u (weight u (Next p c)) p fit (λ row m. follows_by u row m child.parent) (λ row m is of. follows row m child.parent))
  where
    cases : (row : Row) (q : TaskId × ℕ) (b : Bool) → Falls u (weight u (Next p c)) (if b then does u (Make row.task.0 (q.1 + 1) ∷ []) else still u)
    cases row q true = puts_one u u (Next p c) (Make row.task.0 (q.1 + 1)) (unchanged u fit) tt (omega arith)
    cases row q false = rests u (weight u (Next p c)) fit

    follows : (row : Row) (m : ModelOf) (o : Option (TaskId × ℕ)) → Falls u (weight u (Next p c)) (follows_by u row m o)
    follows row m None = rests u (weight u (Next p c)) fit
    follows row m (Some q) = cases row q (not (is_final row.state) && comes_next m q.1)

-- ---- every item

pub steps : (at : Moment) (u : TablesOf) (i : Item) → Fit u → ClosesForGood i → Steps at u i
steps at u (Activate t) fit ends = record { done = _; does = refl; falls = falls_activate u t fit }
steps at u (Begin t) fit ends = record { done = _; does = refl; falls = falls_begin u t fit }
steps at u (Make t e) fit ends = record { done = _; does = refl; falls = falls_make at u t e fit }
steps at u (Check t) fit ends = let c = checked u t fit in record { done = c.done; does = c.does; falls = c.falls }
steps at u (Close t end) fit ends = record { done = _; does = refl; falls = falls_close u t end ends fit }
steps at u (Up p c) fit ends = record { done = _; does = refl; falls = falls_up u p c fit }
steps at u (Next p c) fit ends = record { done = _; does = refl; falls = falls_next u p c fit }
