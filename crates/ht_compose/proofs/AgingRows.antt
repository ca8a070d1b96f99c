-- That a row ages by what is done with it, and nothing more is due of it then.
use Rattle.ht_tree.specs.Tables.{TablesOf}
use Rattle.std.proofs.Common.{◌≡◌, ◌⊎◌, ℕ, ◌+◌, Bool, true, false, ◌||◌, if◌then◌else◌, List, [], ◌∷◌, ◌++◌, Option, None, Some, inl, inr, refl, sym, ap, subst, ◌∙◌}
use Rattle.std.proofs.lemmas.List.Folds.{list_any-append}
use Rattle.std.proofs.Math.Bool.{or-true}
use Rattle.std.specs.Option.{option_map_or}
use Rattle.std.specs.Prelude.{slice_get}
use Rattle.ht_base.specs.declared.moment.Moment.{Moment}
use Rattle.ht_base.specs.declared.operation.Op.TheVariants.{Resume}
use Rattle.ht_base.specs.declared.state.State.{State}
use Rattle.ht_base.specs.declared.state.State.TheVariants.{InProgress}
use Rattle.ht_base.specs.declared.task_id.TaskId.{TaskId}
use Rattle.ht_base.specs.declared.values.Values.{Values}
use Rattle.ht_base.specs.Persons.{has as has_place}
use Rattle.ht_compose.proofs.Changed.{freed_ends}
use Rattle.ht_compose.proofs.Stepping.{created_lives}
use Rattle.ht_compose.specs.Aging.{Ages}
use Rattle.ht_compose.specs.Downward.{closed, ended, freed, moved_by}
use Rattle.ht_compose.specs.Items.{activated, activated_as}
use Rattle.ht_due.specs.declared.due.Due.{Due}
use Rattle.ht_due.specs.Dues.{has}
use Rattle.ht_entries.specs.declared.deadlines.DeadlineKind.{DeadlineKind}
use Rattle.ht_entries.specs.declared.deadlines.DeadlineKind.TheVariants.{Start, Completion}
use Rattle.ht_models.specs.Model.{DeadlineOf, ModelOf}
use Rattle.ht_tree.specs.declared.row.Row.{Row}
use Rattle.ht_tree.specs.Activation.{state_by}
use Rattle.ht_base.specs.State.{is_final}
use Rattle.ht_tree.specs.RowDues.{deadline_due, deadline_dues, deadline_moment, deadlines_of, due_of, is_obsolete, kind_of, moment_by, open_moment, row_dues}
use Rattle.ht_tree.specs.Soundness.{is_created, is_suspended}

-- ---- one after another

pub ages_itself : (row : Row) → Ages row row
ages_itself row = record {
  task = refl;
  model = refl;
  input = refl;
  created = refl;
  started = λ h. h;
  ended = λ h. h;
  waits = inr refl;
  until = inr refl;
  taken = λ place h. h;
}

gone_or_kept : (a b c : Option Moment) → (b ≡ None) ⊎ (b ≡ a) → (c ≡ None) ⊎ (c ≡ b) → (c ≡ None) ⊎ (c ≡ a)
gone_or_kept a b c first (inl gone) = inl gone
gone_or_kept a b c (inl gone) (inr same) = inl (same ∙ gone)
gone_or_kept a b c (inr was) (inr same) = inr (same ∙ was)

pub ages_further : (old mid new : Row) → Ages old mid → Ages mid new → Ages old new
ages_further old mid new a b = record {
  task = b.task ∙ a.task;
  model = b.model ∙ a.model;
  input = b.input ∙ a.input;
  created = b.created ∙ a.created;
  started = λ h. b.started (a.started h);
  ended = λ h. b.ended (a.ended h);
  waits = gone_or_kept old.waits mid.waits new.waits a.waits b.waits;
  until = gone_or_kept old.until mid.until new.until a.until b.until;
  taken = λ place h. b.taken place (a.taken place h);
}

-- ---- what is done with a row

-- one that hasn't ended may come into any state
lives : (s t : State) → is_final s ≡ false → is_final s ≡ true → is_final t ≡ true
lives s t live end = absurd cc

pub activated_ages : (u : TablesOf) (m : ModelOf) (row : Row) → is_created row.state ≡ true → Ages row (activated u m row)
activated_ages u m row created = go m.owner_required
  where
    go : (b : Bool) → Ages row (activated_as b row.potential_owners row)
    go true = record {
      task = refl;
      model = refl;
      input = refl;
      created = refl;
      started = λ h. h;
      ended = lives row.state (state_by row.potential_owners row.state) (created_lives row.state created);
      waits = inl refl;
      until = inr refl;
      taken = λ place h. h;
    }
    go false = record {
      task = refl;
      model = refl;
      input = refl;
      created = refl;
      started = λ h. h;
      ended = lives row.state InProgress (created_lives row.state created);
      waits = inl refl;
      until = inr refl;
      taken = λ place h. h;
    }

pub started_ages : (row : Row) → Ages row (record row { started = true })
started_ages row = record { task = refl; model = refl; input = refl; created = refl; started = λ h. refl; ended = λ h. h; waits = inr refl; until = inr refl; taken = λ place h. h }

pub output_ages : (row : Row) (output : Values) → Ages row (record row { output = output })
output_ages row output = record { task = refl; model = refl; input = refl; created = refl; started = λ h. h; ended = λ h. h; waits = inr refl; until = inr refl; taken = λ place h. h }

pub fault_ages : (row : Row) (fault : Option (List ℕ)) → Ages row (record row { fault = fault })
fault_ages row fault = record { task = refl; model = refl; input = refl; created = refl; started = λ h. h; ended = λ h. h; waits = inr refl; until = inr refl; taken = λ place h. h }

pub ended_ages : (end : State) (row : Row) → Ages row (ended end row)
ended_ages end row = go (is_final row.state) refl
  where
    go : (b : Bool) → is_final row.state ≡ b → Ages row (if b then row else closed end row)
    go true is = ages_itself row
    go false live = record {
      task = refl;
      model = refl;
      input = refl;
      created = refl;
      started = λ h. h;
      ended = lives row.state end live;
      waits = inl refl;
      until = inl refl;
      taken = λ place h. h;
    }

pub freed_ages : (row : Row) → Ages row (freed row)
freed_ages row = go (is_suspended row.state) (freed_ends row)
  where
    go : (b : Bool) → is_final (if b then record row { state = moved_by Resume row.state; until = None } else row).state ≡ is_final row.state → Ages row (if b then record row { state = moved_by Resume row.state; until = None } else row)
    go true ends = record {
      task = refl;
      model = refl;
      input = refl;
      created = refl;
      started = λ h. h;
      ended = λ h. ends ∙ h;
      waits = inr refl;
      until = inl refl;
      taken = λ place h. h;
    }
    go false ends = ages_itself row

-- ---- what is due of it

either : (a b c d : Bool) → (a ≡ true → c ≡ true) → (b ≡ true → d ≡ true) → (a || b) ≡ true → (c || d) ≡ true
either true b c d f g h = ap (λ (x : Bool). x || d) (f refl)
either false b c d f g h = ap (λ (x : Bool). c || x) (g h) ∙ or-true c

none_or_this : (m : Option Moment) (a b : Bool) → (a ≡ true → b ≡ true) → ((if b then None else m) ≡ None) ⊎ ((if b then None else m) ≡ (if a then None else m))
none_or_this m a true test = inl refl
none_or_this m false false test = inr refl
none_or_this m true false test = absurd (let wrong : false ≡ true = test refl in cc)

module _ (old new : Row) (ages : Ages old new) where
  same_due : (kind place : ℕ) (at : Option Moment) → due_of new kind place at ≡ due_of old kind place at
  same_due kind place None = refl
  same_due kind place (Some at) = ap (λ (t : TaskId). let one : Due = record { at = at; task = t; kind = kind; place = place } in one ∷ []) ages.task

  due_before : (due : Due) (kind place : ℕ) (a b : Option Moment) → (b ≡ None) ⊎ (b ≡ a) → has due (due_of new kind place b) ≡ true → has due (due_of old kind place a) ≡ true
  due_before due kind place a b (inl gone) h = absurd (let none : has due (due_of new kind place b) ≡ false = ap (λ (o : Option Moment). has due (due_of new kind place o)) gone in cc)
  due_before due kind place a b (inr same) h =
      sym (ap (λ (o : Option Moment). has due (due_of new kind place o)) same ∙ ap (has due) (same_due kind place a)) ∙ h

  obsolete_still : (kind : DeadlineKind) → is_obsolete kind old ≡ true → is_obsolete kind new ≡ true
  obsolete_still Start h = either old.started (is_final old.state) new.started (is_final new.state) ages.started ages.ended h
  obsolete_still Completion h = ages.ended h

  same_moment : (d : DeadlineOf) → deadline_moment new d ≡ deadline_moment old d
  same_moment d =
      ap (λ (made : Moment). moment_by made new.input d.period d.at d.part) ages.created
      ∙ ap (λ (input : Values). moment_by old.created input d.period d.at d.part) ages.input

  deadline_before : (due : Due) (place : ℕ) (d : DeadlineOf) → has due (deadline_due new place d) ≡ true → has due (deadline_due old place d) ≡ true
  deadline_before due place d h =
      let passed = has_place place new.taken || is_obsolete d.kind new in
      let P : Option Moment → Type 0 = λ m. ((if passed then None else m) ≡ None) ⊎ ((if passed then None else m) ≡ open_moment old place d) in
      let still = either (has_place place old.taken) (is_obsolete d.kind old) (has_place place new.taken) (is_obsolete d.kind new) (ages.taken place) (obsolete_still d.kind) in
      let none_or_same = none_or_this (deadline_moment old d) (has_place place old.taken || is_obsolete d.kind old) passed still in
      due_before due (kind_of d.kind) place (open_moment old place d) (open_moment new place d) (subst P (sym (same_moment d)) none_or_same) h

  -- in two lists, one behind the other
  has_in : (due : Due) (xs ys : List Due) → has due (xs ++ ys) ≡ (has due xs || has due ys)
  has_in due xs ys = list_any-append _ xs ys

  both : (due : Due) (xs ys zs ws : List Due) → (has due xs ≡ true → has due zs ≡ true) → (has due ys ≡ true → has due ws ≡ true) → has due (xs ++ ys) ≡ true → has due (zs ++ ws) ≡ true
  both due xs ys zs ws f g h = has_in due zs ws ∙ either (has due xs) (has due ys) (has due zs) (has due ws) f g (sym (has_in due xs ys) ∙ h)

  deadlines_before : (due : Due) (place : ℕ) (ds : List DeadlineOf) → has due (deadline_dues new place ds) ≡ true → has due (deadline_dues old place ds) ≡ true
  deadlines_before due place [] h = h
  deadlines_before due place (d ∷ ds) h =
      both due (deadline_due new place d) (deadline_dues new (place + 1) ds) (deadline_due old place d) (deadline_dues old (place + 1) ds) (deadline_before due place d) (deadlines_before due (place + 1) ds) h

  pub was_due : (models : List ModelOf) (due : Due) → has due (row_dues models new) ≡ true → has due (row_dues models old) ≡ true
  was_due models due h =
      let P : List DeadlineOf → Type 0 = λ l. has due (deadline_dues new 0 l) ≡ true → has due (deadline_dues old 0 (deadlines_of models old)) ≡ true in
      let same : deadlines_of models old ≡ deadlines_of models new = ap (λ (k : ℕ). option_map_or (λ m. m.deadlines) (slice_get models k) []) (sym ages.model) in
      both due (due_of new 0 0 new.waits ++ due_of new 1 0 new.until) (deadline_dues new 0 (deadlines_of models new)) (due_of old 0 0 old.waits ++ due_of old 1 0 old.until) (deadline_dues old 0 (deadlines_of models old))
      (both due (due_of new 0 0 new.waits) (due_of new 1 0 new.until) (due_of old 0 0 old.waits) (due_of old 1 0 old.until) (due_before due 0 0 old.waits new.waits ages.waits) (due_before due 1 0 old.until new.until ages.until))
      (subst P same (deadlines_before due 0 (deadlines_of models old)))
      h
