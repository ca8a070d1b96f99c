-- That tables are sound.
use Rattle.ht_base.specs.declared.limits.TheConstants.{MOST_TASKS}
use Rattle.ht_models.specs.TreeSizes.{size_at}
use Rattle.std.proofs.Common.{inl, inr, subst, ◌+◌, ◌++◌, ◌==◌, if◌then◌else◌, Bool, true, false, length-append, ◌≡◌, ℕ, ◌≤◌, zero, suc, List, [], ◌∷◌, length, Option, Some, None, IfSome, option_map, Bor, refl, ap, sym, ◌∙◌, arith}
use Rattle.std.specs.Prelude.{slice_get}
use Rattle.std.specs.List.{AllByRecursion}
use Rattle.std.specs.Option.{option_map_or}
use Rattle.std.proofs.lemmas.Bool.{eqb-true}
use Rattle.std.proofs.lemmas.Option.{slice_get_within}
use Rattle.ht_base.specs.declared.task_id.TaskId.{TaskId}
use Rattle.ht_base.specs.Moment.{last_moment}
use Rattle.ht_models.specs.Model.{ModelOf}
use Rattle.ht_people.specs.Directory.{DirectoryOf}
use Rattle.ht_tree.specs.declared.notice.Notice.{Notice}
use Rattle.ht_tree.specs.declared.row.Row.{Row}
use Rattle.ht_tree.specs.Plans.{IsNext, Replaces}
use Rattle.ht_tree.specs.Rows.{put_in, row_at}
use Rattle.ht_tree.specs.Sizes.{size_under, top_size, total_size}
use Rattle.ht_base.specs.State.{is_final}
use Rattle.ht_tree.specs.Families.{AreFamilies, IsNewSub, parent_at, to_come_of}
use Rattle.ht_tree.specs.Soundness.{IsSound, IsSoundNotice, IsSoundRow, has_escalation}
use Rattle.ht_tree.specs.declared.slot.Slot.{Slot}
use Rattle.ht_tree.specs.Slots.{IsSoundSlot}
use Rattle.ht_tree.specs.Tables.{TablesOf, at_moment, empty_tables, with_notice, with_row, with_slot}
use Rattle.ht_tree.proofs.Counting.{total_push}
use Rattle.ht_tree.proofs.Families.{alike_put, behind_is, families_push_sub, families_push_top, families_put, no_row, total_alike}
use Rattle.ht_tree.proofs.Putting.{length-put_in, row_at-put_in}
use Rattle.ht_tree.proofs.Slots.{slots_of_more, slots_with_ascend, slots_with_sound}

no_parent_at : (task : ℕ) (p : TaskId × ℕ) → parent_at task [] ≡ Some p → ⊥
no_parent_at zero p at = cc
no_parent_at (suc i) p at = cc

pub empty_sound : (models : List ModelOf) (people : DirectoryOf) → IsSound (empty_tables models people)
empty_sound models people = record {
  numbered = λ task row at. absurd (no_row task row at);
  rows_sound = λ task row at. absurd (no_row task row at);
  families = record {
    entries = λ task row at. absurd (no_row task row at);
    made_once = λ a b p x y. absurd (no_parent_at a p x);
    ended_below = λ task row above p at parent there final. absurd (no_row task row at);
    counted = omega arith;
  };
  notices_sound = tt;
  slots_ascend = tt;
  slots_sound = tt;
  last_within = omega arith;
  tasks_within = omega arith;
}

-- ---- notifications

-- they name what they named where each task has a row of the same model
pub notices_of_more : (models : List ModelOf) (persons : ℕ) (rows more : List Row) (notices : List Notice) → ((task : ℕ) (row : Row) → row_at task rows ≡ Some row → (r : Row) × (row_at task more ≡ Some r) × (r.model ≡ row.model)) → AllByRecursion (IsSoundNotice models persons rows) notices → AllByRecursion (IsSoundNotice models persons more) notices
notices_of_more models persons rows more [] each all = tt
notices_of_more models persons rows more (n ∷ notices) each all =
    let one = all.0 in
    let new = each n.task.0 one.row one.there in (
      record {
        row = new.0;
        there = new.1;
        escalation = ap (λ (k : ℕ). option_map_or (λ m. has_escalation m.deadlines n) (slice_get models k) false) new.2 ∙ one.escalation;
        recipients = one.recipients;
        recipients_ascend = one.recipients_ascend;
        moment_within = one.moment_within;
      },
      notices_of_more models persons rows more notices each all.1,
    )

pushed_there : (rows : List Row) (row : Row) (task : ℕ) (r : Row) → row_at task rows ≡ Some r → row_at task (rows ++ row ∷ []) ≡ Some r
pushed_there rows row zero r at = at
pushed_there [] row (suc i) r at = cc
pushed_there (x ∷ rows) row (suc zero) r at = at
pushed_there (x ∷ rows) row (suc (suc i)) r at = pushed_there rows row (suc i) r at

all_pushed : (P : Notice → Type 0) (notices : List Notice) (notice : Notice) → AllByRecursion P notices → P notice → AllByRecursion P (notices ++ notice ∷ [])
all_pushed P [] notice all one = (one, tt)
all_pushed P (n ∷ notices) notice all one = (all.0, all_pushed P notices notice all.1 one)

-- ---- a sound row behind the others

pushed_sound : (t : TablesOf) (row : Row) → IsSound t → row.task.0 ≡ length t.rows + 1 → IsSoundRow t row → AreFamilies t.models (t.rows ++ row ∷ []) → total_size t.models (t.rows ++ row ∷ []) ≤ MOST_TASKS → IsSound (record t { rows = t.rows ++ row ∷ [] })
pushed_sound t row sound next fine families room = record {
  numbered = λ task r at. elim (behind_is t.rows row r task at) [
    | inl h ↦ sound.numbered task r h
    | inr h ↦ let same = ap (λ (x : Row). x.task.0) h.1 in let e = h.0 in omega arith
  ];
  rows_sound = λ task r at. elim (behind_is t.rows row r task at) [
    | inl h ↦ sound.rows_sound task r h
    | inr h ↦ let P : Row → Type 0 = λ x. IsSoundRow t x in subst P h.1 fine
  ];
  families = families;
  notices_sound = notices_of_more t.models (length t.people.persons) t.rows (t.rows ++ row ∷ []) t.notices (λ task r at. (r, pushed_there t.rows row task r at, refl)) sound.notices_sound;
  slots_ascend = sound.slots_ascend;
  slots_sound = let long = length-append t.rows (row ∷ []) in slots_of_more t.people (length t.rows) (length (t.rows ++ row ∷ [])) t.slots (omega arith) sound.slots_sound;
  last_within = sound.last_within;
  tasks_within = room;
}

-- of a top task
pub push_sound : (t : TablesOf) (row : Row) → IsSound t → row.task.0 ≡ length t.rows + 1 → row.parent ≡ None → IsSoundRow t row → to_come_of t.models (t.rows ++ row ∷ []) row + 1 ≤ top_size t.models row → total_size t.models t.rows + top_size t.models row ≤ MOST_TASKS → IsSound (record t { rows = t.rows ++ row ∷ [] })
push_sound t row sound next top fine small room =
    let total = total_push t.models t.rows row in
    pushed_sound t row sound next fine (families_push_top t.models t.rows row sound.families top small) (omega arith)

-- of a sub task
pub push_sub_sound : (t : TablesOf) (row : Row) (p : TaskId × ℕ) → IsSound t → row.task.0 ≡ length t.rows + 1 → row.parent ≡ Some p → IsNewSub t.models t.rows row.model p → IsSoundRow t row → to_come_of t.models (t.rows ++ row ∷ []) row + 1 ≤ size_at t.models row.model → IsSound (record t { rows = t.rows ++ row ∷ [] })
push_sub_sound t row p sound next under new fine small =
    let total = total_push t.models t.rows row in
    let none : top_size t.models row ≡ 0 = ap (λ (o : Option (TaskId × ℕ)). size_under t.models row o) under in
    let within = sound.tasks_within in
    let number = sound.numbered p.0.0 new.above new.there in
    pushed_sound t row sound next fine (families_push_sub t.models t.rows row p sound.families under new number small) (omega arith)

-- a row that was found is sound
pub found_sound : (t : TablesOf) (task : ℕ) (found : Option (Bor Row)) → IsSound t → option_map (λ r. r.now) found ≡ row_at task t.rows → IfSome found (λ r. IsSoundRow t r.now)
found_sound t task None sound at = tt
found_sound t task (Some r) sound at = sound.rows_sound task r.now (sym at)

-- ---- a sound row in the place of another

pub within : (rows : List Row) (row : Row) (task : ℕ) → row_at task rows ≡ Some row → (1 ≤ task) × (task ≤ length rows)
within rows row zero at = cc
within rows row (suc i) at = (omega arith, let low = slice_get_within rows i row at in omega arith)

-- one that has ended where the other has
pub put_sound : (t : TablesOf) (row : Row) → IsSound t → IsSoundRow t row → (place : Replaces t.rows row) → is_final (place.before).state ≡ is_final row.state → IsSound (with_row t row)
put_sound t row sound fine place same = record {
  numbered = λ task r at. (in_place task r (row.task.0 == task) refl (sym (row_at-put_in t.rows row task next) ∙ at)).0;
  rows_sound = λ task r at. (in_place task r (row.task.0 == task) refl (sym (row_at-put_in t.rows row task next) ∙ at)).1;
  families = families_put t.models t.rows row place sound.families number next same;
  notices_sound = notices_of_more t.models (length t.people.persons) t.rows (put_in t.rows row) t.notices (λ task r at. stands task r (row.task.0 == task) refl at) sound.notices_sound;
  slots_ascend = sound.slots_ascend;
  slots_sound =
      let long = length-put_in t.rows row next in
      slots_of_more t.people (length t.rows) (length (put_in t.rows row)) t.slots (omega arith) sound.slots_sound;
  last_within = sound.last_within;
  tasks_within = let total = total_alike t.models t.rows (put_in t.rows row) (alike_put t.rows row place number) in let most = sound.tasks_within in omega arith;
}
  where
    next : IsNext t.rows row
    next = let w = within t.rows place.before row.task.0 place.there in (w.0, let high = w.1 in omega arith)

    number : (place.before).task.0 ≡ row.task.0
    number = sound.numbered row.task.0 place.before place.there

    stands : (task : ℕ) (r : Row) (b : Bool) → (row.task.0 == task) ≡ b → row_at task t.rows ≡ Some r → (s : Row) × (row_at task (put_in t.rows row) ≡ Some s) × (s.model ≡ r.model)
    stands task r true is at =
        let before : Some place.before ≡ Some r = sym place.there ∙ ap (λ k. row_at k t.rows) (eqb-true row.task.0 task is) ∙ at in
        let same : place.before ≡ r = cc in
        (row, row_at-put_in t.rows row task next ∙ ap (λ (b : Bool). if b then Some row else row_at task t.rows) is, place.model ∙ ap (λ (x : Row). x.model) same)
    stands task r false is at = (r, row_at-put_in t.rows row task next ∙ ap (λ (b : Bool). if b then Some row else row_at task t.rows) is ∙ at, refl)

    in_place : (task : ℕ) (r : Row) (b : Bool) → (row.task.0 == task) ≡ b → (if b then Some row else row_at task t.rows) ≡ Some r → (r.task.0 ≡ task) × IsSoundRow t r
    in_place task r true is at =
        let same : row ≡ r = cc in
        let P : Row → Type 0 = λ x. (x.task.0 ≡ task) × IsSoundRow t x in
        subst P same (eqb-true row.task.0 task is, fine)
    in_place task r false is at = (sound.numbered task r at, sound.rows_sound task r at)

-- ---- at another moment

pub sound_at : (t : TablesOf) (at : ℕ) → IsSound t → at ≤ last_moment → IsSound (at_moment t at)
sound_at t at sound early = record {
  numbered = sound.numbered;
  rows_sound = sound.rows_sound;
  families = sound.families;
  notices_sound = sound.notices_sound;
  slots_ascend = sound.slots_ascend;
  slots_sound = sound.slots_sound;
  last_within = early;
  tasks_within = sound.tasks_within;
}

-- ---- with a reply that is kept

pub slot_sound : (t : TablesOf) (slot : Slot) → IsSound t → IsSoundSlot t.people (length t.rows) slot → IsSound (with_slot t slot)
slot_sound t slot sound fine = record {
  numbered = sound.numbered;
  rows_sound = sound.rows_sound;
  families = sound.families;
  notices_sound = sound.notices_sound;
  slots_ascend = slots_with_ascend slot t.slots sound.slots_ascend;
  slots_sound = slots_with_sound t.people (length t.rows) slot t.slots fine sound.slots_sound;
  last_within = sound.last_within;
  tasks_within = sound.tasks_within;
}

-- ---- with a notification that is added

pub notice_sound : (t : TablesOf) (notice : Notice) → IsSound t → IsSoundNotice t.models (length t.people.persons) t.rows notice → IsSound (with_notice t notice)
notice_sound t notice sound fine = record {
  numbered = sound.numbered;
  rows_sound = sound.rows_sound;
  families = sound.families;
  notices_sound = all_pushed (IsSoundNotice t.models (length t.people.persons) t.rows) t.notices notice sound.notices_sound fine;
  slots_ascend = sound.slots_ascend;
  slots_sound = sound.slots_sound;
  last_within = sound.last_within;
  tasks_within = sound.tasks_within;
}
