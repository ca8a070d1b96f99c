-- That a new row fits.
use Rattle.std.proofs.Common.{◌==◌, if◌then◌else◌, ◌≡◌, ℕ, ◌+◌, ◌<◌, ◌≤◌, zero, suc, Bool, true, false, cond, List, [], ◌∷◌, length, filter, fold, Option, Some, None, IfSome, Bor, refl, sym, ◌∙◌, subst, arith}
use Rattle.std.specs.List.{range_with_len}
use Rattle.std.specs.Prelude.{pos, negsuc, slice_get}
use Rattle.std.specs.Option.{option_map_or, option_or}
use Rattle.ht_base.specs.declared.limits.TheConstants.{LOWEST_PRIORITY}
use Rattle.ht_base.specs.declared.moment.Moment.{Moment}
use Rattle.ht_base.specs.declared.state.State.TheVariants.{Created}
use Rattle.ht_base.specs.declared.task_id.TaskId.{TaskId}
use Rattle.ht_base.specs.declared.values.Values.{Values}
use Rattle.ht_expr.specs.Assignments.{Assignment}
use Rattle.ht_models.specs.Model.{ModelOf}
use Rattle.ht_tree.specs.declared.row.Row.{Row}
use Rattle.ht_value.specs.Values.{Outcome, a_moment, a_number, a_person, a_text, a_truth, nothing}
use Rattle.ht_finding.specs.Assigning.{Sight, is_found, potential_owners, resolved}
use Rattle.ht_tree.specs.declared.comments.Comment.{Comment}
use Rattle.std.specs.List.{All}
use Rattle.ht_tree.specs.Creating.{IsInput, bare_row, level_of, new_row, parent_row, role_or, seen, with_priority}
use Rattle.ht_tree.specs.Plans.{Follow, IsPlanOf, PlanOf, planned}
use Rattle.ht_tree.specs.Places.{emptied, last_of}
use Rattle.ht_tree.specs.Rows.{put_in, row_at}
use Rattle.ht_base.specs.Persons.{AllBelow, Ascends}
use Rattle.ht_base.specs.Moment.{last_moment}
use Rattle.ht_tree.specs.Soundness.{AreKnown, Fits, FitsIn, IsFiled, IsHeldBy, IsSound, IsSoundIn, IsSoundRow, IsWhose, needs_owner}
use Rattle.ht_tree.specs.Tables.{TablesOf, administrators_of, stakeholders_of, task_row}
use Rattle.ht_tree.proofs.Putting.{row_at-put_in}
use Rattle.ht_finding.proofs.PublicLaws.{none_excluded, selected_ascends}

-- whoever is selected is a person
selected_persons : (t : TablesOf) (test : ℕ → Bool) (from n : ℕ) → from + n ≤ length t.people.persons → AllBelow (length t.people.persons) (filter test (range_with_len from n))
selected_persons t test from zero h = tt
selected_persons t test from (suc n) h = at (test from) (selected_persons t test (from + 1) n (omega arith))
  where
    at : (b : Bool) → AllBelow (length t.people.persons) (filter test (range_with_len (from + 1) n)) → AllBelow (length t.people.persons) (cond b (from ∷ filter test (range_with_len (from + 1) n)) (filter test (range_with_len (from + 1) n)))
    at true rest = (omega arith, rest)
    at false rest = rest

pub all_selected : (t : TablesOf) (test : ℕ → Bool) → AllBelow (length t.people.persons) (filter test (range_with_len 0 (length t.people.persons)))
all_selected t test = selected_persons t test 0 (length t.people.persons) (omega arith)

-- ---- what is sound fits

pub sound_row_fits : (models : List ModelOf) (persons : ℕ) (row : Row) → IsSoundIn models persons row → FitsIn models persons row
sound_row_fits models persons row sound = record {
  filed = sound.filed;
  held = sound.held;
  who = (sound.who).known;
  owner = (sound.whose).known;
  commenters = (sound.how).known;
  waits = (sound.when).waits;
  until = (sound.when).until;
}

-- and so does a sound row that was found
pub sound_fits : (t : TablesOf) (found : Option (Bor Row)) → IfSome found (λ r. IsSoundRow t r.now) → IfSome found (λ r. Fits t r.now)
sound_fits t None sound = tt
sound_fits t (Some r) sound = sound_row_fits t.models (length t.people.persons) r.now sound

-- every row after some were put fits, where those before did
pub fits_after : (t : TablesOf) (rows puts : List Row) → ((task : ℕ) (row : Row) → row_at task rows ≡ Some row → Fits t row) → Follow t rows puts → (task : ℕ) (row : Row) → row_at task (fold put_in rows puts) ≡ Some row → Fits t row
fits_after t rows [] fit f task row at = fit task row at
fits_after t rows (p ∷ puts) fit f task row at = fits_after t (put_in rows p) puts one f.2 task row at
  where
    one : (task : ℕ) (row : Row) → row_at task (put_in rows p) ≡ Some row → Fits t row
    one task row at = here (p.task.0 == task) (sym (row_at-put_in rows p task f.0) ∙ at)
      where
        here : (b : Bool) → (if b then Some p else row_at task rows) ≡ Some row → Fits t row
        here true e = let same : p ≡ row = cc in let P : Row → Type 0 = λ r. Fits t r in subst P same f.1
        here false e = fit task row e

-- each row of planned tables fits
planned_fits : (t : TablesOf) (p : PlanOf) → IsSound t → IsPlanOf t p → (task : ℕ) (row : Row) → task_row (planned t p) task ≡ Some row → Fits t row
planned_fits t p sound fit = fits_after t t.rows (p.changes).rows (λ task r is. sound_row_fits t.models (length t.people.persons) r (sound.rows_sound task r is)) fit.changes_fit

pub parent_fits : (t : TablesOf) (p : PlanOf) (parent : Option (TaskId × ℕ)) → IsSound t → IsPlanOf t p → IfSome (parent_row (planned t p) parent) (Fits t)
parent_fits t p None sound fit = tt
parent_fits t p (Some above) sound fit = at (task_row (planned t p) above.0.0) refl
  where
    at : (o : Option Row) → task_row (planned t p) above.0.0 ≡ o → IfSome o (Fits t)
    at None e = tt
    at (Some row) e = planned_fits t p sound fit above.0.0 row e

-- ---- a new row

-- it holds what is given, and has set and passed nothing
held_new : (persons : ℕ) (o : Option ModelOf) (input : Values) → IsInput persons o input → IfSome o (λ m. IsHeldBy persons m input [] [])
held_new persons None input given = tt
held_new persons (Some m) input given = record { input = given; output = record { declared = refl; known = refl; texts_within = refl; moments_within = refl }; taken = tt; taken_ascend = tt }

level_low : (o : Outcome) → level_of o ≤ LOWEST_PRIORITY
level_low (a_text x) = omega arith
level_low (a_number (pos n)) = omega arith
level_low (a_number (negsuc n)) = omega arith
level_low (a_truth b) = omega arith
level_low (a_person p) = omega arith
level_low (a_moment m) = omega arith
level_low nothing = omega arith

no_comment : (P : Comment → Type 0) → All P []
no_comment P k c h = absurd (omega arith)

filed_below : (models rows place : ℕ) (parent : Option (TaskId × ℕ)) → place < models → IfSome parent (λ p. (1 ≤ p.0.0) × (p.0.0 ≤ rows)) → IsFiled models (record { 0 = rows + 1 }) parent place
filed_below models rows place parent known below = record { model = known; parent = at parent below }
  where
    at : (parent : Option (TaskId × ℕ)) → IfSome parent (λ p. (1 ≤ p.0.0) × (p.0.0 ≤ rows)) → IfSome parent (λ p. (1 ≤ p.0.0) × (p.0.0 < rows + 1))
    at None h = tt
    at (Some p) h = (h.0, let high = h.1 in omega arith)

role_persons : (t : TablesOf) (s : Sight) (a : Option Assignment) (inherited : List ℕ) → AllBelow (length t.people.persons) inherited → AllBelow (length t.people.persons) (role_or t.people s a inherited)
role_persons t s None inherited all = all
role_persons t s (Some a) inherited all = all_selected t (is_found t.people s a)

inherited_persons : (t : TablesOf) (role : Row → List ℕ) (above : Option Row) → IfSome above (λ r. AllBelow (length t.people.persons) (role r)) → AllBelow (length t.people.persons) (option_map_or role above [])
inherited_persons t role None all = tt
inherited_persons t role (Some r) all = all

new_known : (t : TablesOf) (m : ModelOf) (s : Sight) (parent : Option (TaskId × ℕ)) (initiator : ℕ) → initiator < length t.people.persons → IfSome (parent_row t parent) (Fits t) → AreKnown (length t.people.persons) initiator None (potential_owners t.people s m.potential_owners (resolved t.people s m.excluded_owners)) (resolved t.people s m.excluded_owners) (role_or t.people s m.administrators (option_map_or (administrators_of t) (parent_row t parent) [])) (role_or t.people s m.stakeholders (option_map_or (stakeholders_of t) (parent_row t parent) []))
new_known t m s parent initiator person above = record {
  initiator = person;
  last_owner = tt;
  potential_owners = all_selected t _;
  excluded_owners = all_selected t _;
  administrators = role_persons t s m.administrators _ (inherited_persons t (administrators_of t) (parent_row t parent) (admins (parent_row t parent) above));
  stakeholders = role_persons t s m.stakeholders _ (inherited_persons t (stakeholders_of t) (parent_row t parent) (holders (parent_row t parent) above));
}
  where
    admins : (o : Option Row) → IfSome o (Fits t) → IfSome o (λ r. AllBelow (length t.people.persons) r.administrators)
    admins None f = tt
    admins (Some r) f = (f.who).administrators

    holders : (o : Option Row) → IfSome o (Fits t) → IfSome o (λ r. AllBelow (length t.people.persons) r.stakeholders)
    holders None f = tt
    holders (Some r) f = (f.who).stakeholders

-- what a new task's assignments see
abbrev at_creation : TablesOf → ModelOf → ℕ → Option (TaskId × ℕ) → ℕ → Values → Option Moment → Moment → Sight
at_creation t m model parent initiator input waits at = seen m (with_priority m (bare_row (record { 0 = length t.rows + 1 }) model parent initiator input waits at))

pub new_row_fits : (t : TablesOf) (m : ModelOf) (model : ℕ) (parent : Option (TaskId × ℕ)) (initiator : ℕ) (input : Values) (waits : Option Moment) (at : Moment) → model < length t.models → initiator < length t.people.persons → IfSome parent (λ p. (1 ≤ p.0.0) × (p.0.0 ≤ length t.rows)) → IfSome (parent_row t parent) (Fits t) → IsInput (length t.people.persons) (slice_get t.models model) input → Fits t (new_row t m model parent initiator input waits at)
new_row_fits t m model parent initiator input waits at known person below above given = record {
  filed = filed_below (length t.models) (length t.rows) model parent known below;
  held = held_new (length t.people.persons) (slice_get t.models model) input given;
  who = new_known t m (at_creation t m model parent initiator input waits at) parent initiator person above;
  owner = tt;
  commenters = no_comment _;
  waits = λ _. refl;
  until = λ h. absurd cc;
}

inherited_ascend : (lists : Row → List ℕ) (t : TablesOf) (s : Sight) (a : Option Assignment) (o : Option Row) → IfSome o (λ r. Ascends (lists r)) → Ascends (role_or t.people s a (option_map_or lists o []))
inherited_ascend lists t s (Some a) o f = selected_ascends (is_found t.people s a) (length t.people.persons)
inherited_ascend lists t s None None f = tt
inherited_ascend lists t s None (Some r) f = f

-- a created task, which nobody owns
nobody_owns : (persons : ℕ) (needs : Bool) (others : List ℕ) → IsWhose persons needs others Created None
nobody_owns persons true others = record { owned = refl; ownerless = refl; known = tt; allowed = tt }
nobody_owns persons false others = record { owned = refl; ownerless = refl; known = tt; allowed = tt }

-- a parent is sound
pub new_row_sound : (t : TablesOf) (m : ModelOf) (model : ℕ) (parent : Option (TaskId × ℕ)) (initiator : ℕ) (input : Values) (waits : Option Moment) (at : Moment) → model < length t.models → initiator < length t.people.persons → IfSome parent (λ p. (1 ≤ p.0.0) × (p.0.0 ≤ length t.rows)) → IfSome (parent_row t parent) (IsSoundRow t) → at.0 ≤ last_moment → IfSome waits (λ m. m.0 ≤ last_moment) → IsInput (length t.people.persons) (slice_get t.models model) input → IsSoundRow t (new_row t m model parent initiator input waits at)
new_row_sound t m model parent initiator input waits at known person below above early soon given = record {
  filed = filed_below (length t.models) (length t.rows) model parent known below;
  held = held_new (length t.people.persons) (slice_get t.models model) input given;
  who = record {
    known = new_known t m (at_creation t m model parent initiator input waits at) parent initiator person (fits (parent_row t parent) above);
    apart = none_excluded t.people (at_creation t m model parent initiator input waits at) m.potential_owners (resolved t.people (at_creation t m model parent initiator input waits at) m.excluded_owners);
    potential_ascend = selected_ascends _ (length t.people.persons);
    excluded_ascend = selected_ascends _ (length t.people.persons);
    administrators_ascend = inherited_ascend (administrators_of t) t (at_creation t m model parent initiator input waits at) m.administrators (parent_row t parent) (admins (parent_row t parent) above);
    stakeholders_ascend = inherited_ascend (stakeholders_of t) t (at_creation t m model parent initiator input waits at) m.stakeholders (parent_row t parent) (holders (parent_row t parent) above);
  };
  whose = nobody_owns (length t.people.persons) (needs_owner (slice_get t.models model)) _;
  when = record { waits = λ _. refl; until = λ h. absurd cc; created_within = early; waits_within = soon; until_within = tt };
  how = record { priority_within = level_low _; few = omega arith; known = no_comment _; moments_within = no_comment _; texts_within = no_comment _ };
}
  where
    fits : (o : Option Row) → IfSome o (IsSoundRow t) → IfSome o (Fits t)
    fits None f = tt
    fits (Some r) f = sound_row_fits t.models (length t.people.persons) r f

    admins : (o : Option Row) → IfSome o (IsSoundRow t) → IfSome o (λ r. Ascends r.administrators)
    admins None f = tt
    admins (Some r) f = (f.who).administrators_ascend

    holders : (o : Option Row) → IfSome o (IsSoundRow t) → IfSome o (λ r. Ascends r.stakeholders)
    holders None f = tt
    holders (Some r) f = (f.who).stakeholders_ascend

-- a row that is put fits
pub put_fits : (t : TablesOf) (rows puts : List Row) (task : ℕ) (row : Row) → Follow t rows puts → last_of task puts ≡ Some row → Fits t row
put_fits t rows [] task row f at = cc
put_fits t rows (p ∷ puts) task row f at = here (last_of task puts) (p.task.0 == task) at (λ r e. put_fits t (put_in rows p) puts task r f.2 e)
  where
    here : (o : Option Row) (b : Bool) → option_or o (if b then Some p else None) ≡ Some row → ((r : Row) → o ≡ Some r → Fits t r) → Fits t row
    here (Some r) b e rest = let same : r ≡ row = cc in let P : Row → Type 0 = λ x. Fits t x in subst P same (rest r refl)
    here None true e rest = let same : p ≡ row = cc in let P : Row → Type 0 = λ x. Fits t x in subst P same f.1
    here None false e rest = cc

-- ---- an emptied row

emptied_held : (models : List ModelOf) (persons place : ℕ) → IfSome (slice_get models place) (λ m. IsHeldBy persons m [] [] [])
emptied_held models persons place = at (slice_get models place)
  where
    at : (o : Option ModelOf) → IfSome o (λ m. IsHeldBy persons m [] [] [])
    at None = tt
    at (Some m) = record {
      input = record { declared = refl; known = refl; texts_within = refl; moments_within = refl };
      output = record { declared = refl; known = refl; texts_within = refl; moments_within = refl };
      taken = tt;
      taken_ascend = tt;
    }

pub emptied_fits : (t : TablesOf) (row : Row) → Fits t row → Fits t (emptied row)
emptied_fits t row fits = record {
  filed = fits.filed;
  held = emptied_held t.models (length t.people.persons) row.model;
  who = record { initiator = (fits.who).initiator; last_owner = tt; potential_owners = tt; excluded_owners = tt; administrators = tt; stakeholders = tt };
  owner = tt;
  commenters = no_comment _;
  waits = λ h. absurd cc;
  until = λ h. absurd cc;
}
