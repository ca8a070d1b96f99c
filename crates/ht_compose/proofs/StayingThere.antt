-- Tasks are still there at the end of what is to be done, and a sub task that was made is.
use Rattle.std.proofs.Common.{◌≡◌, ℕ, ◌+◌, Bool, List, [], ◌∷◌, ◌++◌, length, Some, if◌then◌else◌, refl, subst, ap, ◌∙◌, eq-eqb, arith}
use Rattle.std.specs.List.{AllByRecursion}
use Rattle.ht_base.specs.declared.moment.Moment.{Moment}
use Rattle.ht_base.specs.declared.task_id.TaskId.{TaskId}
use Rattle.ht_compose.specs.Agenda.{Ends}
use Rattle.ht_compose.specs.Agenda.Ends.{end, on}
use Rattle.ht_compose.specs.Composing.{IsSubTask, IsToMake}
use Rattle.ht_compose.specs.Families.{StillThere}
use Rattle.ht_compose.specs.Items.{Does, Item, Step, does, sub_task}
use Rattle.ht_compose.specs.Items.Item.{Activate, Make}
use Rattle.ht_compose.specs.Work.{ClosesForGood}
use Rattle.ht_compose.proofs.Determined.{determined}
use Rattle.ht_compose.proofs.Keeping.{Fit}
use Rattle.ht_compose.proofs.NewSubs.{IsWanted, does_make}
use Rattle.ht_compose.proofs.Standing.{there_before, there_then}
use Rattle.ht_compose.proofs.Stepping.{AreLight, Falls, steps, weight}
use Rattle.ht_models.proofs.PublicLaws.{entry_found, model_found}
use Rattle.ht_models.specs.MappedInputs.{AreMapped}
use Rattle.ht_models.specs.TreeSizes.{AreSized}
use Rattle.ht_tree.proofs.PublicLaws.{row_at-put_in}
use Rattle.ht_tree.specs.declared.row.Row.{Row}
use Rattle.ht_tree.specs.Plans.{IsNext}
use Rattle.ht_tree.specs.Rows.{row_at}
use Rattle.ht_tree.specs.Soundness.{IsSound}
use Rattle.ht_tree.specs.Tables.{TablesOf, task_row, with_row}

closing : (u : TablesOf) (n : ℕ) (is : List Item) → AreLight u n is → AllByRecursion ClosesForGood is
closing u n [] light = tt
closing u n (i ∷ is) light = (light.0, closing u n is light.2)

closing_behind : (is js : List Item) → AllByRecursion ClosesForGood is → AllByRecursion ClosesForGood js → AllByRecursion ClosesForGood (is ++ js)
closing_behind [] js a b = b
closing_behind (i ∷ is) js a b = (a.0, closing_behind is js a.1 b)

-- what an item leaves of the tables, whichever way it is told
fallen : (at : Moment) (u : TablesOf) (i : Item) (d : Step) → Fit u → ClosesForGood i → Does at u i d → Falls u (weight u i) d
fallen at u i d fit closes doing =
    let s = steps at u i fit closes in
    let F : Step → Type 0 = λ x. Falls u (weight u i) x in
    subst F (determined at u i s.done d s.does doing) s.falls

pub still_there : (at : Moment) (u v : TablesOf) (is : List Item) → Fit u → AllByRecursion ClosesForGood is → Ends (Does at) u is v → StillThere u v
still_there at u v [] fit closes end = there_before u
still_there at u v (i ∷ is) fit closes (on {d = d} doing rest) =
    let falls = fallen at u i d fit closes.0 doing in
    there_then u d.tables v falls.there
    (still_there at d.tables v (d.puts ++ is) falls.fit (closing_behind d.puts is (closing d.tables (weight u i) d.puts falls.light) closes.1) rest)

-- ---- the sub task of an entry

-- its row is behind the others
pub put_behind : (u : TablesOf) (row : Row) → row.task.0 ≡ length u.rows + 1 → task_row (with_row u row) (length u.rows + 1) ≡ Some row
put_behind u row number =
    let next : IsNext u.rows row = (omega arith, omega arith) in
    row_at-put_in u.rows row (length u.rows + 1) next
    ∙ ap (λ (b : Bool). if b then Some row else row_at (length u.rows + 1) u.rows) (eq-eqb row.task.0 (length u.rows + 1) number)

from_there : (u v : TablesOf) (row : Row) (t e id : ℕ) → task_row u id ≡ Some row → row.parent ≡ Some (record { 0 = t }, e) → StillThere u v → IsSubTask v t e id
from_there u v row t e id there parent still =
    let x = still id row there in
    (x.0, x.1, x.2 ∙ parent)

pub sub_task_made : (at : Moment) (u v : TablesOf) (t e : ℕ) → AreSized u.models → AreMapped u.models → IsSound u → IsToMake u t e → Ends (Does at) u (Make t e ∷ []) v → IsSubTask v t e (length u.rows + 1)
sub_task_made at u v t e sized mapped sound is (on {d = d} doing rest) =
    let row = is.row in
    let fit : Fit u = record { numbered = sound.numbered; sized = sized } in
    let found = entry_found u.models sized row.model is.model e is.sub is.of_model is.listed in
    let its = model_found u.models (is.sub).model found.0 found.1 in
    let want : IsWanted u t e row is.model is.sub found.0 = record {
      sound = sound;
      mapped = mapped;
      there = is.there;
      of_model = is.of_model;
      live = is.going_on;
      not_made = is.not_made;
      listed = is.listed;
      named = found.1;
    } in
    let new = sub_task u at row e is.sub found.0 its.0 in
    let done : Step = does (with_row u new) (Activate (length u.rows + 1) ∷ []) in
    let makes = does_make want at its.0 its.1 in
    let same : d ≡ done = determined at u (Make t e) d done doing makes in
    let falls = fallen at u (Make t e) done fit tt makes in
    let E : Step → Type 0 = λ x. Ends (Does at) x.tables (x.puts ++ []) v in
    let still = still_there at (with_row u new) v (Activate (length u.rows + 1) ∷ []) falls.fit (tt, tt) (subst E same rest) in
    let parent : new.parent ≡ Some (record { 0 = t }, e) = ap (λ (k : ℕ). let id : TaskId = record { 0 = k } in Some (id, e)) (sound.numbered t row is.there) in
    from_there (with_row u new) v new t e (length u.rows + 1) (put_behind u new refl) parent still
