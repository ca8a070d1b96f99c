-- A sub task that is made: its row may come, and what its making does.
use Rattle.ht_tree.specs.Rows.{model_in}
use Rattle.std.proofs.Common.{◌≡◌, ℕ, ◌+◌, ◌<◌, ◌^◌, Bool, true, false, ◌||◌, List, [], ◌∷◌, length, map, Option, Some, None, IfSome, unwrap_or, if◌then◌else◌, refl, ap, sym, subst, ◌∙◌, arith}
use Rattle.std.specs.Prelude.{slice_get}
use Rattle.ht_base.specs.declared.moment.Moment.{Moment}
use Rattle.ht_base.specs.declared.task_id.TaskId.{TaskId}
use Rattle.ht_base.specs.Places.{place_in}
use Rattle.ht_compose.specs.declared.item.Item.{Item as Task}
use Rattle.ht_compose.proofs.Acted.{model_there, on_this_task}
use Rattle.ht_compose.proofs.MappedInputs.{mapped_held}
use Rattle.ht_compose.specs.Items.{Does, Step, does, makes_at, makes_entry, makes_of, makes_one, mapped, on_model, on_task, still, sub_task}
use Rattle.ht_compose.specs.Items.Item.{Activate, Make}
use Rattle.ht_compose.specs.Running.{Acts, item_of}
use Rattle.ht_models.specs.MappedInputs.{AreMapped}
use Rattle.ht_models.specs.Model.{ModelOf, names}
use Rattle.ht_entries.specs.SubEntries.{SubEntry}
use Rattle.ht_tree.specs.declared.row.Row.{Row}
use Rattle.ht_tree.specs.Creating.{IsInput, new_row}
use Rattle.ht_base.specs.State.{is_final}
use Rattle.ht_tree.specs.Families.{IsNewSub, is_made}
use Rattle.ht_tree.specs.Plans.{Goes, PlanOf, planned}
use Rattle.ht_tree.specs.Soundness.{IsHeldBy, IsSound}
use Rattle.ht_tree.specs.Tables.{TablesOf, model_at, model_of, task_row, with_row}

-- a task that hasn't ended, and an entry of its model that isn't made, with the place of its model
pub record IsWanted (u : TablesOf) (t e : ℕ) (row : Row) (m : ModelOf) (entry : SubEntry) (place : ℕ) : Type 0 where
  pub sound : IsSound u
  pub mapped : AreMapped u.models
  pub there : task_row u t ≡ Some row
  pub of_model : model_of u row ≡ Some m
  pub live : is_final row.state ≡ false
  pub not_made : is_made t e u.rows ≡ false
  pub listed : slice_get m.subs e ≡ Some entry
  pub named : place_in entry.model (names u.models) ≡ Some place

-- of what was found
pub wanted : (u : TablesOf) (t e : ℕ) (row : Row) (models : List ModelOf) (m : ModelOf) (entry : SubEntry) (place : ℕ) → IsSound u → models ≡ u.models → AreMapped models → Some row ≡ task_row u t → model_in models row ≡ Some m → is_final row.state ≡ false → is_made t e u.rows ≡ false → slice_get m.subs e ≡ Some entry → Some place ≡ place_in entry.model (names models) → IsWanted u t e row m entry place
wanted u t e row models m entry place sound are mapped there of_model live not_made listed named = record {
  sound = sound;
  mapped = let A : List ModelOf → Type 0 = λ ms. AreMapped ms in subst A are mapped;
  there = sym there;
  of_model = model_there u row models m are of_model;
  live = live;
  not_made = not_made;
  listed = listed;
  named = ap (λ (ms : List ModelOf). place_in entry.model (names ms)) (sym are) ∙ sym named;
}

-- nothing is made of a task that has ended, nor of an entry that is made
pub no_more_made : (u : TablesOf) (at : Moment) (t e : ℕ) (row : Row) → task_row u t ≡ Some row → (is_final row.state || is_made row.task.0 e u.rows) ≡ true → Does at u (Make t e) (still u)
no_more_made u at t e row there done = of_model (model_of u row) ∙ ap (λ (o : Option Row). on_task u (makes_one u at e) o) (sym there)
  where
    of_model : (o : Option ModelOf) → still u ≡ on_model u row (makes_one u at e) o
    of_model None = refl
    of_model (Some m) = ap (λ (b : Bool). if b then still u else makes_entry u at row e (slice_get m.subs e)) (sym done)

-- nor where there is no such entry, or no model of it
pub none_made : (u : TablesOf) (at : Moment) (t e : ℕ) (row : Row) (m : ModelOf) → task_row u t ≡ Some row → model_of u row ≡ Some m → makes_entry u at row e (slice_get m.subs e) ≡ still u → Does at u (Make t e) (still u)
none_made u at t e row m there of_model none =
    go (is_final row.state || is_made row.task.0 e u.rows)
    ∙ ap (λ (d : Step). if is_final row.state || is_made row.task.0 e u.rows then still u else d) (sym none)
    ∙ on_this_task u (makes_one u at e) t row m there of_model
  where
    go : (b : Bool) → still u ≡ (if b then still u else still u)
    go true = refl
    go false = refl

some_below : (o : Option ℕ) (other n : ℕ) → IfSome o (λ p. p < n) → other < n → unwrap_or o other < n
some_below None other n first second = second
some_below (Some p) other n first second = first

-- there is room for a number more
pub numbers_left : (u : TablesOf) → IsSound u → length u.rows + 1 < 2 ^ 32
numbers_left u sound =
    let counted = (sound.families).counted in
    let few = sound.tasks_within in
    omega (arith, counted, few)

module _ {u : TablesOf} {t e : ℕ} {row : Row} {m : ModelOf} {entry : SubEntry} {place : ℕ} (is : IsWanted u t e row m entry place) where
  pub may_come : IsNewSub u.models u.rows place (record { 0 = t }, e)
  may_come = record {
    above = row;
    there = is.there;
    going_on = is.live;
    of_model = m;
    known = is.of_model;
    entry = entry;
    listed = is.listed;
    named = is.named;
    not_made = is.not_made;
  }

  pub initiator_within : unwrap_or row.owner row.initiator < length u.people.persons
  initiator_within =
      let sound = (is.sound).rows_sound t row is.there in
      some_below row.owner row.initiator (length u.people.persons) (sound.whose).known ((sound.who).known).initiator

  pub input_fits : IsInput (length u.people.persons) (model_at u place) (mapped entry row.input)
  input_fits = go (model_at u place) refl
    where
      go : (o : Option ModelOf) → model_at u place ≡ o → IsInput (length u.people.persons) o (mapped entry row.input)
      go None at = tt
      go (Some n) at =
          let P : Option ModelOf → Type 0 = λ o. IfSome o (λ m. IsHeldBy (length u.people.persons) m row.input row.output row.taken) in
          let held = subst P is.of_model ((is.sound).rows_sound t row is.there).held in
          mapped_held n m (length u.people.persons) row.input held.input entry ((is.mapped row.model m is.of_model e entry is.listed).pairs place n is.named at)

  number : row.task.0 ≡ t
  number = (is.sound).numbered t row is.there

  made_so : (at : Moment) (n : ModelOf) → model_at u place ≡ Some n → makes_one u at e row m ≡ does (with_row u (sub_task u at row e entry place n)) (Activate (length u.rows + 1) ∷ [])
  made_so at n there =
      ap (λ (b : Bool). if b || is_made row.task.0 e u.rows then still u else makes_entry u at row e (slice_get m.subs e)) is.live
      ∙ ap (λ (k : ℕ). if is_made k e u.rows then still u else makes_entry u at row e (slice_get m.subs e)) number
      ∙ ap (λ (b : Bool). if b then still u else makes_entry u at row e (slice_get m.subs e)) is.not_made
      ∙ ap (λ (o : Option SubEntry). makes_entry u at row e o) is.listed
      ∙ ap (λ (o : Option ℕ). makes_at u at row e entry o) is.named
      ∙ ap (λ (o : Option ModelOf). makes_of u at row e entry place o) there

  pub does_make : (at : Moment) (n : ModelOf) → model_at u place ≡ Some n → Does at u (Make t e) (does (with_row u (sub_task u at row e entry place n)) (Activate (length u.rows + 1) ∷ []))
  does_make at n there = sym (made_so at n there) ∙ on_this_task u (makes_one u at e) t row m is.there is.of_model

-- the plan goes on by the row of the sub task
pub acts_new : (ts : TablesOf) (old new : PlanOf) (task : TaskId) (e : ℕ) (row : Row) (m : ModelOf) (entry : SubEntry) (place : ℕ) → IsWanted (planned ts old) task.0 e row m entry place → (at : Moment) (n : ModelOf) (puts : List Task) → model_at (planned ts old) place ≡ Some n → Goes ts old new (planned ts old) (with_row (planned ts old) (new_row (planned ts old) n place (Some (task, e)) (unwrap_or row.owner row.initiator) (mapped entry row.input) None at)) → IsSound (planned ts new) → map item_of puts ≡ Activate (length (planned ts old).rows + 1) ∷ [] → Acts ts old new at (Make task.0 e) puts
acts_new ts old new task e row m entry place is at n puts there goes sound are =
    let u = planned ts old in
    let same : task ≡ row.task = ap (λ (k : ℕ). let id : TaskId = record { 0 = k } in id) (sym (number is)) in
    let N : TaskId → TablesOf = λ id. with_row u (new_row u n place (Some (id, e)) (unwrap_or row.owner row.initiator) (mapped entry row.input) None at) in
    let G : TaskId → Type 0 = λ id. Goes ts old new u (N id) in
    let S : TablesOf → Type 0 = λ v. IsSound v in
    let went = subst G same goes in
    record {
      done = does (N row.task) (Activate (length u.rows + 1) ∷ []);
      does = does_make is at n there;
      goes = went;
      sound = subst S went.to sound;
      puts_are = are;
    }
