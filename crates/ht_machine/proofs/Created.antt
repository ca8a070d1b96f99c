-- What comes of a create.
use Rattle.ht_owner.specs.Faults.{first_of}
use Rattle.std.proofs.Common.{◌≡◌, ℕ, ◌+◌, List, [], ◌∷◌, length, Option, None, Some, Ok, Err, refl, ap, sym, subst, ◌∙◌, Bool, true, if◌then◌else◌, eq-eqb, arith, false}
use Rattle.std.specs.Option.{option_and_then}
use Rattle.std.specs.Prelude.{is_some}
use Rattle.ht_base.specs.declared.moment.Moment.{Moment}
use Rattle.ht_base.specs.declared.parts.Parts.{Parts}
use Rattle.ht_base.specs.declared.reply.Limit.TheVariants.{Tasks}
use Rattle.ht_base.specs.declared.reply.Refusal.{Refusal}
use Rattle.ht_base.specs.declared.reply.Refusal.TheVariants as refusal
use Rattle.ht_base.specs.declared.reply.Unknown.TheVariants as unknown
use Rattle.ht_base.specs.declared.task_id.TaskId.{TaskId}
use Rattle.ht_base.specs.declared.values.Values.{Values}
use Rattle.ht_compose.specs.Items.Item.{Activate}
use Rattle.ht_compose.specs.Reaching.{IsTask}
use Rattle.ht_compose.specs.Running.{Runs}
use Rattle.ht_machine.specs.Commands.{ActivatesUnless, Creates, limit_at, new_task, place_named, refused, refused_input, too_many, unknown_model, why_not, why_not_created}
use Rattle.ht_machine.specs.Planning.{Does, Finds, IsActivated, Tries, refusal_of}
use Rattle.ht_models.specs.Model.{ModelOf}
use Rattle.ht_owner.specs.declared.refusal.ActRefusal.TheVariants as act
use Rattle.ht_tree.specs.declared.creating.CreateRefusal.{CreateRefusal}
use Rattle.ht_tree.specs.declared.creating.CreateRefusal.TheVariants as create
use Rattle.ht_tree.specs.Creating.{is_full, new_row}
use Rattle.ht_tree.specs.Plans.{Goes, IsNext, PlanOf, planned}
use Rattle.ht_tree.specs.Rows.{row_at}
use Rattle.ht_tree.specs.Tables.{TablesOf, directory, model_at, with_row}
use Rattle.ht_tree.proofs.PublicLaws.{goes_then, row_at-put_in}

-- ---- the model that is found

place_is : (u : TablesOf) (named : Option (List ℕ)) (place : ℕ) → Finds u named (Ok place) → place_named u named ≡ Some place
place_is u None place finds = ap Some (sym finds)
place_is u (Some name) place finds = finds

known : (u : TablesOf) (named : Option (List ℕ)) (place : ℕ) → Finds u named (Ok place) → unknown_model u named ≡ None
known u None place finds = refl
known u (Some name) place finds = ap (λ (o : Option ℕ). if is_some o then None else Some (refusal.Unknown (unknown.Model name))) finds

-- what speaks against it then
why_of : (u : TablesOf) (named : Option (List ℕ)) (place : ℕ) (input : Parts) (m : ModelOf) → Finds u named (Ok place) → model_at u place ≡ Some m → why_not u named input ≡ first_of (None ∷ why_not_created (directory u) m input ∷ limit_at u place ∷ [])
why_of u named place input m finds at =
    let its = place_is u named place finds in
    ap (λ (o : Option Refusal). first_of (o ∷ refused_input u named input ∷ too_many u named ∷ [])) (known u named place finds)
    ∙ ap (λ (o : Option ℕ). first_of (None ∷ option_and_then (λ x. why_not_created (directory u) x input) (option_and_then (model_at u) o) ∷ option_and_then (limit_at u) o ∷ [])) its
    ∙ ap (λ (o : Option ModelOf). first_of (None ∷ option_and_then (λ x. why_not_created (directory u) x input) o ∷ limit_at u place ∷ [])) at

not_full : (u : TablesOf) (place : ℕ) → is_full u place ≡ false → limit_at u place ≡ None
not_full u place room = ap (λ (b : Bool). if b then Some (refusal.Limit Tasks) else None) room

it_is_full : (u : TablesOf) (place : ℕ) → is_full u place ≡ true → limit_at u place ≡ Some (refusal.Limit Tasks)
it_is_full u place full = ap (λ (b : Bool). if b then Some (refusal.Limit Tasks) else None) full

-- no model has the name
pub not_found : (u : TablesOf) (named : Option (List ℕ)) (input : Parts) (other : Refusal) → Finds u named (Err (act.Refused other)) → why_not u named input ≡ Some other
not_found u None input other finds = absurd finds
not_found u (Some name) input other finds =
    ap (λ (o : Option ℕ). first_of ((if is_some o then None else Some (refusal.Unknown (unknown.Model name))) ∷ refused_input u (Some name) input ∷ too_many u (Some name) ∷ [])) finds.0
    ∙ ap Some (sym finds.1)

-- ---- it is created, and activated

-- the new task is there
pub new_row_there : (u : TablesOf) (m : ModelOf) (place : ℕ) (parent : Option (TaskId × ℕ)) (caller : ℕ) (values : Values) (waits : Option Moment) (at : Moment) (task : ℕ) → task ≡ length u.rows + 1 → IsTask (with_row u (new_row u m place parent caller values waits at)) task
new_row_there u m place parent caller values waits at task number =
    let row = new_row u m place parent caller values waits at in
    let next : IsNext u.rows row = (omega arith, omega arith) in
    let same : row.task.0 ≡ task = sym number in
    record {
      row = row;
      there = row_at-put_in u.rows row task next ∙ ap (λ (b : Bool). if b then Some row else row_at task u.rows) (eq-eqb row.task.0 task same);
      number = same;
    }

pub created : (t : TablesOf) (old mid new : PlanOf) (caller : ℕ) (at : Moment) (place : ℕ) (input : Parts) (waits : Option Moment) (named : Option (List ℕ)) (m : ModelOf) (task : TaskId) → Finds t named (Ok place) → model_at t place ≡ Some m → why_not_created (directory t) m input ≡ None → is_full (planned t old) place ≡ false → task.0 ≡ length (planned t old).rows + 1 → Goes t old mid (planned t old) (with_row (planned t old) (new_task (planned t old) caller at.0 place input waits m)) → IsActivated t mid new at waits task.0 → Does t old new (Creates (planned t old) caller at.0 named input waits) task
created t old mid new caller at place input waits named m task finds is fine room number first plans =
    let u = planned t old in
    let u1 = with_row u (new_task u caller at.0 place input waits m) in
    let w = plans.after in
    let A : TablesOf → Type 0 = λ x. ActivatesUnless at waits task.0 x w in
    record {
      after = w;
      comes = (
        why_of u named place input m finds is ∙ ap (λ (o : Option Refusal). first_of (None ∷ o ∷ limit_at u place ∷ [])) fine ∙ ap (λ (o : Option Refusal). first_of (None ∷ None ∷ o ∷ [])) (not_full u place room),
        place,
        m,
        place_is u named place finds,
        is,
        number,
        subst A first.to plans.activates,
      );
      goes = goes_then t old mid new u u1 w first plans.goes;
      sound = λ sound. plans.sound;
      row = plans.row;
      there = plans.there;
    }

-- what was made of the new task
pub activated : (t : TablesOf) (old new : PlanOf) (at : Moment) (task : ℕ) → IsTask (planned t old) task → Runs t old new at (Activate task ∷ []) → IsActivated t old new at None task
activated t old new at task there runs =
    let still = runs.there task there.row there.there in
    record { after = runs.after; activates = runs.ends; goes = runs.goes; sound = runs.sound; row = still.0; there = still.1 }

-- ---- or there are too many tasks

not_created : (u : TablesOf) (place : ℕ) (input : Parts) (named : Option (List ℕ)) (m : ModelOf) → Finds u named (Ok place) → model_at u place ≡ Some m → why_not_created (directory u) m input ≡ None → is_full u place ≡ true → why_not u named input ≡ Some (refusal.Limit Tasks)
not_created u place input named m finds at fine full =
    why_of u named place input m finds at
    ∙ ap (λ (o : Option Refusal). first_of (None ∷ o ∷ limit_at u place ∷ [])) fine
    ∙ ap (λ (o : Option Refusal). first_of (None ∷ None ∷ o ∷ [])) (it_is_full u place full)

pub refused_create : (t : TablesOf) (old new : PlanOf) (caller moment place : ℕ) (input : Parts) (waits : Option Moment) (named : Option (List ℕ)) (m : ModelOf) (why : CreateRefusal) → Finds t named (Ok place) → model_at t place ≡ Some m → why_not_created (directory t) m input ≡ None → (why ≡ create.TaskLimit → is_full (planned t old) place ≡ true) → new ≡ old → Tries t old new (Creates (planned t old) caller moment named input waits) (Err (refusal_of why))
refused_create t old new caller moment place input waits named m create.Memory finds at fine full same = tt
refused_create t old new caller moment place input waits named m create.TaskLimit finds at fine full same = (not_created (planned t old) place input named m finds at fine (full refl), ap (λ (p : PlanOf). p.marked) same)

-- ---- or its model can't be used yet

pub spoken_against : (t : TablesOf) (old : PlanOf) (caller moment place : ℕ) (input : Parts) (waits : Option Moment) (named : Option (List ℕ)) (m : ModelOf) (why : Refusal) → Finds t named (Ok place) → model_at t place ≡ Some m → why_not_created (directory t) m input ≡ Some why → Creates (planned t old) caller moment named input waits (refused why)
spoken_against t old caller moment place input waits named m why finds at against =
    let u = planned t old in
    why_of u named place input m finds at ∙ ap (λ (o : Option Refusal). first_of (None ∷ o ∷ limit_at u place ∷ [])) against
