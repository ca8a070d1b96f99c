-- Something always comes of a command: it is refused, or there are tables after it and a task that it is about.
use Rattle.ht_owner.specs.Faults.{first_of}
use Rattle.std.proofs.Common.{◌≡◌, ℕ, ◌+◌, ◌≤◌, Bool, if◌then◌else◌, List, [], ◌∷◌, length, is_some, None, Option, Some, refl, sym, ap, subst, ◌∙◌, eq-eqb, arith}
use Rattle.std.proofs.lemmas.Option.{slice_get_within}
use Rattle.ht_base.specs.declared.event.Command.{Command}
use Rattle.ht_base.specs.declared.event.Command.TheVariants as command
use Rattle.ht_base.specs.declared.moment.Moment.{Moment}
use Rattle.ht_base.specs.declared.operation.Op.TheVariants as op
use Rattle.ht_base.specs.declared.parts.Parts.{Parts}
use Rattle.ht_base.specs.declared.reply.Refusal.{Refusal}
use Rattle.ht_base.specs.declared.reply.Refusal.TheVariants as refusal
use Rattle.ht_base.specs.declared.reply.Unknown.TheVariants as unknown
use Rattle.ht_base.specs.declared.task_id.TaskId.{TaskId}
use Rattle.ht_base.specs.Events.{op_of}
use Rattle.ht_compose.proofs.PublicLaws.{AreInOrder, Fit, IsInOrder, StayInOrder, all_age_itself, always_frees, always_gathers, always_holds, end_reached, gathers_rows, numbered_still, put_in_order, sub_task_there}
use Rattle.ht_compose.specs.Agenda.{Ends}
use Rattle.ht_compose.specs.Aging.{AllAge}
use Rattle.ht_compose.specs.ByHand.{IsEntryOf, entry_of}
use Rattle.ht_compose.specs.Downward.{holding}
use Rattle.ht_compose.specs.Items as items
use Rattle.ht_compose.specs.Items.Item.{Activate, Begin, Close, Make}
use Rattle.ht_compose.specs.Work.{ClosesForGood}
use Rattle.ht_machine.proofs.Commanded.{behind_gate}
use Rattle.ht_machine.proofs.EffectsInOrder.{LeavesInOrder, effect_in_order}
use Rattle.ht_machine.proofs.MadeByHand.{to_make}
use Rattle.ht_machine.proofs.StillTaken.{Leaves, activates, effect_leaves, further, put_again, put_new, spreads}
use Rattle.ht_machine.specs.Commands.{ActivatesUnless, ActsOn, AfterEffect, BehindGate, Comes, Creates, DoesOn, GathersFirst, HasEffect, MakesByHand, MakesEntry, Consequence, accepted, new_task, place_named, refused, refused_input, too_many, waits_until, why_not}
use Rattle.ht_machine.specs.Following.{Spreads}
use Rattle.ht_machine.specs.Gate.{Gate, gate, gate_at, judged, shuts}
use Rattle.ht_models.proofs.PublicLaws.{model_found}
use Rattle.ht_models.specs.Model.{ModelOf}
use Rattle.ht_models.specs.TreeSizes.{AreSized}
use Rattle.ht_owner.proofs.PublicLaws.{Closes, effect_closes}
use Rattle.ht_owner.specs.Acting.{IsAllowed}
use Rattle.ht_owner.specs.Acting as acting
use Rattle.ht_owner.specs.declared.follow.Follow.{Follow}
use Rattle.ht_owner.specs.declared.follow.Follow.TheVariants as follow
use Rattle.ht_owner.specs.declared.follow.Follow.TheVariants.{Began, Freed, Held, Nothing}
use Rattle.ht_owner.specs.Effects.{Effect, does, effect, refuses}
use Rattle.ht_rules.specs.declared.judging.Verdict.{Verdict}
use Rattle.ht_rules.specs.declared.judging.Verdict.TheVariants.{NeedsRole, WrongState, Yes}
use Rattle.ht_rules.specs.Judging.{verdict}
use Rattle.ht_tree.proofs.PublicLaws.{row_at-put_in, some_at, within}
use Rattle.ht_tree.specs.declared.row.Row.{Row}
use Rattle.ht_tree.specs.Plans.{IsNext}
use Rattle.ht_tree.specs.Roles.{roles_in}
use Rattle.ht_tree.specs.Rows.{row_at}
use Rattle.ht_tree.specs.Tables.{TablesOf, model_at, model_named, model_of, task_row, with_row, with_rows}

-- tables with a model, whose rows stand at their numbers and are in order
pub record Stand (u : TablesOf) : Type 0 where
  pub fit : Fit u
  pub all : AreInOrder u
  pub some : 1 ≤ length u.models

-- where it is accepted the tables after it stand so too, and the task that it is about is there
abbrev pub IsThere : Consequence → Type 0
IsThere (accepted v about) = Stand v × (row : Row) × (task_row v about ≡ Some row)
IsThere (refused why) = Unit {0}

-- nothing is there and isn't
not_both : {A : Type 0} {o : Option A} {x : A} → o ≡ None → o ≡ Some x → ⊥
not_both none some = cc

-- ---- what follows

-- what stays in order stands so still
from_here : (u v : TablesOf) → Stand u → Fit v → StayInOrder u v → Stand v
from_here u v stand fit order =
    let S : List ModelOf → Type 0 = λ ms. 1 ≤ length ms in
    record { fit = fit; all = order.rows stand.all; some = subst S (sym order.models) stand.some }

-- one item is done to the end
ends_alone : (at : Moment) (u : TablesOf) (i : items.Item) → Stand u → ClosesForGood i → (v : TablesOf) × Ends (items.Does at) u (i ∷ []) v × Stand v
ends_alone at u i stand closes =
    let r = end_reached at u (i ∷ []) (record { numbered = (stand.fit).numbered; sized = (stand.fit).sized; closings = (closes, tt) }) in
    (r.new, r.ends, from_here u r.new stand r.fit r.order)

-- a new task is activated, unless it waits
activates_unless : (at : Moment) (waits : Option Moment) (task : ℕ) (u : TablesOf) → Stand u → (v : TablesOf) × ActivatesUnless at waits task u v × Stand v
activates_unless at None task u stand = ends_alone at u (Activate task) stand tt
activates_unless at (Some m) task u stand = (u, refl, stand)

-- what follows on a task
always_spreads : (at : Moment) (f : Follow) (task : ℕ) (u : TablesOf) → Stand u → acting.FollowIsFinal f → (v : TablesOf) × Spreads at f task u v × Stand v
always_spreads at Nothing task u stand closes = (u, refl, stand)
always_spreads at Began task u stand closes = ends_alone at u (Begin task) stand tt
always_spreads at follow.Activate task u stand closes = ends_alone at u (Activate task) stand tt
always_spreads at Held task u stand closes =
    let v = with_rows u (holding task u.rows) in
    let held = always_holds task u stand.fit in
    (v, refl, from_here u v stand held.fit held.order)
always_spreads at Freed task u stand closes = let r = always_frees at task u stand.fit in (r.after, r.frees, from_here u r.after stand r.fit r.order)
always_spreads at (follow.Close end) task u stand closes = ends_alone at u (Close task end) stand closes

-- ---- create

-- what comes of it
abbrev Creating : TablesOf → ℕ → ℕ → Option (List ℕ) → Parts → Option Moment → Type 0
Creating u caller moment name input waits = (o : Consequence) × Creates u caller moment name input waits o × IsThere o

-- a task of this model
created_of : (u : TablesOf) (caller moment : ℕ) (name : Option (List ℕ)) (input : Parts) (waits : Option Moment) (place : ℕ) (m : ModelOf) → Stand u → why_not u name input ≡ None → place_named u name ≡ Some place → model_at u place ≡ Some m → Creating u caller moment name input waits
created_of u caller moment name input waits place m stand fine named there =
    let at : Moment = record { 0 = moment } in
    let row = new_task u caller moment place input waits m in
    let task = length u.rows + 1 in
    let mid = with_row u row in
    let first = put_new u (stand.fit).numbered row refl in
    let next : IsNext u.rows row = (omega arith, omega arith) in
    let found : task_row mid task ≡ Some row = row_at-put_in u.rows row task next ∙ ap (λ (b : Bool). if b then Some row else row_at task u.rows) (eq-eqb row.task.0 task refl) in
    let order : IsInOrder u.models row = record { model = slice_get_within u.models place m there; waits = λ h. refl; until = λ h. absurd cc } in
    let act = activates_unless at waits task mid (record { fit = record { numbered = first.numbered; sized = (stand.fit).sized }; all = put_in_order u row next order stand.all; some = stand.some }) in
    let after = (activates mid first.numbered at waits task act.0 act.1).there task row found in
    (accepted act.0 task, (fine, place, m, named, there, refl, act.1), (act.2, after.0, after.1))

-- or why there is none
creates : (u : TablesOf) (caller moment : ℕ) (name : Option (List ℕ)) (input : Parts) (waits : Option Moment) → Stand u → Creating u caller moment name input waits
creates u caller moment name input waits stand = told (why_not u name input) refl
  where
    of_name : (name : Option (List ℕ)) → why_not u name input ≡ None → Creating u caller moment name input waits
    of_name None fine =
        let m = some_at u.models 0 stand.some in
        created_of u caller moment None input waits 0 m.0 stand fine refl m.1
    of_name (Some n) fine = at (model_named u n) refl
      where
        at : (o : Option ℕ) → model_named u n ≡ o → Creating u caller moment (Some n) input waits
        at None is =
            let why = refusal.Unknown (unknown.Model n) in
            let more = refused_input u (Some n) input ∷ too_many u (Some n) ∷ [] in
            let known : why_not u (Some n) input ≡ Some why = ap (λ (o : Option ℕ). first_of ((if is_some o then None else Some why) ∷ more)) is in
            absurd (not_both fine known)
        at (Some place) is =
            let m = model_found u.models n place is in
            created_of u caller moment (Some n) input waits place m.0 stand fine is m.1

    told : (o : Option Refusal) → why_not u name input ≡ o → Creating u caller moment name input waits
    told None fine = of_name name fine
    told (Some why) is = (refused why, is, tt)

-- ---- a sub task that is made by hand

-- of an entry that may be made, or why it isn't
makes_by_hand : (u : TablesOf) (caller moment task : ℕ) (name : List ℕ) → Stand u → IsAllowed u op.InstantiateSubTask caller task → (o : Consequence) × MakesByHand u moment task name o × IsThere o
makes_by_hand u caller moment task name stand allowed =
    let row = allowed.row in
    let m = some_at u.models row.model (stand.all task row allowed.there).model in
    let is : IsEntryOf u task name (entry_of u.rows m.0 task name) = (row, m.0, allowed.there, m.1, refl) in
    let made = go (entry_of u.rows m.0 task name) is in
    (made.0, (entry_of u.rows m.0 task name, is, made.1), made.2)
  where
    go : (found : Option ℕ) → IsEntryOf u task name found → (o : Consequence) × MakesEntry u moment task name found o × IsThere o
    go None is = (refused (refusal.SubRefused name), refl, tt)
    go (Some entry) is =
        let at : Moment = record { 0 = moment } in
        let ends = ends_alone at u (Make task entry) stand tt in
        let there = sub_task_there at u ends.0 task entry stand.fit (to_make u caller task name (Some entry) entry allowed is refl) ends.1 in
        (accepted ends.0 (length u.rows + 1), (ends.1, refl), (ends.2, there.0, there.1))

-- ---- the other commands

-- the tables once results are gathered, where they are
record IsGatheredFirst (at : Moment) (c : Command) (task : ℕ) (u : TablesOf) : Type 0 where
  after : TablesOf
  gathers : GathersFirst c task u after
  age : AllAge at u after
  stand : Stand after

-- they are where its owner completes it
gathers_first : (at : Moment) (c : Command) (task : ℕ) (u : TablesOf) (row : Row) (m : ModelOf) → Stand u → task_row u task ≡ Some row → model_of u row ≡ Some m → IsGatheredFirst at c task u
gathers_first at (command.Complete output) task u row m stand there of =
    let g = always_gathers at task u row m stand.fit there of in
    let models = ap (λ (w : TablesOf). w.models) (gathers_rows u task g.after g.gathers) in
    let A : List ModelOf → Type 0 = λ ms. AreSized ms in
    let S : List ModelOf → Type 0 = λ ms. 1 ≤ length ms in
    let fit : Fit g.after = record { numbered = numbered_still at u g.after (stand.fit).numbered g.age; sized = subst A (sym models) (stand.fit).sized } in
    record { after = g.after; gathers = g.gathers; age = g.age; stand = record { fit = fit; all = g.all stand.all; some = subst S (sym models) stand.some } }
gathers_first at c task u row m stand there of = record { after = u; gathers = refl; age = all_age_itself at u; stand = stand }

-- of the effect that a command has
after_effect : (u : TablesOf) (moment task : ℕ) (row : Row) (e : Effect) → Stand u → task_row u task ≡ Some row → Leaves row e → LeavesInOrder u.models e → Closes e → (o : Consequence) × AfterEffect u moment task e o × IsThere o
after_effect u moment task row (does new next) stand there same order closes =
    let at : Moment = record { 0 = moment } in
    let first = put_again u (stand.fit).numbered task row new there same in
    let number : new.task.0 ≡ task = ap (λ (id : TaskId). id.0) same.0 ∙ (stand.fit).numbered task row there in
    let place = within u.rows row task there in
    let low = place.0 in
    let high = place.1 in
    let all = put_in_order u new (omega (arith, number, low), omega (arith, number, high)) order stand.all in
    let rest = always_spreads at next task (with_row u new) (record { fit = record { numbered = first.numbered; sized = (stand.fit).sized }; all = all; some = stand.some }) closes in
    let still = further u (with_row u new) rest.0 first (spreads (with_row u new) first.numbered at next task rest.0 rest.1) in
    let after = still.there task row there in
    (accepted rest.0 task, (rest.1, refl), (rest.2, after.0, after.1))
after_effect u moment task row (refuses why) stand there same order closes = (refused why, refl, tt)

-- on a task that is there
has_effect : (u : TablesOf) (caller moment task : ℕ) (c : Command) (row : Row) (m : ModelOf) → Stand u → task_row u task ≡ Some row → model_of u row ≡ Some m → (o : Consequence) × HasEffect u caller moment task c o × IsThere o
has_effect u caller moment task c row m stand there of =
    let at : Moment = record { 0 = moment } in
    let e = after_effect u moment task row (effect u m caller at c row) stand there (effect_leaves u m caller at c row) (effect_in_order u u.models m caller at c row (stand.all task row there)) (effect_closes u m caller at c row) in
    (e.0, (row, m, there, of, e.1), e.2)

-- with its results gathered first
effect_first : (u : TablesOf) (caller moment task : ℕ) (c : Command) → Stand u → IsAllowed u (op_of c) caller task → (o : Consequence) × ((v : TablesOf) × GathersFirst c task u v × HasEffect v caller moment task c o) × IsThere o
effect_first u caller moment task c stand allowed =
    let at : Moment = record { 0 = moment } in
    let row = allowed.row in
    let m = some_at u.models row.model (stand.all task row allowed.there).model in
    let g = gathers_first at c task u row m.0 stand allowed.there m.1 in
    let v = g.after in
    let its = (g.age).there task row allowed.there in
    let n = some_at v.models (its.0).model (((g.stand).all task its.0 its.1).model) in
    let e = has_effect v caller moment task c its.0 n.0 g.stand its.1 n.1 in
    (e.0, (v, g.gathers, e.1), e.2)

-- on a task on which the caller may act
does_on : (u : TablesOf) (caller moment task : ℕ) (c : Command) → Stand u → IsAllowed u (op_of c) caller task → (o : Consequence) × DoesOn u caller moment task c o × IsThere o
does_on u caller moment task (command.InstantiateSubTask sub) stand allowed = makes_by_hand u caller moment task sub stand allowed
does_on u caller moment task c stand allowed = effect_first u caller moment task c stand allowed

-- and behind the gate, which is shut or open
acts_on : (u : TablesOf) (caller moment task : ℕ) (c : Command) → Stand u → (o : Consequence) × ActsOn u caller moment task c o × IsThere o
acts_on u caller moment task c stand = at (task_row u task) refl
  where
    shut : (why : Refusal) → gate u (op_of c) caller task ≡ shuts why → (o : Consequence) × ActsOn u caller moment task c o × IsThere o
    shut why is =
        let G : Gate → Type 0 = λ g. BehindGate u caller moment task c g (refused why) in
        (refused why, subst G (sym is) refl, tt)

    by : (row : Row) (v : Verdict) → task_row u task ≡ Some row → verdict (op_of c) row.state (roles_in u row caller) ≡ v → (o : Consequence) × ActsOn u caller moment task c o × IsThere o
    by row Yes there may =
        let allowed : IsAllowed u (op_of c) caller task = record { row = row; there = there; may = may } in
        let d = does_on u caller moment task c stand allowed in
        (d.0, behind_gate u caller moment task c d.0 allowed d.1, d.2)
    by row (NeedsRole needs) there may = shut (refusal.Role needs) (ap (λ (o : Option Row). gate_at u (op_of c) caller task o) there ∙ ap (λ (v : Verdict). judged v row) may)
    by row (WrongState states) there may = shut (refusal.State states row.state) (ap (λ (o : Option Row). gate_at u (op_of c) caller task o) there ∙ ap (λ (v : Verdict). judged v row) may)

    at : (o : Option Row) → task_row u task ≡ o → (o : Consequence) × ActsOn u caller moment task c o × IsThere o
    at None none = shut (refusal.Task (record { 0 = task })) (ap (λ (o : Option Row). gate_at u (op_of c) caller task o) none)
    at (Some row) there = by row (verdict (op_of c) row.state (roles_in u row caller)) there refl

-- ---- all commands

-- a create, or one on a task
pub always_comes : (u : TablesOf) (caller moment task : ℕ) (c : Command) → Stand u → (o : Consequence) × Comes u caller moment task c o × IsThere o
always_comes u caller moment task (command.Create model input activate_at) stand = creates u caller moment model input (waits_until moment activate_at) stand
always_comes u caller moment task c stand = acts_on u caller moment task c stand
