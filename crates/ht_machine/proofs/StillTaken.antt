-- What was taken of a task's deadlines stays taken, whatever comes.
use Rattle.ht_models.specs.Contradictions.{is_automatic}
use Rattle.std.proofs.Common.{◌≡◌, ◌≤◌, ℕ, ◌+◌, ◌==◌, zero, suc, Bool, true, false, ◌&&◌, ◌||◌, if◌then◌else◌, List, [], ◌∷◌, length, map, Option, None, Some, option_map, refl, sym, ap, subst, ◌∙◌, eq-eqb, arith}
use Rattle.std.proofs.lemmas.Bool.{and_parts, eqb-true, leb-true}
use Rattle.std.specs.Prelude.{nat_le}
use Rattle.ht_base.specs.declared.event.Command.{Command}
use Rattle.ht_base.specs.declared.event.Command.TheVariants as command
use Rattle.ht_base.specs.declared.event.Event.{Event}
use Rattle.ht_base.specs.declared.event.Event.TheVariants.{Ask, Read, Turn}
use Rattle.ht_base.specs.declared.moment.Moment.{Moment}
use Rattle.ht_base.specs.declared.operation.Op.{Op}
use Rattle.ht_base.specs.declared.operation.Op.TheVariants.{Suspend}
use Rattle.ht_base.specs.declared.parts.Parts.{Parts}
use Rattle.ht_base.specs.declared.record.Record.{Record}
use Rattle.ht_base.specs.declared.record.Record.TheVariants.{Asked}
use Rattle.ht_base.specs.declared.reply.Answer.{Answer}
use Rattle.ht_base.specs.declared.reply.Refusal.{Refusal}
use Rattle.ht_base.specs.declared.reply.Reply.{Reply}
use Rattle.ht_base.specs.declared.retry.Retry.{Retry}
use Rattle.ht_base.specs.declared.role_list.RoleList.{RoleList}
use Rattle.ht_base.specs.declared.role_list.RoleList.TheVariants as list
use Rattle.ht_base.specs.declared.state.State.{State}
use Rattle.ht_base.specs.declared.task_id.TaskId.{TaskId}
use Rattle.ht_base.specs.Events.{op_of}
use Rattle.ht_base.specs.Persons.{has}
use Rattle.ht_base.specs.State.{contains_state}
use Rattle.ht_compose.proofs.PublicLaws.{all_age, all_age_freed, numbered_still}
use Rattle.ht_compose.specs.Aging.{AllAge}
use Rattle.ht_compose.specs.Agenda.{Ends}
use Rattle.ht_compose.specs.Downward.{held, moved_by}
use Rattle.ht_compose.specs.Families.{is_above}
use Rattle.ht_compose.specs.Finishes.{chosen}
use Rattle.ht_compose.specs.Gathering.{GathersBy}
use Rattle.ht_compose.specs.Items as items
use Rattle.ht_compose.specs.Items.Item.{Activate, Begin, Close, Make}
use Rattle.ht_due.specs.declared.due.Due.{Due}
use Rattle.ht_escalate.proofs.PublicLaws.{due_of_first, taken_has_it, taken_is_kept}
use Rattle.ht_escalate.specs.Escalating.{taken_row}
use Rattle.ht_machine.specs.declared.sending.Sending.{Sending}
use Rattle.ht_machine.specs.declared.sending.Sending.TheVariants as sending
use Rattle.ht_machine.specs.declared.sending.Sending.TheVariants.{New, Answered}
use Rattle.ht_machine.specs.Commands.{ActivatesUnless, ActsOn, AfterEffect, BehindGate, Comes, Creates, DoesOn, GathersFirst, HasEffect, MakesEntry, Consequence, accepted, new_task, refused, waits_until}
use Rattle.ht_machine.specs.Deciding.{Asks, AsksAs, Behind, Decides, Doing, Rests, Settles, effective}
use Rattle.ht_machine.specs.Following.{Spreads}
use Rattle.ht_machine.specs.Gate.{Gate, gate, opens, shuts}
use Rattle.ht_machine.specs.Sending.{with_reply}
use Rattle.ht_machine.specs.TakenOnce.{AreNumbered, WasTaken, is_among, is_of_deadline}
use Rattle.ht_machine.specs.Turning.{Takes, TakesKind, Takings}
use Rattle.ht_machine.specs.Turning.Takings.{end, on}
use Rattle.ht_machine.proofs.Rows.{one}
use Rattle.ht_machine.proofs.Taken.{takes_ages}
use Rattle.ht_models.specs.Model.{FinishOf, ModelOf}
use Rattle.ht_owner.specs.declared.follow.Follow.{Follow}
use Rattle.ht_owner.specs.declared.follow.Follow.TheVariants as follow
use Rattle.ht_owner.specs.declared.follow.Follow.TheVariants.{Began, Freed, Held, Nothing}
use Rattle.ht_owner.specs.Effects.{Effect, does, effect, following, leaves, moved_now, named_owner, prepared, prepared_leaves, refuses, unless, with_role}
use Rattle.ht_owner.specs.Faults.{fault, no_output}
use Rattle.ht_owner.specs.Moving.{ending, moved}
use Rattle.ht_people.specs.Directory.{DirectoryOf}
use Rattle.ht_rules.specs.States.{opened}
use Rattle.ht_tree.proofs.PublicLaws.{IsOfRow, means_due, row_at-map, row_at-put_in, row_of_due, within}
use Rattle.ht_tree.specs.declared.row.Row.{Row}
use Rattle.ht_tree.specs.declared.slot.Kept.{Kept}
use Rattle.ht_tree.specs.Plans.{IsNext}
use Rattle.ht_tree.specs.RowDues.{first_due}
use Rattle.ht_tree.specs.Rows.{row_at}
use Rattle.ht_tree.specs.Tables.{TablesOf, directory, task_row, with_row, with_rows}

-- each task is there still, and what was taken of it is so
pub record StillTaken (u v : TablesOf) : Type 0 where
  pub there : (task : ℕ) (row : Row) → task_row u task ≡ Some row → (after : Row) × (task_row v task ≡ Some after) × ((place : ℕ) → has place row.taken ≡ true → has place after.taken ≡ true)
  pub numbered : AreNumbered v.rows

still : (u v : TablesOf) (task place : ℕ) → StillTaken u v → WasTaken u task place → WasTaken v task place
still u v task place kept (row, is, taken) = let x = kept.there task row is in (x.0, x.1, x.2 place taken)

pub further : (u v w : TablesOf) → StillTaken u v → StillTaken v w → StillTaken u w
further u v w a b = record {
  there = λ task row is.
      let x = a.there task row is in
      let y = b.there task x.0 x.1 in
      (y.0, y.1, λ place taken. y.2 place (x.2 place taken));
  numbered = b.numbered;
}

-- ---- one row

abbrev pub same_task : Row → Row → Type 0
same_task old new = (new.task ≡ old.task) × (new.taken ≡ old.taken)

module _ (u : TablesOf) (numbered : AreNumbered u.rows) where
  unchanged : (v : TablesOf) → v ≡ u → StillTaken u v
  unchanged v is = subst (StillTaken u) (sym is) (record { there = λ task row at. (row, at, λ place taken. taken); numbered = numbered })

  ages : (at : Moment) (v : TablesOf) → AllAge at u v → StillTaken u v
  ages at v age = record {
    there = λ task row is. let x = age.there task row is in (x.0, x.1, (x.2).taken);
    numbered = numbered_still at u v numbered age;
  }

  put : (row : Row) → IsNext u.rows row → ((old : Row) → task_row u row.task.0 ≡ Some old → row.taken ≡ old.taken) → StillTaken u (with_row u row)
  put row next same = record {
    there = λ id r is. there id r is (row.task.0 == id) refl;
    numbered = λ id r is. number id r is (row.task.0 == id) refl;
  }
    where
      found : (id : ℕ) (b : Bool) → (row.task.0 == id) ≡ b → task_row (with_row u row) id ≡ (if b then Some row else row_at id u.rows)
      found id b test = row_at-put_in u.rows row id next ∙ ap (λ (c : Bool). if c then Some row else row_at id u.rows) test

      there : (id : ℕ) (r : Row) → task_row u id ≡ Some r → (b : Bool) → (row.task.0 == id) ≡ b → (after : Row) × (task_row (with_row u row) id ≡ Some after) × ((place : ℕ) → has place r.taken ≡ true → has place after.taken ≡ true)
      there id r is true test =
          let here = ap (λ (n : ℕ). row_at n u.rows) (eqb-true row.task.0 id test) ∙ is in
          (row, found id true test, λ place taken. ap (λ (l : List ℕ). has place l) (same r here) ∙ taken)
      there id r is false test = (r, found id false test ∙ is, λ place taken. taken)

      number : (id : ℕ) (r : Row) → task_row (with_row u row) id ≡ Some r → (b : Bool) → (row.task.0 == id) ≡ b → r.task.0 ≡ id
      number id r is true test =
          let its = one (task_row (with_row u row) id) row r (found id true test) is in
          ap (λ (x : Row). x.task.0) (sym its) ∙ eqb-true row.task.0 id test
      number id r is false test = numbered id r (sym (found id false test) ∙ is)

  pub put_again : (task : ℕ) (old new : Row) → task_row u task ≡ Some old → same_task old new → StillTaken u (with_row u new)
  put_again task old new there same =
      let number : new.task.0 ≡ task = ap (λ (id : TaskId). id.0) same.0 ∙ numbered task old there in
      let place = within u.rows old task there in
      let low = place.0 in
      let high = place.1 in
      put new (omega (arith, number, low), omega (arith, number, high)) (λ row is. same.1 ∙ ap (λ (r : Row). r.taken) (one (task_row u task) old row there (ap (λ (n : ℕ). row_at n u.rows) (sym number) ∙ is)))

  pub put_new : (row : Row) → row.task.0 ≡ length u.rows + 1 → StillTaken u (with_row u row)
  put_new row number = put row (omega (arith, number), omega (arith, number)) (λ old is. let place = within u.rows old row.task.0 is in let high = place.1 in absurd (omega (arith, number, high)))

  each : (f : Row → Row) → ((row : Row) → same_task row (f row)) → StillTaken u (with_rows u (map f u.rows))
  each f same = record {
    there = λ task row is. (f row, row_at-map f u.rows task ∙ ap (option_map f) is, λ place taken. ap (λ (l : List ℕ). has place l) (same row).1 ∙ taken);
    numbered = λ task row is. number task row (row_at task u.rows) refl (sym (row_at-map f u.rows task) ∙ is);
  }
    where
      number : (task : ℕ) (row : Row) (o : Option Row) → row_at task u.rows ≡ o → option_map f (row_at task u.rows) ≡ Some row → row.task.0 ≡ task
      number task row None at is = let none = sym (ap (option_map f) at) ∙ is in absurd cc
      number task row (Some old) at is =
          let some : Some (f old) ≡ Some row = sym (ap (option_map f) at) ∙ is in
          let same_row : f old ≡ row = cc in
          ap (λ (r : Row). r.task.0) (sym same_row) ∙ ap (λ (id : TaskId). id.0) (same old).0 ∙ numbered task old at

  -- ---- what follows

  ends : (at : Moment) (v : TablesOf) (is : List items.Item) → Ends (items.Does at) u is v → StillTaken u v
  ends at v is done = ages at v (all_age at u v is numbered done)

  pub activates : (at : Moment) (waits : Option Moment) (task : ℕ) (v : TablesOf) → ActivatesUnless at waits task u v → StillTaken u v
  activates at None task v done = ends at v (Activate task ∷ []) done
  activates at (Some m) task v is = unchanged v is

  pub spreads : (at : Moment) (f : Follow) (task : ℕ) (v : TablesOf) → Spreads at f task u v → StillTaken u v
  spreads at Nothing task v is = unchanged v is
  spreads at Began task v done = ends at v (Begin task ∷ []) done
  spreads at follow.Activate task v done = ends at v (Activate task ∷ []) done
  spreads at Held task v is = subst (StillTaken u) (sym is) (each (λ row. if is_above u.rows task row then held row else row) (λ row. below (is_above u.rows task row) row))
    where
      suspended : (b : Bool) (row : Row) → same_task row (if b then record row { state = moved_by Suspend row.state } else row)
      suspended true row = (refl, refl)
      suspended false row = (refl, refl)

      below : (b : Bool) (row : Row) → same_task row (if b then held row else row)
      below true row = suspended (contains_state opened row.state) row
      below false row = (refl, refl)
  spreads at Freed task v frees = ages at v (all_age_freed at task u v numbered frees)
  spreads at (follow.Close state) task v done = ends at v (Close task state ∷ []) done

  gathers_by : (task : ℕ) (row : Row) (m : ModelOf) (o : Option FinishOf) (v : TablesOf) → task_row u task ≡ Some row → GathersBy u row m o v → StillTaken u v
  gathers_by task row m None v there is = unchanged v is
  gathers_by task row m (Some f) v there (output, has, is) = subst (StillTaken u) (sym is) (put_again task row (record row { output = output }) there (refl, refl))

  gathers : (c : Command) (task : ℕ) (v : TablesOf) → GathersFirst c task u v → StillTaken u v
  gathers (command.Complete output) task v (row, m, there, of, by) = gathers_by task row m (if is_automatic m.completion then None else chosen u.rows m row) v there by
  gathers c task v is = unchanged v is

-- ---- what an operation makes of a row

with_role_same : (d : DirectoryOf) (row : Row) (names : List (List ℕ)) (l : RoleList) → same_task row (with_role d row names l)
with_role_same d row names list.PotentialOwners = (refl, refl)
with_role_same d row names list.ExcludedOwners = (refl, refl)
with_role_same d row names list.Administrators = (refl, refl)
with_role_same d row names list.Stakeholders = (refl, refl)

prepared_same : (d : DirectoryOf) (m : ModelOf) (caller : ℕ) (at : Moment) (c : Command) (row : Row) → same_task row (prepared d m caller at c row)
prepared_same d m caller at (command.SetRole role names) row = with_role_same d row names role
prepared_same d m caller at c row = (refl, refl)

-- where the operation is done
abbrev pub Leaves : Row → Effect → Type 0
Leaves row (does new f) = same_task row new
Leaves row (refuses why) = Unit {0}

unless_leaves : (row : Row) (o : Option Refusal) (e : Effect) → Leaves row e → Leaves row (unless o e)
unless_leaves row None e is = is
unless_leaves row (Some why) e is = tt

pub effect_leaves : (u : TablesOf) (m : ModelOf) (caller : ℕ) (at : Moment) (c : Command) (row : Row) → Leaves row (effect u m caller at c row)
effect_leaves u m caller at c row = unless_leaves row (fault u m at row c) (prepared_leaves (directory u) m caller c new) (unless_leaves row (no_output m new c) (leaves (directory u) caller c new (ending new.state (op_of c))) (left (ending new.state (op_of c))))
  where
    new : Row
    new = prepared (directory u) m caller at c row

    same : same_task row new
    same = prepared_same (directory u) m caller at c row

    now : (f : Follow) → same_task row (moved_now f new (moved (op_of c) caller (named_owner (directory u) caller c) new))
    now follow.Activate = same
    now f = same

    left : (o : Option State) → Leaves row (leaves (directory u) caller c new o)
    left (Some state) = same
    left None = now (following c)

-- ---- what comes of a command

abbrev Accepts : TablesOf → Consequence → Type 0
Accepts u (accepted v task) = StillTaken u v
Accepts u (refused why) = Unit {0}

refuses_it : (u : TablesOf) (o : Consequence) (why : Refusal) → o ≡ refused why → Accepts u o
refuses_it u o why is = subst (Accepts u) (sym is) tt

module _ (u : TablesOf) (caller moment : ℕ) (numbered : AreNumbered u.rows) where
  creates : (model : Option (List ℕ)) (input : Parts) (waits : Option Moment) (o : Consequence) → Creates u caller moment model input waits o → Accepts u o
  creates model input waits (accepted v task) (fine, place, m, at, of, number, act) =
      let row = new_task u caller moment place input waits m in
      let first = put_new u numbered row refl in
      further u (with_row u row) v first (activates (with_row u row) first.numbered (record { 0 = moment }) waits task v act)
  creates model input waits (refused why) is = tt

  makes : (task : ℕ) (name : List ℕ) (entry : Option ℕ) (o : Consequence) → MakesEntry u moment task name entry o → Accepts u o
  makes task name None o is = refuses_it u o _ is
  makes task name (Some entry) (accepted v about) (done, is) = ends u numbered (record { 0 = moment }) v (Make task entry ∷ []) done
  makes task name (Some entry) (refused why) is = tt

  after_effect : (task : ℕ) (row : Row) (e : Effect) (o : Consequence) → task_row u task ≡ Some row → Leaves row e → AfterEffect u moment task e o → Accepts u o
  after_effect task row (does new f) (accepted v about) there same (is, number) =
      let first = put_again u numbered task row new there same in
      further u (with_row u new) v first (spreads (with_row u new) first.numbered (record { 0 = moment }) f task v is)
  after_effect task row (does new f) (refused why) there same is = tt
  after_effect task row (refuses why) o there same is = refuses_it u o why is

  has_effect : (task : ℕ) (c : Command) (o : Consequence) → HasEffect u caller moment task c o → Accepts u o
  has_effect task c o (row, m, there, of, is) =
      let at : Moment = record { 0 = moment } in
      after_effect task row (effect u m caller at c row) o there (effect_leaves u m caller at c row) is

accepts_further : (u v : TablesOf) (o : Consequence) → StillTaken u v → Accepts v o → Accepts u o
accepts_further u v (accepted w task) first rest = further u v w first rest
accepts_further u v (refused why) first rest = tt

does_on : (u : TablesOf) (caller moment task : ℕ) (c : Command) (o : Consequence) → AreNumbered u.rows → DoesOn u caller moment task c o → Accepts u o
does_on u caller moment task (command.InstantiateSubTask name) o numbered (entry, is, made) = makes u caller moment numbered task name entry o made
does_on u caller moment task c o numbered is =
    let first = gathers u numbered c task is.0 is.1 in
    accepts_further u is.0 o first (has_effect is.0 caller moment first.numbered task c o is.2)

acts_on : (u : TablesOf) (caller moment task : ℕ) (c : Command) (o : Consequence) → AreNumbered u.rows → ActsOn u caller moment task c o → Accepts u o
acts_on u caller moment task c o numbered = behind (gate u (op_of c) caller task)
  where
    behind : (g : Gate) → BehindGate u caller moment task c g o → Accepts u o
    behind (opens row) is = does_on u caller moment task c o numbered is
    behind (shuts why) is = refuses_it u o why is

comes : (u : TablesOf) (caller moment task : ℕ) (c : Command) (o : Consequence) → AreNumbered u.rows → Comes u caller moment task c o → Accepts u o
comes u caller moment task (command.Create model input activate_at) o numbered is = creates u caller moment numbered model input (waits_until moment activate_at) o is
comes u caller moment task c o numbered is = acts_on u caller moment task c o numbered is

-- ---- turns

takings_still : (by : ℕ) (u v : TablesOf) (dues : List Due) → AreNumbered u.rows → Takings by u dues v → StillTaken u v
takings_still by u v [] numbered end = unchanged u numbered u refl
takings_still by u v (d ∷ ds) numbered (on {v = w} first takes rest) =
    let one_on = ages u numbered d.at w (takes_ages u w d numbered takes) in
    further u w v one_on (takings_still by w v ds one_on.numbered rest)

-- the parts of the test
of_deadline : (task place : ℕ) (d : Due) → is_of_deadline task place d ≡ true → (2 ≤ d.kind) × (d.task.0 ≡ task) × (d.place ≡ place)
of_deadline task place d is =
    let first = and_parts (nat_le 2 d.kind) ((d.task.0 == task) && (d.place == place)) is in
    let rest = and_parts (d.task.0 == task) (d.place == place) first.1 in
    (leb-true 2 d.kind first.0, eqb-true d.task.0 task rest.0, eqb-true d.place place rest.1)

-- what is due isn't taken
not_taken : (u : TablesOf) (by : ℕ) (d : Due) → AreNumbered u.rows → first_due u by ≡ Some d → 2 ≤ d.kind → WasTaken u d.task.0 d.place → ⊥
not_taken u by d numbered first kind (row, there, taken) =
    let its = row_of_due u d numbered (due_of_first u by d first).0 in
    let R : Row → Type 0 = λ r. IsOfRow u.models r d in
    go (subst R (one (task_row u d.task.0) its.row row its.there there) (means_due u.models its.row d its.due))
  where
    go : IsOfRow u.models row d → ⊥
    go (IsOfRow.waits k p m) = absurd (omega (arith, kind, k))
    go (IsOfRow.until k p m) = absurd (omega (arith, kind, k))
    go (IsOfRow.deadline is) = let free = is.not_taken in cc

-- and is, once it was
taken_now : (u v : TablesOf) (d : Due) → AreNumbered u.rows → 2 ≤ d.kind → Takes u d v → WasTaken v d.task.0 d.place
taken_now u v d numbered kind takes = go d.kind kind takes
  where
    go : (k : ℕ) → 2 ≤ k → TakesKind k d.at d.task.0 d.place u v → WasTaken v d.task.0 d.place
    go zero low takes = absurd (omega (arith, low))
    go (suc zero) low takes = absurd (omega (arith, low))
    go (suc (suc n)) low (row, m, deadline, there, of, listed, is) =
        let new = taken_row u row m deadline d.place in
        let kept = taken_is_kept u row m deadline d.place in
        let number : new.task.0 ≡ d.task.0 = ap (λ (id : TaskId). id.0) kept.task ∙ numbered d.task.0 row there in
        let place = within u.rows row d.task.0 there in
        let low = place.0 in
        let high = place.1 in
        let next : IsNext u.rows new = (omega (arith, number, low), omega (arith, number, high)) in
        let found = row_at-put_in u.rows new d.task.0 next ∙ ap (λ (b : Bool). if b then Some new else row_at d.task.0 u.rows) (eq-eqb new.task.0 d.task.0 number) in
        (new, ap (λ (w : TablesOf). task_row w d.task.0) is ∙ found, taken_has_it d.place row.taken)

pub never_again : (by : ℕ) (u v : TablesOf) (task place : ℕ) (dues : List Due) → AreNumbered u.rows → Takings by u dues v → WasTaken u task place → is_among task place dues ≡ false
never_again by u v task place [] numbered end taken = refl
never_again by u v task place (d ∷ ds) numbered (on {v = w} first takes rest) taken =
    let one_on = ages u numbered d.at w (takes_ages u w d numbered takes) in
    go (is_of_deadline task place d) refl (never_again by w v task place ds one_on.numbered rest (still u w task place one_on taken))
  where
    go : (b : Bool) → is_of_deadline task place d ≡ b → is_among task place ds ≡ false → (is_of_deadline task place d || is_among task place ds) ≡ false
    go false e none = ap (λ (b : Bool). b || is_among task place ds) e ∙ none
    go true e none =
        let parts = of_deadline task place d e in
        let W : ℕ → Type 0 = λ n. WasTaken u n place in
        absurd (not_taken u by d numbered first parts.0 (subst (λ (p : ℕ). WasTaken u d.task.0 p) (sym parts.2) (subst W (sym parts.1) taken)))

pub is_taken : (by : ℕ) (u v : TablesOf) (task place : ℕ) (dues : List Due) → AreNumbered u.rows → Takings by u dues v → is_among task place dues ≡ true → WasTaken v task place
is_taken by u v task place [] numbered end among = absurd cc
is_taken by u v task place (d ∷ ds) numbered (on {v = w} first takes rest) among =
    let one_on = ages u numbered d.at w (takes_ages u w d numbered takes) in
    go one_on (is_of_deadline task place d) refl (λ h. is_taken by w v task place ds one_on.numbered rest h)
  where
    go : StillTaken u w → (b : Bool) → is_of_deadline task place d ≡ b → (is_among task place ds ≡ true → WasTaken v task place) → WasTaken v task place
    go kept false e later = later (ap (λ (b : Bool). b || is_among task place ds) (sym e) ∙ among)
    go kept true e later =
        let parts = of_deadline task place d e in
        let now = taken_now u w d numbered parts.0 takes in
        let W : ℕ → Type 0 = λ n. WasTaken w n place in
        still w v task place (takings_still by w v ds kept.numbered rest) (subst W parts.1 (subst (λ (p : ℕ). WasTaken w d.task.0 p) parts.2 now))

-- ---- events

replied_still : (u v : TablesOf) (person : ℕ) (retry : Option Retry) (op : Op) (task : TaskId) (reply : Kept) → StillTaken u v → StillTaken u (with_reply v person retry op task reply)
replied_still u v person None op task reply is = is
replied_still u v person (Some r) op task reply is = record { there = is.there; numbered = is.numbered }

asked_still : (u : TablesOf) (moment : ℕ) (caller : List ℕ) (retry : Option Retry) (task : TaskId) (c : Command) (left : Option Record) (answer : Answer) (after : TablesOf) → AreNumbered u.rows → Asks u moment caller retry task c left answer after → StillTaken u after
asked_still u moment caller retry task c left answer after numbered asks = go asks.sending asks.asks
  where
    settles : (person : ℕ) (o : Consequence) → Accepts u o → Settles u person retry (op_of c) task (Asked (record { 0 = moment }) caller retry task c) o left answer after → StillTaken u after
    settles person (accepted v about) kept (reply, shows, left_is, is, told) = subst (StillTaken u) (sym is) (replied_still u v person retry (op_of c) task reply kept)
    settles person (refused why) kept ((none, is), told) = unchanged u numbered after is

    go : (known : Sending) → AsksAs u moment retry task c (Asked (record { 0 = moment }) caller retry task c) known left answer after → StillTaken u after
    go (New person) (o, is, settled) = settles person o (comes u person moment task.0 c o numbered is) settled
    go (Answered reply) ((none, is), told) = unchanged u numbered after is
    go (sending.Refused why) ((none, is), told) = unchanged u numbered after is

behind_still : (t : TablesOf) (moment : ℕ) (Does : Doing) (left : Option Record) (r : Reply) (after : TablesOf) → ((u v : TablesOf) (own : Option Record) (answer : Answer) → AreNumbered u.rows → Does u own answer v → StillTaken u v) → AreNumbered t.rows → Behind t moment Does left r after → StillTaken t after
behind_still t moment Does left r after each numbered d =
    let turned = takings_still moment t d.turned d.dues numbered (d.turn).takings in
    let acted = each d.turned d.acted d.own r.answer turned.numbered d.does in
    let both = further t d.turned d.acted turned acted in
    subst (StillTaken t) (sym d.after_is) (record { there = both.there; numbered = both.numbered })

pub stays_taken : (t : TablesOf) (e : Event) (left : Option Record) (r : Reply) (after : TablesOf) (task place : ℕ) → AreNumbered t.rows → Decides t e left r after → WasTaken t task place → WasTaken after task place
stays_taken t (Turn at) left r after task place numbered d taken = still t after task place (behind_still t (effective t at.0) Rests left r after (λ u v own answer low rests. unchanged u low v rests.0.1) numbered d) taken
stays_taken t (Ask at caller retry id c) left r after task place numbered d taken =
    let moment = effective t at.0 in
    still t after task place (behind_still t moment (λ u. Asks u moment caller retry id c) left r after (λ u v own answer low asks. asked_still u moment caller retry id c own answer v low asks) numbered d) taken
stays_taken t (Read caller what) left r after task place numbered ((none, is), told) taken = still t after task place (unchanged t numbered after is) taken
