-- What comes of a command that passes the gate.
use Rattle.ht_models.specs.Contradictions.{is_automatic}
use Rattle.std.proofs.Common.{◌≡◌, ℕ, Bool, List, Option, None, Some, Ok, Err, Result, if◌then◌else◌, refl, ap, sym, subst, ◌∙◌, eq-eqb, arith}
use Rattle.ht_base.specs.declared.event.Command.{Command}
use Rattle.ht_base.specs.declared.event.Command.TheVariants as command
use Rattle.ht_base.specs.declared.moment.Moment.{Moment}
use Rattle.ht_base.specs.declared.operation.Op.{Op}
use Rattle.ht_base.specs.declared.parts.Parts.{Parts}
use Rattle.ht_base.specs.declared.task_id.TaskId.{TaskId}
use Rattle.ht_base.specs.declared.values.Values.{Values}
use Rattle.ht_base.specs.Events.{op_of}
use Rattle.ht_compose.specs.Finishes.{chosen}
use Rattle.ht_compose.specs.Gathering.{Gathers, GathersBy, IsGathered}
use Rattle.ht_compose.specs.Reaching.{IsTask}
use Rattle.ht_machine.specs.Commands.{ActsOn, AfterEffect, BehindGate, DoesOn, HasEffect, Consequence, accepted, refused}
use Rattle.ht_base.specs.declared.reply.Refusal.{Refusal}
use Rattle.ht_machine.specs.Gate.{Answers, Gate, gate, gate_at, judged, opens}
use Rattle.ht_machine.specs.Planning.{Does, Tries}
use Rattle.ht_machine.specs.Following.{IsFollowed, Spreads}
use Rattle.ht_machine.proofs.Rows.{one}
use Rattle.ht_models.specs.Model.{FinishOf}
use Rattle.ht_owner.specs.declared.follow.Follow.{Follow}
use Rattle.ht_owner.specs.declared.refusal.ActRefusal.{ActRefusal}
use Rattle.ht_owner.specs.declared.refusal.ActRefusal.TheVariants as why
use Rattle.ht_owner.specs.Acting.{Acts, IsAllowed, Makes}
use Rattle.ht_owner.specs.Effects.{Effect}
use Rattle.ht_rules.specs.declared.judging.Verdict.{Verdict}
use Rattle.ht_rules.specs.Judging.{verdict}
use Rattle.ht_tree.specs.declared.row.Row.{Row}
use Rattle.ht_tree.specs.Plans.{IsNext, PlanOf, planned}
use Rattle.ht_tree.specs.Roles.{roles_in}
use Rattle.ht_tree.specs.Rows.{row_at}
use Rattle.ht_tree.specs.Soundness.{IsSound}
use Rattle.ht_tree.specs.Tables.{TablesOf, task_row, with_row}
use Rattle.ht_tree.proofs.PublicLaws.{goes_then, row_at-put_in, within}

-- ---- what is tried, told otherwise

pub tries_as : (t : TablesOf) (old new : PlanOf) (P Q : Consequence → Type 0) (r : Result TaskId ActRefusal) → ((o : Consequence) → P o → Q o) → Tries t old new P r → Tries t old new Q r
tries_as t old new P Q (Ok task) f d = record { after = d.after; comes = f (accepted d.after task.0) d.comes; goes = d.goes; sound = d.sound; row = d.row; there = d.there }
tries_as t old new P Q (Err (why.Refused other)) f d = (f (refused other) d.0, d.1)
tries_as t old new P Q (Err why.Memory) f d = tt

-- ---- what a command makes of its task, and what follows

-- the task is there on which something follows
pub task_acted : (t : TablesOf) (old mid : PlanOf) (caller : ℕ) (at : Moment) (task : TaskId) (c : Command) (follow : Follow) → IsSound (planned t old) → Makes t old mid task.0 caller at c follow → IsTask (planned t mid) task.0
task_acted t old mid caller at task c follow sound makes =
    let P : TablesOf → Type 0 = λ u. IsTask u task.0 in
    subst P (sym (makes.goes).to) (record { row = makes.after; there = makes.found; number = (makes.sound sound).numbered task.0 makes.after makes.found })

-- what the command makes is sound
pub sound_acted : (t : TablesOf) (old mid : PlanOf) (caller : ℕ) (at : Moment) (task : TaskId) (c : Command) (follow : Follow) → IsSound (planned t old) → Makes t old mid task.0 caller at c follow → IsSound (planned t mid)
sound_acted t old mid caller at task c follow sound makes = let P : TablesOf → Type 0 = λ u. IsSound u in subst P (sym (makes.goes).to) (makes.sound sound)

pub followed_after : (t : TablesOf) (old mid new : PlanOf) (caller : ℕ) (at : Moment) (task : TaskId) (c : Command) (follow : Follow) → Makes t old mid task.0 caller at c follow → IsFollowed t mid new at task.0 follow → Does t old new (HasEffect (planned t old) caller at.0 task.0 c) task
followed_after t old mid new caller at task c follow makes plans =
    let u = planned t old in
    let v = with_row u makes.after in
    let F : TablesOf → Type 0 = λ x. Spreads at follow task.0 x plans.after in
    let E : Effect → Type 0 = λ e. AfterEffect u at.0 task.0 e (accepted plans.after task.0) in
    record {
      after = plans.after;
      comes = (makes.before, makes.model, makes.there, makes.of_model, subst E (sym makes.effect_is) (subst F (makes.goes).to plans.spreads, refl));
      goes = goes_then t old mid new u v plans.after makes.goes plans.goes;
      sound = λ sound. plans.sound;
      row = plans.row;
      there = plans.there;
    }

pub act_tries : (t : TablesOf) (old new : PlanOf) (caller : ℕ) (at : Moment) (task : TaskId) (c : Command) (refusal : ActRefusal) → Acts t old new task.0 caller at c (Err refusal) → Tries t old new (HasEffect (planned t old) caller at.0 task.0 c) (Err refusal)
act_tries t old new caller at task c (why.Refused refusal) told =
    let E : Effect → Type 0 = λ e. AfterEffect (planned t old) at.0 task.0 e (refused refusal) in
    ((told.before, told.model, told.there, told.of_model, subst E (sym told.effect_is) refl), ap (λ (p : PlanOf). p.marked) told.same)
act_tries t old new caller at task c why.Memory told = tt

-- ---- behind what is gathered first

-- a command that gathers nothing and makes no sub task
pub does_plain : (u : TablesOf) (caller moment task : ℕ) (c : Command) (o : Consequence) → ((sub : List ℕ) → c ≡ command.InstantiateSubTask sub → ⊥) → ((output : Parts) → c ≡ command.Complete output → ⊥) → HasEffect u caller moment task c o → DoesOn u caller moment task c o
does_plain u caller moment task (command.InstantiateSubTask sub) o makes completes has = absurd (makes sub refl)
does_plain u caller moment task (command.Complete output) o makes completes has = absurd (completes output refl)
does_plain u caller moment task c o makes completes has = (u, refl, has)

-- a caller who may act on a task still may when its results are gathered
pub still_allowed : (u v : TablesOf) (op : Op) (caller task : ℕ) → IsSound u → IsAllowed u op caller task → Gathers u task v → IsAllowed v op caller task
still_allowed u v op caller task sound allowed (row, m, there, of, by) = go (if is_automatic m.completion then None else chosen u.rows m row) by
  where
    same : row ≡ allowed.row
    same = one (task_row u task) row allowed.row there allowed.there

    number : row.task.0 ≡ task
    number = sound.numbered task row there

    with_output : (output : Values) → IsAllowed (with_row u (record row { output = output })) op caller task
    with_output output =
        let after = record row { output = output } in
        let place = within u.rows row task there in
        let low = place.0 in
        let high = place.1 in
        let n = number in
        let next : IsNext u.rows after = (omega arith, omega arith) in
        record {
          row = after;
          there = row_at-put_in u.rows after task next ∙ ap (λ (b : Bool). if b then Some after else row_at task u.rows) (eq-eqb row.task.0 task number);
          may = ap (λ (r : Row). verdict op r.state (roles_in u r caller)) same ∙ allowed.may;
        }

    go : (o : Option FinishOf) → GathersBy u row m o v → IsAllowed v op caller task
    go None is = let A : TablesOf → Type 0 = λ x. IsAllowed x op caller task in subst A (sym is) allowed
    go (Some f) is = let A : TablesOf → Type 0 = λ x. IsAllowed x op caller task in subst A (sym is.2) (with_output is.0)

pub gathered_then : (t : TablesOf) (old mid new : PlanOf) (caller : ℕ) (at : Moment) (task : TaskId) (output : Parts) (r : Result TaskId ActRefusal) → IsGathered t old mid task.0 → Tries t mid new (HasEffect (planned t mid) caller at.0 task.0 (command.Complete output)) r → Tries t old new (DoesOn (planned t old) caller at.0 task.0 (command.Complete output)) r
gathered_then t old mid new caller at task output (Ok about) g d =
    let H : TablesOf → Type 0 = λ u. HasEffect u caller at.0 task.0 (command.Complete output) (accepted d.after about.0) in
    let S : TablesOf → Type 0 = λ u. IsSound u in
    record {
      after = d.after;
      comes = (g.after, g.gathers, subst H (g.goes).to d.comes);
      goes = goes_then t old mid new (planned t old) g.after d.after g.goes d.goes;
      sound = λ sound. d.sound (subst S (sym (g.goes).to) g.sound);
      row = d.row;
      there = d.there;
    }
gathered_then t old mid new caller at task output (Err (why.Refused other)) g d =
    let H : TablesOf → Type 0 = λ u. HasEffect u caller at.0 task.0 (command.Complete output) (refused other) in
    ((g.after, g.gathers, subst H (g.goes).to d.0), d.1 ∙ (g.goes).marked)
gathered_then t old mid new caller at task output (Err why.Memory) g d = tt

-- ---- the gate

pub gate_opens : (u : TablesOf) (op : Op) (person task : ℕ) (a : IsAllowed u op person task) → gate u op person task ≡ opens a.row
gate_opens u op person task a = ap (λ o. gate_at u op person task o) a.there ∙ ap (λ (v : Verdict). judged v a.row) a.may

pub behind_gate : (u : TablesOf) (caller moment task : ℕ) (c : Command) (o : Consequence) → IsAllowed u (op_of c) caller task → DoesOn u caller moment task c o → ActsOn u caller moment task c o
behind_gate u caller moment task c o allowed doing =
    let G : Gate → Type 0 = λ g. BehindGate u caller moment task c g o in
    subst G (sym (gate_opens u (op_of c) caller task allowed)) doing

-- what isn't refused at the gate is allowed
pub passed : (u : TablesOf) (op named : Op) (person task : ℕ) (o : Option Refusal) → ((why : Refusal) → o ≡ Some why → ⊥) → op ≡ named → Answers u op person task o → IsAllowed u named person task
passed u op named person task None none is answers = let P : Op → Type 0 = λ o. IsAllowed u o person task in subst P is answers
passed u op named person task (Some why) none is answers = absurd (none why refl)
