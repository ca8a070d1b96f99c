use Rattle.std.proofs.Common.{◌≡◌, ℕ, ◌+◌, not, Bool, false, Bor, List, [], length, Option, Some, None, IfSome, option_map, refl, ap, sym, subst, ◌∙◌}
use Rattle.std.specs.Option.{option_map_or}
use Rattle.std.specs.Prelude.{pos, slice_get}
use Rattle.ht_base.specs.declared.moment.Moment.{Moment}
use Rattle.ht_base.specs.declared.state.State.TheVariants.{Created}
use Rattle.ht_base.specs.declared.task_id.TaskId.{TaskId}
use Rattle.ht_base.specs.declared.values.Values.{Values}
use Rattle.ht_expr.specs.Assignments.{is_individual}
use Rattle.ht_value.specs.declared.environment.Env.{Env}
use Rattle.ht_expr.specs.Kinds.{Declared}
use Rattle.ht_value.specs.Values.{value}
use Rattle.ht_models.specs.Kinded.{parts_of}
use Rattle.ht_models.specs.Model.{ModelOf}
use Rattle.ht_models.specs.Shown.{model_of}
use Rattle.ht_tree.specs.declared.comments.Comment.{Comment}
use Rattle.ht_tree.specs.declared.row.Row.{Row}
use Rattle.ht_finding.specs.Assigning.{Sight, potential_owners, resolved, sight}
use Rattle.ht_tree.specs.Creating.{bare_row, env_of, level_of, new_row, parent_row, role_or, seen, with_priority}
use Rattle.ht_tree.specs.Plans.{planned}
use Rattle.ht_tree.specs.Tables.{TablesOf, model_at}
use Rattle.ht_tree.proofs.Seeing.{given_seen}
use Rattle.ht_tree.proofs.creating.new_row.Goals as goal

-- a role of the parent, of a sub task
above_role : (role : Row → List ℕ) (o : Option (Bor Row)) → option_map_or (λ r. role r.now) o [] ≡ option_map_or role (option_map (λ r. r.now) o) []
above_role role None = refl
above_role role (Some r) = refl

if_there : {A : Type 0} (P : A → Type 0) (o : Option A) (x : A) → o ≡ Some x → P x → IfSome o P
if_there {A = A} P o x at p = let Q : Option A → Type 0 = λ y. IfSome y P in subst Q (sym at) p

module _ (t : TablesOf) (m : ModelOf) (model : ℕ) (parent : Option (TaskId × ℕ)) (initiator : ℕ) (input : Values) (waits : Option Moment) (at : Moment) where
  abbrev bare : Row
  bare = bare_row (record { 0 = length t.rows + 1 }) model parent initiator input waits at

  abbrev kinds : Declared
  kinds = parts_of m.input m.output

  leveled : (first second : Env) (priority : ℕ) → first ≡ env_of bare → priority ≡ level_of (value kinds first m.priority) → second ≡ record first { priority = pos priority } → (priority ≡ (with_priority m bare).priority) × (second ≡ env_of (with_priority m bare))
  leveled first second priority is level next =
      let same : priority ≡ (with_priority m bare).priority = level ∙ ap (λ (e : Env). level_of (value kinds e m.priority)) is in
      (same, next ∙ ap (λ (e : Env). record e { priority = pos priority }) is ∙ ap (λ (k : ℕ). record (env_of bare) { priority = pos k }) same)

  made : (task : TaskId) (first second : Env) (priority : ℕ) (owners excluded admins holders : List ℕ) (group : Bool) (given set : Values) (taken : List ℕ) (comments : List Comment) → task.0 ≡ length t.rows + 1 → first ≡ env_of bare → priority ≡ level_of (value kinds first m.priority) → second ≡ record first { priority = pos priority } → owners ≡ potential_owners t.people (sight kinds second) m.potential_owners (resolved t.people (sight kinds second) m.excluded_owners) → excluded ≡ resolved t.people (sight kinds second) m.excluded_owners → admins ≡ role_or t.people (sight kinds second) m.administrators (option_map_or (λ r. r.administrators) (parent_row t parent) []) → holders ≡ role_or t.people (sight kinds second) m.stakeholders (option_map_or (λ r. r.stakeholders) (parent_row t parent) []) → group ≡ not (is_individual m.potential_owners) → given ≡ input → set ≡ [] → taken ≡ [] → comments ≡ [] → record {
    task = task;
    parent = parent;
    model = model;
    state = Created;
    owner = None;
    last_owner = None;
    initiator = initiator;
    potential_owners = owners;
    excluded_owners = excluded;
    administrators = admins;
    stakeholders = holders;
    by_group = group;
    started = false;
    priority = priority;
    input = given;
    output = set;
    created = at;
    waits = waits;
    until = None;
    fault = None;
    taken = taken;
    comments = comments;
  } ≡ new_row t m model parent initiator input waits at
  made task first second priority owners excluded admins holders group given set taken comments number is level next ps es bs hs gs same none untaken silent =
      let both = leveled first second priority is level next in
      let s : sight kinds second ≡ seen m (with_priority m bare) = ap (λ (e : Env). sight kinds e) both.1 in
      let ps2 = ps ∙ ap (λ (x : Sight). potential_owners t.people x m.potential_owners (resolved t.people x m.excluded_owners)) s in
      let es2 = es ∙ ap (λ (x : Sight). resolved t.people x m.excluded_owners) s in
      let bs2 = bs ∙ ap (λ (x : Sight). role_or t.people x m.administrators (option_map_or (λ r. r.administrators) (parent_row t parent) [])) s in
      let hs2 = hs ∙ ap (λ (x : Sight). role_or t.people x m.stakeholders (option_map_or (λ r. r.stakeholders) (parent_row t parent) [])) s in
      λ i. record {
        task = record { 0 = number i };
        parent = parent;
        model = model;
        state = Created;
        owner = None;
        last_owner = None;
        initiator = initiator;
        potential_owners = ps2 i;
        excluded_owners = es2 i;
        administrators = bs2 i;
        stakeholders = hs2 i;
        by_group = gs i;
        started = false;
        priority = both.0 i;
        input = same i;
        output = none i;
        created = at;
        waits = waits;
        until = None;
        fault = None;
        taken = untaken i;
        comments = silent i;
      }

pub priority_of-priority-requires-clause-parts : goal.priority_of-priority-requires-clause-parts
priority_of-priority-requires-clause-parts c =
    let t = c.args.tables.now.tables in
    let m : ModelOf = model_of c.model-m.result.now in
    let at : model_at t c.args.model ≡ Some m = ap (λ (ms : List ModelOf). slice_get ms c.args.model) (sym c.models.ensures.value) ∙ c.model-m.ensures.value in
    let env = c.first_env-env.ensures in
    given_seen (length t.people.persons) (model_at t c.args.model) m c.args.input c.first_env-env.result c.requires.input at (ap (λ (e : Env). e.input) env) (ap (λ (e : Env). e.output) env)

pub roles_of-requires-clause-parts : goal.roles_of-requires-clause-parts
roles_of-requires-clause-parts c =
    let t = c.args.tables.now.tables in
    let m : ModelOf = model_of c.model-m.result.now in
    let at : model_at t c.args.model ≡ Some m = ap (λ (ms : List ModelOf). slice_get ms c.args.model) (sym c.models.ensures.value) ∙ c.model-m.ensures.value in
    let first = c.first_env-env.ensures in
    let env = c.at_priority-env.ensures in
    given_seen (length t.people.persons) (model_at t c.args.model) m c.args.input c.at_priority-env.result c.requires.input at
    (ap (λ (e : Env). e.input) env ∙ ap (λ (e : Env). e.input) first) (ap (λ (e : Env). e.output) env ∙ ap (λ (e : Env). e.output) first)

pub returns : goal.returns
returns c =
    let t = c.args.tables.now.tables in
    let u = planned t c.args.plan.now in
    let m : ModelOf = model_of c.model-m.result.now in
    let at : model_at t c.args.model ≡ Some m = ap (λ (ms : List ModelOf). slice_get ms c.args.model) (sym c.models.ensures.value) ∙ c.model-m.ensures.value in
    let first = c.first_env-env.ensures in
    let env = c.at_priority-env.ensures in
    let roles = c.in_ok-roles.ensures in
    let above = λ (role : Row → List ℕ). above_role role c.parent_row-above.result ∙ ap (λ (o : Option Row). option_map_or role o []) c.parent_row-above.ensures in
    if_there _ (model_at t c.args.model) m at
    (made u m c.args.model c.args.parent c.args.initiator c.args.input c.args.waits c.args.at c.args.task c.first_env-env.result c.at_priority-env.result c.priority_of-priority.result
    c.in_ok-roles.roles.potential_owners c.in_ok-roles.roles.excluded_owners c.in_ok-roles.roles.administrators c.in_ok-roles.roles.stakeholders _ c.values_of-input.result.0 c.values_of-input.result.1 c.new.result c.new-2.result
    c.requires.task first c.priority_of-priority.ensures env
    (rw c.people.ensures at roles.potential_owners)
    (rw c.people.ensures at roles.excluded_owners)
    (rw c.people.ensures at roles.administrators ∙ ap (λ (l : List ℕ). role_or t.people (sight (parts_of m.input m.output) c.at_priority-env.result) m.administrators l) (above (λ r. r.administrators)))
    (rw c.people.ensures at roles.stakeholders ∙ ap (λ (l : List ℕ). role_or t.people (sight (parts_of m.input m.output) c.at_priority-env.result) m.stakeholders l) (above (λ r. r.stakeholders)))
    (ap not c.individual.ensures)
    (ap (λ (v : Values × Values). v.0) c.values_of-input.ensures ∙ ap (λ (e : Env). e.input) env ∙ ap (λ (e : Env). e.input) first)
    (ap (λ (v : Values × Values). v.1) c.values_of-input.ensures ∙ ap (λ (e : Env). e.output) env ∙ ap (λ (e : Env). e.output) first)
    c.new.ensures c.new-2.ensures)
