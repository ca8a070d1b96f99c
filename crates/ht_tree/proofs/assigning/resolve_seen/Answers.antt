use Rattle.ht_tree.specs.Rows.{model_in}
use Rattle.std.proofs.Common.{◌≡◌, ℕ, true, List, [], Option, Some, None, IfSome, IsTrue, length, refl, ap, sym, subst, ◌∙◌}
use Rattle.ht_expr.specs.AssignmentKinds.{Assigns}
use Rattle.ht_expr.specs.Assignments.{is_plain}
use Rattle.ht_expr.specs.declared.assignment.Assign.{Assign}
use Rattle.ht_value.specs.declared.environment.Env.{Env}
use Rattle.ht_value.specs.Environment.{has_parts}
use Rattle.ht_expr.specs.Kinds.{Declared}
use Rattle.ht_expr.specs.Shown.{shown}
use Rattle.ht_finding.proofs.PublicLaws.{if_ok, resolved_same}
use Rattle.ht_models.specs.Kinded.{parts_of}
use Rattle.ht_models.specs.Model.{ModelOf}
use Rattle.ht_people.specs.Directory.{DirectoryOf}
use Rattle.ht_tree.specs.declared.row.Row.{Row}
use Rattle.ht_finding.specs.Assigning.{resolved, sight}
use Rattle.ht_tree.specs.Creating.{seen_in}
use Rattle.ht_tree.specs.Plans.{planned}
use Rattle.ht_tree.specs.Soundness.{IsHeldBy}
use Rattle.ht_tree.specs.Tables.{directory, model_of}
use Rattle.ht_tree.proofs.Rows.{some_at}
use Rattle.ht_tree.proofs.Seeing.{row_seen}
use Rattle.ht_tree.proofs.assigning.resolve_seen.Goals as goal

of_model : {A : Type 0} (P : A → Type 0) (o : Option A) (x : A) → o ≡ Some x → IfSome o P → P x
of_model {A = A} P o x at p = let Q : Option A → Type 0 = λ y. IfSome y P in subst Q at p

-- what is so for each model is so for the row's
for_model : (rows : List Row) (row : Row) (a : Assign) (d : DirectoryOf) (persons : List ℕ) (o : Option ModelOf) → IfSome o (λ m. Assigns (parts_of m.input m.output) a) → ((m : ModelOf) → Assigns (parts_of m.input m.output) a → persons ≡ resolved d (seen_in m rows row) (shown a)) → IfSome o (λ m. persons ≡ resolved d (seen_in m rows row) (shown a))
for_model rows row a d persons None fits each = tt
for_model rows row a d persons (Some m) fits each = each m fits

-- where no value is looked at, none needs to be there
no_values : (kinds : Declared) (env : Env) → env.input ≡ [] → env.output ≡ [] → IsTrue (has_parts kinds env)
no_values kinds env input output = rw (input, output) refl

pub found-requires-clause-kinds : goal.found-requires-clause-kinds
found-requires-clause-kinds c =
    let t = c.args.tables.now.tables in
    let row = c.args.row.now in
    let m = some_at t.models row.model c.requires.row.filed.model in
    let kinds = parts_of (m.0).input (m.0).output in
    let env = c.env_without_values in
    (kinds, of_model (λ x. Assigns (parts_of x.input x.output) c.args.assign.now) (model_of t row) m.0 m.1 c.requires.assign, no_values kinds env.result env.ensures.input env.ensures.output)

pub returns-then-is_plain-clause-persons : goal.returns-then-is_plain-clause-persons
returns-then-is_plain-clause-persons c =
    let t = c.args.tables.now.tables in
    let row = c.args.row.now in
    let a = c.args.assign.now in
    let rows = (planned t c.args.plan.now).rows in
    let d = c.people.result.now in
    let env = c.env_without_values.result in
    let plain : is_plain (shown a) ≡ true = sym c.is_plain.ensures ∙ c.if-is_plain.true in
    let Q : List ℕ → Type 0 = λ persons. IfSome (model_of t row) (λ m. persons ≡ resolved (directory t) (seen_in m rows row) (shown a)) in
    let F : List ℕ → Type 0 = λ persons. (kinds : Declared) → Assigns kinds a → persons ≡ resolved d (sight kinds env) (shown a) in
    let at : (persons : List ℕ) → F persons → Q persons =
    λ persons each. for_model rows row a (directory t) persons (model_of t row) c.requires.assign (λ m fits.
    each (parts_of m.input m.output) fits
    ∙ ap (λ (x : DirectoryOf). resolved x (sight (parts_of m.input m.output) env) (shown a)) c.people.ensures
    ∙ resolved_same (directory t) (sight (parts_of m.input m.output) env) (seen_in m rows row) c.env_without_values.ensures.initiator (shown a) plain) in
    if_ok F Q c.found.result at c.found.ensures

-- what was seen
seen_is : {e f : Env} {o : Option Env} → o ≡ Some e → o ≡ Some f → e ≡ f
seen_is is made = cc

pub found-requires-in-Some-clause-kinds : goal.found-requires-in-Some-clause-kinds
found-requires-in-Some-clause-kinds c =
    let t = c.args.tables.now.tables in
    let row = c.args.row.now in
    let m = some_at t.models row.model c.requires.row.filed.model in
    let kinds = parts_of (m.0).input (m.0).output in
    let held = of_model (λ x. IsHeldBy (length t.people.persons) x row.input row.output row.taken) (model_in t.models row) m.0 m.1 c.requires.row.held in
    let S : Env → Type 0 = λ e. IsTrue (has_parts kinds e) in
    (kinds, of_model (λ x. Assigns (parts_of x.input x.output) c.args.assign.now) (model_of t row) m.0 m.1 c.requires.assign, subst S (sym (seen_is c.in-Some.is c.in_ok-see.ensures)) (row_seen m.0 (length t.people.persons) row held))

pub returns-clause-persons : goal.returns-clause-persons
returns-clause-persons c =
    let t = c.args.tables.now.tables in
    let row = c.args.row.now in
    let a = c.args.assign.now in
    let rows = (planned t c.args.plan.now).rows in
    let d = c.people-in-Some.result.now in
    let env = c.in-Some.env in
    let Q : List ℕ → Type 0 = λ persons. IfSome (model_of t row) (λ m. persons ≡ resolved (directory t) (seen_in m rows row) (shown a)) in
    let F : List ℕ → Type 0 = λ persons. (kinds : Declared) → Assigns kinds a → persons ≡ resolved d (sight kinds env) (shown a) in
    let at : (persons : List ℕ) → F persons → Q persons =
    λ persons each. for_model rows row a (directory t) persons (model_of t row) c.requires.assign (λ m fits.
    each (parts_of m.input m.output) fits
    ∙ ap (λ (x : DirectoryOf). resolved x (sight (parts_of m.input m.output) env) (shown a)) c.people-in-Some.ensures
    ∙ ap (λ (e : Env). resolved (directory t) (sight (parts_of m.input m.output) e) (shown a)) (seen_is c.in-Some.is c.in_ok-see.ensures)) in
    if_ok F Q c.found-in-Some.result at c.found-in-Some.ensures
