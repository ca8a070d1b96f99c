-- The verdict, from what was gathered of all rows.
use Rattle.std.proofs.Common.{◌≡◌, ℕ, ◌≤◌, Bool, true, ◌||◌, List, length, drop, sym, ap, ◌∙◌, if◌then◌else◌}
use Rattle.std.proofs.lemmas.List.{drop_all}
use Rattle.ht_base.specs.declared.operation.Op.{Op}
use Rattle.ht_base.specs.declared.role.Roles.{Roles}
use Rattle.ht_base.specs.declared.state.State.{State}
use Rattle.ht_base.specs.declared.state.StateSet.{StateSet}
use Rattle.ht_base.specs.State.{contains_state, no_states}
use Rattle.ht_rules.specs.declared.allowances.Allowance.{Allowance}
use Rattle.ht_rules.specs.declared.judging.Verdict.{Verdict}
use Rattle.ht_rules.specs.declared.judging.Verdict.TheVariants.{Yes, NeedsRole, WrongState}
use Rattle.ht_rules.specs.Allowances.{allowances}
use Rattle.ht_rules.specs.Judging.{has_role, is_allowed, is_named, verdict}
use Rattle.ht_rules.specs.Sets.{roles_where, states_where}
use Rattle.ht_rules.proofs.Gathering.{allowed_from, allowed_is, state_where}

abbrev verdict_by : List Allowance → State → Roles → Verdict
verdict_by rows state roles =
    if has_role roles rows
    then (if is_allowed rows roles state then Yes else WrongState (states_where (is_allowed rows roles)))
    else NeedsRole (roles_where (is_named rows))

pub judged : (op : Op) (state : State) (roles : Roles) (rows : List Allowance) (i : ℕ) (h : Bool) (set : StateSet) (b : Bool) → rows ≡ allowances op → length rows ≤ i → (h || has_role roles (drop i rows)) ≡ has_role roles rows → allowed_from roles set (drop i rows) ≡ allowed_from roles no_states rows → h ≡ true → contains_state set state ≡ b → (if b then Yes else WrongState set) ≡ verdict op state roles
judged op state roles rows i h set b table end has all held within =
    let may : has_role roles rows ≡ true = sym has ∙ ap (λ (x : Bool). x || has_role roles (drop i rows)) held in
    let gathered : set ≡ states_where (is_allowed rows roles) =
    sym (ap (λ (l : List Allowance). allowed_from roles set l) (drop_all i rows end)) ∙ all ∙ allowed_is roles rows in
    let allows : is_allowed rows roles state ≡ b =
    sym (ap (λ (s : StateSet). contains_state s state) gathered ∙ state_where (is_allowed rows roles) state) ∙ within in
    sym (ap (λ (x : Bool). if x then (if is_allowed rows roles state then Yes else WrongState (states_where (is_allowed rows roles))) else NeedsRole (roles_where (is_named rows))) may
    ∙ ap (λ (x : Bool). if x then Yes else WrongState (states_where (is_allowed rows roles))) allows
    ∙ ap (λ (s : StateSet). if b then Yes else WrongState s) (sym gathered))
    ∙ ap (λ (l : List Allowance). verdict_by l state roles) table
