-- Worked examples of the order of refusals. A wrong reading of one fails the check.
use Rattle.std.specs.Prelude.{◌≡◌, refl, true, false, ℕ, List, ◌∷◌, [], Option, Some, None, codes}
use Rattle.ht_base.specs.declared.event.Command.{Command}
use Rattle.ht_base.specs.declared.event.Command.TheVariants.{Claim, Create, Forward, Stop}
use Rattle.ht_base.specs.declared.operation.Op.TheVariants as op
use Rattle.ht_base.specs.declared.reply.Limit.TheVariants.{Journal, Tasks}
use Rattle.ht_base.specs.declared.reply.Refusal.{Refusal}
use Rattle.ht_base.specs.declared.reply.Refusal.TheVariants.{ByGroup, Limit, Memory, Role, Store, State, Task, Unknown}
use Rattle.ht_base.specs.declared.reply.Unknown.TheVariants.{Model}
use Rattle.ht_base.specs.declared.state.State.TheVariants.{Ready, Reserved}
use Rattle.ht_machine.specs.Examples.{claimed, nothing_yet, ready}
use Rattle.ht_machine.specs.Itself.{is_its_own}
use Rattle.ht_machine.specs.Refusals.{refusals}
use Rattle.ht_owner.specs.Faults.{first_of}
use Rattle.ht_rules.specs.Judging.{needed}
use Rattle.ht_rules.specs.Sets.{states_of}
use Rattle.ht_tree.specs.declared.row.Row.{Row}
use Rattle.ht_tree.specs.Tables.{TablesOf}

-- what a caller is told whose command gathers nothing, where this is the only task
abbrev told : List Row → ℕ → ℕ → Command → Option Refusal
told rows caller task c = let t : TablesOf = record nothing_yet { rows = rows; last = 1000 } in first_of (refusals t t caller (record { 0 = 2000 }) task c)

no_such_model : told [] 3 0 (Create (Some (codes "sole")) [] None) ≡ Some (Unknown (Model (codes "sole")))
no_such_model = refl

no_such_task : told (ready ∷ []) 0 2 Claim ≡ Some (Task (record { 0 = 2 }))
no_such_task = refl

-- dan, who created it, has no role that might stop it, and it can't be stopped
the_role_comes_first : told (ready ∷ []) 3 1 Stop ≡ Some (Role (needed op.Stop))
the_role_comes_first = refl

-- ben might claim it, were it ready
then_the_state : told (claimed ∷ []) 1 1 Claim ≡ Some (State (states_of (Ready ∷ [])) Reserved)
then_the_state = refl

-- there is no eve, but before that anna may not forward what a group may claim
then_the_faults_in_their_order : told (ready ∷ []) 0 1 (Forward (codes "eve" ∷ [])) ≡ Some ByGroup
then_the_faults_in_their_order = refl

nothing_speaks_against_it : told (ready ∷ []) 0 1 Claim ≡ None
nothing_speaks_against_it = refl

-- ---- what the machine refuses by the tables

too_many_tasks : is_its_own (Limit Tasks) ≡ true
too_many_tasks = refl

too_long_a_journal : is_its_own (Limit Journal) ≡ false
too_long_a_journal = refl

a_disk_that_fails : is_its_own Store ≡ false
a_disk_that_fails = refl

no_memory : is_its_own Memory ≡ false
no_memory = refl
