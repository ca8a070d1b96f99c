use Rattle.std.proofs.Common.{◌≡◌, rules, sym, subst}
use Rattle.ht_tree.specs.Soundness.{IsSound}
use Rattle.ht_tree.specs.Tables.{TablesOf}
use Rattle.ht_tree.proofs.PublicLaws.{no_plan_fits, planned_nothing}
use Rattle.ht_machine_tests.proofs.turns.a_turn_is_planned.Goals as goal

pub turn-requires-clause-plan : goal.turn-requires-clause-plan
turn-requires-clause-plan g c =
    let t = c.outcome_of.new.tables.tables in
    let p = c.in_ok-plan.plan in
    let S : TablesOf → Type 0 = λ u. IsSound u in
    record {
      fits = no_plan_fits t p c.in_ok-plan.ensures;
      sound = subst S (sym (planned_nothing t p c.in_ok-plan.ensures)) (search rules);
    }
