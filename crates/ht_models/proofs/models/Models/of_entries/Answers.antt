use Rattle.std.proofs.Common.{◌∙◌, ℕ, List, ap, subst}
use Rattle.std.proofs.lemmas.Result.{err_from_is_err_and}
use Rattle.ht_graph.specs.Graphs.{IsInCycle}
use Rattle.ht_models.specs.SubTrees.{places_at, sub_places}
use Rattle.ht_models.proofs.Passing.{all_read, contradiction_told, cycle_told, expression_told, kept, limit_told, sized, unknown_told}
use Rattle.ht_models.proofs.SubPlaces.{closed}
use Rattle.ht_models.proofs.models.Models.of_entries.Goals as goal

-- no model is below itself
abbrev Acyclic : List (List ℕ) → Type 0
Acyclic graph = (place : ℕ) → IsInCycle (places_at graph) place → ⊥

pub returns-in_err-check_known : goal.returns-in_err-check_known
returns-in_err-check_known c =
    let p = err_from_is_err_and c.from_residual-in_err-check_known.result c.from_residual-in_err-check_known.ensures.1 in
    let twice = rw c.deref.ensures.value at c.in_ok-places.ensures.passes in
    rw (p.1, p.2) (unknown_told c.args.entries.items twice _ (rw c.deref-2.ensures.value at c.in_err-check_known.ensures))

pub check_cycles-requires : goal.check_cycles-requires
check_cycles-requires c = rw c.in_ok-graph.ensures (closed c.deref-3.result.now)

pub returns-in_err-check_cycles : goal.returns-in_err-check_cycles
returns-in_err-check_cycles c =
    let p = err_from_is_err_and c.from_residual-in_err-check_cycles.result c.from_residual-in_err-check_cycles.ensures.1 in
    let twice = rw c.deref.ensures.value at c.in_ok-places.ensures.passes in
    let unknown = rw c.deref-2.ensures.value at c.in_ok-check_known.ensures in
    let graph = c.in_ok-graph.ensures ∙ ap sub_places c.deref-3.ensures.value in
    rw (p.1, p.2) (cycle_told c.args.entries.items twice unknown _ (rw graph at c.in_err-check_cycles.ensures))

pub returns-in_err-models : goal.returns-in_err-models
returns-in_err-models c =
    let p = err_from_is_err_and c.from_residual-in_err-models.result c.from_residual-in_err-models.ensures.1 in
    let twice = rw c.deref.ensures.value at c.in_ok-places.ensures.passes in
    let unknown = rw c.deref-2.ensures.value at c.in_ok-check_known.ensures in
    let graph = c.in_ok-graph.ensures ∙ ap sub_places c.deref-3.ensures.value in
    let cycle = subst Acyclic graph c.in_ok-check_cycles.ensures in
    rw (p.1, p.2) (expression_told c.args.entries.items twice unknown cycle _ c.in_err-models.ensures.passes)

pub returns-in-Some-default : goal.returns-in-Some-default
returns-in-Some-default c =
    let twice = rw c.deref.ensures.value at c.in_ok-places.ensures.passes in
    let unknown = rw c.deref-2.ensures.value at c.in_ok-check_known.ensures in
    let graph = c.in_ok-graph.ensures ∙ ap sub_places c.deref-3.ensures.value in
    let cycle = subst Acyclic graph c.in_ok-check_cycles.ensures in
    let limit = rw c.deref-4.ensures.value at (rw c.in-Some-default.is-0 at c.first_too_much-too_much.ensures) in
    limit_told c.args.entries.items twice unknown cycle c.in_ok-models.ensures.passes c.in-Some-default.place limit

pub returns-in-None-Some : goal.returns-in-None-Some
returns-in-None-Some c =
    let twice = rw c.deref.ensures.value at c.in_ok-places.ensures.passes in
    let unknown = rw c.deref-2.ensures.value at c.in_ok-check_known.ensures in
    let graph = c.in_ok-graph.ensures ∙ ap sub_places c.deref-3.ensures.value in
    let cycle = subst Acyclic graph c.in_ok-check_cycles.ensures in
    let limit = rw c.deref-4.ensures.value at (rw c.in-None-Some.is-0 at c.first_too_much-too_much.ensures) in
    let contradiction = rw c.deref-5.ensures.value at (rw c.in-None-Some.is-1 at c.first_contradicted-contradicted.ensures.first) in
    contradiction_told c.args.entries.items twice unknown cycle c.in_ok-models.ensures.passes limit c.in-None-Some.place contradiction

pub invariant_of-result : goal.invariant_of-result
invariant_of-result c =
    let t = c.args.entries.items in
    let twice = rw c.deref.ensures.value at c.in_ok-places.ensures.passes in
    let unknown = rw c.deref-2.ensures.value at c.in_ok-check_known.ensures in
    let graph = c.in_ok-graph.ensures ∙ ap sub_places c.deref-3.ensures.value in
    let limit = rw c.deref-4.ensures.value at (rw c.in-None-None.is-0 at c.first_too_much-too_much.ensures) in
    let contradiction = rw c.deref-5.ensures.value at (rw c.in-None-None.is-1 at c.first_contradicted-contradicted.ensures.first) in
    let order = rw c.deref-5.ensures.value at (rw c.in-None-None.is-1 at c.first_contradicted-contradicted.ensures.order) in
    let counted = rw graph at c.in_ok-trees.ensures in
    let models = sized t _ _ c.in_ok-models.ensures.models counted limit c.in_ok-models.ensures.sizes in
    kept t _ c.requires limit twice unknown contradiction order models c.in_ok-models.ensures.kinds (rw c.deref.ensures.value at c.in_ok-places.ensures.ok)

pub returns-in-None-None : goal.returns-in-None-None
returns-in-None-None c =
    let t = c.args.entries.items in
    let twice = rw c.deref.ensures.value at c.in_ok-places.ensures.passes in
    let unknown = rw c.deref-2.ensures.value at c.in_ok-check_known.ensures in
    let graph = c.in_ok-graph.ensures ∙ ap sub_places c.deref-3.ensures.value in
    let cycle = subst Acyclic graph c.in_ok-check_cycles.ensures in
    let limit = rw c.deref-4.ensures.value at (rw c.in-None-None.is-0 at c.first_too_much-too_much.ensures) in
    let contradiction = rw c.deref-5.ensures.value at (rw c.in-None-None.is-1 at c.first_contradicted-contradicted.ensures.first) in
    let counted = rw graph at c.in_ok-trees.ensures in
    let models = sized t _ _ c.in_ok-models.ensures.models counted limit c.in_ok-models.ensures.sizes in
    all_read t twice unknown cycle c.in_ok-models.ensures.passes limit contradiction _ models
