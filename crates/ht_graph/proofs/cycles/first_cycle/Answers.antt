use Rattle.std.proofs.Common.{arith, below_more}
use Rattle.std.proofs.lemmas.Bool.{both_ways}
use Rattle.ht_base.proofs.PublicLaws.{least_here}
use Rattle.ht_graph.specs.Graphs.{IsInCycle}
use Rattle.ht_graph.proofs.Chains.{cycle_within}
use Rattle.ht_graph.proofs.cycles.first_cycle.Goals as goal

pub returns-then-branch : goal.returns-then-branch
returns-then-branch g c = least_here (IsInCycle (g.G.Graph.next c.args.graph.now)) c.loop-place.place (c.in_ok-is_in_cycle.ensures.0 c.if-branch.true) c.loop-place.invariant

pub loop-place-preserved : goal.loop-place-preserved
loop-place-preserved g c = below_more _ _ c.loop-place.invariant (λ r. both_ways c.in_ok-is_in_cycle.field-0 c.if-branch.false (c.in_ok-is_in_cycle.ensures.1 r))

pub returns : goal.returns
returns g c =
    λ p r. c.loop-place.invariant p (let within = cycle_within (g.G.Graph.next c.args.graph.now) (g.G.Graph.count c.args.graph.now) c.requires p r in let past = c.loop-place-test.false in omega arith) r
