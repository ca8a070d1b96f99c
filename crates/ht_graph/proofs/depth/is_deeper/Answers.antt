use Rattle.std.proofs.Common.{◌≡◌, ◌∙◌, arith}
use Rattle.ht_graph.proofs.Chains.{deep, first_round, next_round}
use Rattle.ht_graph.proofs.depth.is_deeper.Goals as goal

pub loop-init : goal.loop-init
loop-init g c = c.in_ok-long.ensures.items_if_clones_equal (λ y same. same) ∙ first_round (g.G.Graph.next c.args.graph.now) (g.G.Graph.count c.args.graph.now) c.requires c.count.result c.count.ensures

pub loop-preserved : goal.loop-preserved
loop-preserved g c = next_round (g.G.Graph.next c.args.graph.now) (g.G.Graph.count c.args.graph.now) c.requires c.loop.counter c.deref.result.now c.in_ok-long-2.long.items (c.deref.ensures.value ∙ c.loop.invariant) c.in_ok-long-2.ensures

pub returns : goal.returns
returns g c =
    let next = g.G.Graph.next c.args.graph.now in
    let count = g.G.Graph.count c.args.graph.now in
    let last = next_round next count c.requires c.loop.counter c.deref-2.result.now c.in_ok-long-3.long.items (c.deref-2.ensures.value ∙ c.loop.invariant) c.in_ok-long-3.ensures in
    let past : c.loop.counter ≡ c.args.most = omega (arith, c.loop-test.false, c.loop.auto.counter-end) in
    rw (c.is_any_marked.ensures, c.deref-3.ensures.value, last, past) (deep next count c.requires c.args.most)
