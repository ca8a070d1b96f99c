use Rattle.std.proofs.Common.{◌≡◌, ◌++◌, ◌∙◌, List, Bool, ap, drop, length, sym, take}
use Rattle.std.proofs.Math.Seq.{take-append_seam}
use Rattle.ht_graph.proofs.Reaching.{emptied, goes_on, whole}
use Rattle.ht_graph.proofs.walking.reached_from.Goals as goal

pub loop-place-preserved : goal.loop-place-preserved
loop-place-preserved g c =
    let count = g.G.Graph.count c.args.graph.now in
    let next = g.G.Graph.next c.args.graph.now in
    let old : List Bool = c.loop-place.met.items in
    let new : List Bool = c.meet.new.met in
    let many : c.loop-place.met.len ≡ length new = sym (c.meet.auto.met ∙ c.deref_mut.ensures.len) in
    let written : take c.loop-place.met.len (new ++ drop (length new) old) ≡ new = ap (λ n. take n (new ++ drop (length new) old)) many ∙ take-append_seam new (drop (length new) old) in
    let meets = rw (c.next.ensures, c.deref_mut.ensures.value) at c.in_ok-meet.ensures.meets in
    rw written (goes_on count next c.args.from c.in-Some.place old new c.loop-place.pending.items c.pop.new.self.items c.meet.new.pending.items c.loop-place.invariant c.in-Some.ensures.items meets (c.meet.auto.met ∙ ap length c.deref_mut.ensures.value))

pub returns-clause-reached : goal.returns-clause-reached
returns-clause-reached g c =
    let none = emptied c.loop-place.pending.items (sym c.loop-place.pending.ok.0 ∙ c.in_default.ensures.cases.0) in
    whole (g.G.Graph.count c.args.graph.now) (g.G.Graph.next c.args.graph.now) c.args.from c.loop-place.met.items (rw none at c.loop-place.invariant)
