use Rattle.std.proofs.Common.{arith, false, ℕ, Bool, sym}
use Rattle.std.specs.List.{list_any}
use Rattle.std.specs.Prelude.{slice_index_or}
use Rattle.std.proofs.lemmas.List.FromFn.{map-range_with_len_more}
use Rattle.ht_graph.proofs.depth.longer.Goals as goal

pub loop-place-preserved : goal.loop-place-preserved
loop-place-preserved g c =
    let goes_on : ℕ → Bool = λ place. list_any (λ to. slice_index_or c.args.long.now to false) (g.G.Graph.next c.args.graph.now place) in
    let i = c.loop-place.place in
    rw (c.in_ok-push.ensures.items, c.loop-place.invariant, c.is_any.ensures, c.next.ensures) (sym (map-range_with_len_more goes_on 0 i i (omega arith)))
