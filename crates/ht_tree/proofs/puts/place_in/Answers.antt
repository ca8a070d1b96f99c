use Rattle.std.proofs.Common.{◌==◌, ap, sym, ◌∙◌}
use Rattle.ht_tree.specs.declared.row.Row.{Row}
use Rattle.ht_tree.proofs.Places.{place_more}
use Rattle.ht_tree.proofs.puts.place_in.Goals as goal
use Rattle.ht_tree.proofs.puts.place_in.Goals.{then-eq, else-eq}

pub loop-place-preserved : goal.loop-place-preserved
loop-place-preserved c =
    let row = c.index-rows-place.result in
    let same = ap (λ (r : Row). r.task.0 == c.args.task.0) (sym c.index-rows-place.is) ∙ sym c.eq.ensures in
    let more = place_more c.args.task.0 c.args.rows.now c.loop-place.place row c.loop-place.last c.eq.result c.loop-place-test.true c.loop-place.invariant same in
    elim c.if-eq.branch [
      | then-eq w ↦ w.last-is ∙ rw w.if-eq.true at more
      | else-eq w ↦ w.last-is ∙ rw w.if-eq.false at more
    ]
