use Rattle.std.proofs.Common.{◌<◌, ◌∷◌, [], arith, get_or, length, length-append}
use Rattle.std.proofs.lemmas.Option.{slice_get-get_or}
use Rattle.ht_graph.proofs.Meeting.{marked_once, met_again, met_newly}
use Rattle.ht_graph.proofs.walking.meet.Goals as goal
use Rattle.ht_graph.proofs.walking.meet.Goals.{then-not-met-place+in_ok-push, else-not-met-place}

pub loop-place-preserved : goal.loop-place-preserved
loop-place-preserved c =
    let places = c.args.places.now in
    let i = c.loop-place.place-index in
    let m = get_or places i 0 in
    let at = slice_get-get_or places i 0 c.loop-place-test.true in
    let low : m < length c.loop-place.met = omega (arith, c.requires i m at) in
    let before = c.loop-place.invariant in
    elim c.if-not-met-place.branch [
      | then-not-met-place+in_ok-push w ↦
          let again = met_newly places i m at c.args.met.now c.loop-place.met c.args.pending.now.items c.loop-place.pending.items before.meets low in
          let fewer = marked_once c.loop-place.met m low w.if-not-met-place.true in
          let more = length-append c.loop-place.pending.items (m ∷ []) in
          let counted = before.counted in
          rw (w.met-is, w.pending-is, w.in_ok-push.ensures.items) (record { meets = again; counted = omega arith })
      | else-not-met-place w ↦
          rw (w.met-is, w.pending-is) (record { meets = met_again places i m at c.args.met.now c.loop-place.met c.args.pending.now.items c.loop-place.pending.items before.meets w.if-not-met-place.false; counted = before.counted })
    ]
