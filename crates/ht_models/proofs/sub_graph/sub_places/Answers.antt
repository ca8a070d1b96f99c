use Rattle.std.proofs.Common.{◌≡◌, ◌∙◌, append-nil, ap, sym}
use Rattle.ht_base.specs.Places.{place_in}
use Rattle.ht_entries.specs.SubEntries.{SubEntry}
use Rattle.ht_models.proofs.SubPlaces.{found_more}
use Rattle.ht_models.proofs.sub_graph.sub_places.Goals as goal
use Rattle.ht_models.proofs.sub_graph.sub_places.Goals.{in-Some+in_ok-push, in_default}

pub loop-sub-preserved : goal.loop-sub-preserved
loop-sub-preserved c = λ names index.
    let subs = c.args.entry.now.subs in
    let s = c.sub-item.result in
    let same : c.deref-sub-items.result.now ≡ subs = c.deref-sub-items.ensures.value ∙ ap (λ e. e.subs) c.entry.view_is in
    let here = index c.sub.inside.model ∙ ap (λ (x : SubEntry). place_in x.model names) c.sub.view_is in
    let more = found_more names subs c.loop-sub.sub-index s c.loop-sub.below.items c.match-get.below.items (rw (← same) c.loop-sub-test.true) (rw (← same) c.sub-item.is) (c.loop-sub.invariant names index) in
    elim c.match-get.branch [
      | in-Some+in_ok-push w ↦ more _ (w.in-Some.ensures.value ∙ here) (ap (λ v. v.items) w.below-is ∙ w.in_ok-push.ensures.items)
      | in_default w ↦ more _ (w.in_default.ensures.value ∙ here) (ap (λ v. v.items) w.below-is ∙ sym (append-nil _))
    ]
