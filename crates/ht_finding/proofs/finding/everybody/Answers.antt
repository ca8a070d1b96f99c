use Rattle.std.proofs.Common.{ℕ, List, ◌∷◌, [], ◌++◌, ap, ◌∙◌}
use Rattle.ht_finding.proofs.Selecting.{all_below, all_push}
use Rattle.ht_finding.proofs.finding.everybody.Goals as goal

pub push-requires : goal.push-requires
push-requires c = rw c.loop-place.invariant (all_below c.loop-place.place)

pub loop-place-preserved : goal.loop-place-preserved
loop-place-preserved c =
    c.in_ok-push.ensures.ok
    ∙ ap (λ (l : List ℕ). l ++ c.loop-place.place ∷ []) c.loop-place.invariant
    ∙ all_push c.loop-place.place
