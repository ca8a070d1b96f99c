use Rattle.std.proofs.Common.{◌∙◌, arith, below_more, inl, inr, refl, sym}
use Rattle.std.proofs.lemmas.Bool.{cases_lt}
use Rattle.std.proofs.lemmas.Option.{slice_get_read}
use Rattle.ht_base.proofs.PublicLaws.{least_here}
use Rattle.ht_models.specs.Refusals.{IsTooMuch}
use Rattle.ht_models.proofs.SubPlaces.{counted_too_large}
use Rattle.ht_models.proofs.TooMuch.{none_past, not_too_much}
use Rattle.ht_models.proofs.limits.first_too_much.Goals as goal
use Rattle.ht_models.proofs.limits.first_too_much.Goals.{then-holds_too_much-via-then-holds_too_much, then-holds_too_much-via-else-holds_too_much+then-is_too_large}

pub returns-then-holds_too_much : goal.returns-then-holds_too_much
returns-then-holds_too_much c =
    let t = c.args.entries.now in
    let i = c.loop-place.place in
    let low = c.loop-place-test.true in
    least_here (IsTooMuch t) i (elim c.then-holds_too_much.branch [
      | then-holds_too_much-via-then-holds_too_much w ↦ inr (inl (c.index-entries-place.result, slice_get_read t _ i _ refl low c.index-entries-place.is, sym c.holds_too_much.ensures ∙ w.if-holds_too_much.true))
      | then-holds_too_much-via-else-holds_too_much+then-is_too_large w ↦ inr (inr (low, sym (counted_too_large t c.args.trees.now c.requires i low) ∙ sym w.is_too_large.ensures ∙ w.if-is_too_large.true))
    ]) c.loop-place.invariant

pub loop-place-preserved : goal.loop-place-preserved
loop-place-preserved c =
    let t = c.args.entries.now in
    let i = c.loop-place.place in
    let low = c.loop-place-test.true in
    below_more _ _ c.loop-place.invariant (not_too_much t i c.index-entries-place.result (slice_get_read t _ i _ refl low c.index-entries-place.is) c.if-entries-gt-MOST_MODELS.false
    (sym c.holds_too_much.ensures ∙ c.if-holds_too_much.false)
    (sym (counted_too_large t c.args.trees.now c.requires i low) ∙ sym c.is_too_large.ensures ∙ c.if-is_too_large.false))

pub returns : goal.returns
returns c = λ p much. elim (cases_lt p c.loop-place.place) [
  | inl low ↦ c.loop-place.invariant p low much
  | inr past ↦ none_past c.args.entries.now p (omega (arith, c.loop-place-test.false)) c.if-entries-gt-MOST_MODELS.false much
]
