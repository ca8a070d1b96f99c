use Rattle.std.proofs.Common.{inr, ap, sym, ◌∙◌, refl}
use Rattle.ht_base.specs.Records.{record_of}
use Rattle.ht_desk.specs.Replaying.{TextsOf}
use Rattle.ht_desk.proofs.beginning.compare_opening.Goals as goal

pub returns-then-not-are_equal-clause-fault : goal.returns-then-not-are_equal-clause-fault
returns-then-not-are_equal-clause-fault c =
    inr (
      record { models = c.in-Opening.of_models.items; people = c.in-Opening.of_people.items },
      ap record_of c.in-Opening.is,
      (λ e. c.are_equal.ensures.apart c.if-not-are_equal.true (sym (c.as_slice.ensures ∙ ap (λ (t : TextsOf). t.models) e))),
      refl,
    )

pub returns-then-not-are_equal-2-clause-fault : goal.returns-then-not-are_equal-2-clause-fault
returns-then-not-are_equal-2-clause-fault c =
    inr (
      record { models = c.in-Opening.of_models.items; people = c.in-Opening.of_people.items },
      ap record_of c.in-Opening.is,
      (λ e. c.are_equal-2.ensures.apart c.if-not-are_equal-2.true (sym (c.as_slice-2.ensures ∙ ap (λ (t : TextsOf). t.people) e))),
      refl,
    )
