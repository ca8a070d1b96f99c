use Rattle.std.proofs.Common.{map}
use Rattle.std.proofs.lemmas.List.{map-append}
use Rattle.std.proofs.lemmas.List.Elements.{All-push}
use Rattle.std.proofs.lemmas.Result.{err_from_is_err_and}
use Rattle.ht_models.specs.Expressions.{IsRefused, of_escalation}
use Rattle.ht_models.specs.Kinded.{Escalates}
use Rattle.ht_models.specs.Reading.{IsEscalation}
use Rattle.ht_models.specs.Shown.{escalation_of}
use Rattle.ht_models.proofs.Among.{one_at}
use Rattle.ht_models.proofs.Zips.{zip_more}
use Rattle.ht_models.proofs.reading.escalations_of.Goals as goal

pub returns-in_err-escalation-clause-refused : goal.returns-in_err-escalation-clause-refused
returns-in_err-escalation-clause-refused c =
    let p = err_from_is_err_and c.from_residual.result c.from_residual.ensures.1 in
    rw (p.1, p.2) (λ some. one_at (IsRefused c.args.kinds.now) of_escalation c.args.texts.now c.loop-text.text-index c.text-item.result c.loop-text-test.true c.text-item.is (c.in_err-escalation.ensures.refused some))

pub loop-text-preserved : goal.loop-text-preserved
loop-text-preserved c = record {
  read =
      rw (c.in_ok-push.ensures.items, map-append)
      (zip_more (IsEscalation c.args.kinds.now) c.args.texts.now c.loop-text.text-index (map escalation_of c.loop-text.escalations.items) c.text-item.result (escalation_of c.in_ok-escalation.field-0) c.loop-text-test.true c.text-item.is c.loop-text.invariant.read c.in_ok-escalation.ensures.ok);
  kinds = rw c.in_ok-push.ensures.items (All-push (Escalates c.args.kinds.now) c.loop-text.escalations.items c.in_ok-escalation.field-0 c.loop-text.invariant.kinds c.in_ok-escalation.ensures.kinds);
}
