use Rattle.std.proofs.Common.{map}
use Rattle.std.proofs.lemmas.List.{map-append}
use Rattle.std.proofs.lemmas.List.Elements.{All-push}
use Rattle.std.proofs.lemmas.Result.{err_from_is_err_and}
use Rattle.ht_models.specs.Expressions.{IsRefused, of_deadline}
use Rattle.ht_models.specs.Kinded.{Ends}
use Rattle.ht_models.specs.Reading.{IsDeadline}
use Rattle.ht_models.specs.Shown.{deadline_of}
use Rattle.ht_models.proofs.Among.{one_at}
use Rattle.ht_models.proofs.Zips.{zip_more}
use Rattle.ht_models.proofs.reading.deadlines_of.Goals as goal

pub returns-in_err-deadline-clause-refused : goal.returns-in_err-deadline-clause-refused
returns-in_err-deadline-clause-refused c =
    let p = err_from_is_err_and c.from_residual.result c.from_residual.ensures.1 in
    rw (p.1, p.2) (λ some. one_at (IsRefused c.args.kinds.now) of_deadline c.args.texts.now c.loop-text.text-index c.text-item.result c.loop-text-test.true c.text-item.is (c.in_err-deadline.ensures.refused some))

pub loop-text-preserved : goal.loop-text-preserved
loop-text-preserved c = record {
  read =
      rw (c.in_ok-push.ensures.items, map-append)
      (zip_more (IsDeadline c.args.kinds.now) c.args.texts.now c.loop-text.text-index (map deadline_of c.loop-text.deadlines.items) c.text-item.result (deadline_of c.in_ok-deadline.field-0) c.loop-text-test.true c.text-item.is c.loop-text.invariant.read c.in_ok-deadline.ensures.ok);
  kinds = rw c.in_ok-push.ensures.items (All-push (Ends c.args.kinds.now) c.loop-text.deadlines.items c.in_ok-deadline.field-0 c.loop-text.invariant.kinds c.in_ok-deadline.ensures.kinds);
}
