use Rattle.std.proofs.Common.{◌∷◌, [], map}
use Rattle.std.specs.Vec.Iter.{into_iter_items}
use Rattle.std.proofs.lemmas.List.{append_assoc, map-append}
use Rattle.std.proofs.lemmas.List.Elements.{All-push}
use Rattle.std.proofs.lemmas.Result.{err_from_is_err_and}
use Rattle.ht_models.specs.Expressions.{IsRefused, of_finish}
use Rattle.ht_models.specs.Kinded.{HasTruth}
use Rattle.ht_models.specs.Reading.{IsFinish}
use Rattle.ht_models.specs.Shown.{finish_of}
use Rattle.ht_models.proofs.Among.{one_behind}
use Rattle.ht_models.proofs.Zips.{zip_push}
use Rattle.ht_models.proofs.reading.finishes_of.Goals as goal

pub returns-in_err-finish-clause-refused : goal.returns-in_err-finish-clause-refused
returns-in_err-finish-clause-refused c =
    let p = err_from_is_err_and c.from_residual.result c.from_residual.ensures.1 in
    rw (p.1, p.2, ← c.loop-text.invariant.all, c.in-Some.ensures.steps.0)
    (λ some. one_behind (IsRefused c.args.kinds.now) of_finish c.loop-text.yielded c.in-Some.text (into_iter_items c.next.new.self) (c.in_err-finish.ensures.refused some))

pub loop-text-preserved : goal.loop-text-preserved
loop-text-preserved c = record {
  next = tt;
  ends = tt;
  all = rw (append_assoc c.loop-text.yielded (c.in-Some.text ∷ []), ← c.in-Some.ensures.steps.0) c.loop-text.invariant.all;
  read =
      rw (c.in_ok-push.ensures.items, map-append)
      (zip_push (IsFinish c.args.kinds.now) c.loop-text.yielded (map finish_of c.loop-text.finishes.items) c.in-Some.text (finish_of c.in_ok-finish.field-0) c.loop-text.invariant.read c.in_ok-finish.ensures.ok);
  kinds = rw c.in_ok-push.ensures.items (All-push (HasTruth c.args.kinds.now) c.loop-text.finishes.items c.in_ok-finish.field-0 c.loop-text.invariant.kinds c.in_ok-finish.ensures.kinds);
}
