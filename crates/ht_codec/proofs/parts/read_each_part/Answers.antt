use Rattle.std.proofs.Common.{◌∙◌}
use Rattle.std.proofs.lemmas.Result.{err_from_is_err_and}
use Rattle.ht_codec.specs.Fields.{new_part}
use Rattle.ht_codec.proofs.Loop.{goes_on, ends, is_done}
use Rattle.ht_codec.proofs.LastNames.{behind_all}
use Rattle.ht_codec.proofs.parts.read_each_part.Goals as goal

pub returns-in_err-name : goal.returns-in_err-name
returns-in_err-name c =
    let p = err_from_is_err_and c.from_residual.result c.from_residual.ensures.1 in
    rw (p.1, p.2) (ends new_part c.args.count c.loop.counter c.loop.parts c.args.r.now c.loop.r c.read_part.new.r c.read_part.new.r c.in_err-name.field-0.0 c.loop-test.true c.in_err-name.ensures.gives c.loop.invariant.so_far)

pub push-requires : goal.push-requires
push-requires c = behind_all c.in_ok-name.name c.loop.parts c.in_ok-name.ensures.behind

pub loop-preserved : goal.loop-preserved
loop-preserved c = record {
  so_far = rw (c.in_ok-push.ensures.ok, c.in_ok-name.ensures.gives.1) (goes_on new_part c.args.count c.loop.counter c.loop.parts c.loop.r.whole c.loop.r.left.now (c.in_ok-name.name, c.in_ok-name.scalar) c.read_part.new.r.left.now _ c.loop-test.true c.in_ok-name.ensures.gives.0 c.loop.invariant.so_far);
  whole = c.in_ok-name.ensures.gives.1 ∙ c.loop.invariant.whole;
}

pub returns : goal.returns
returns c = (is_done new_part c.args.count c.loop.counter c.loop.parts c.loop.r.whole c.loop.r.left.now _ c.loop-test.false c.loop.invariant.so_far, c.loop.invariant.whole)
