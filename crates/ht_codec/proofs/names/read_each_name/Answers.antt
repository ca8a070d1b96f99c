use Rattle.std.proofs.Common.{◌∙◌}
use Rattle.std.proofs.lemmas.Result.{err_from_is_err_and}
use Rattle.ht_codec.specs.Fields.{new_name}
use Rattle.ht_codec.proofs.Loop.{goes_on, ends, is_done}
use Rattle.ht_codec.proofs.names.read_each_name.Goals as goal

pub returns-in_err-name : goal.returns-in_err-name
returns-in_err-name c =
    let p = err_from_is_err_and c.from_residual.result c.from_residual.ensures.1 in
    rw (p.1, p.2) (ends new_name c.args.count c.loop.counter c.loop.names c.args.r.now c.loop.r c.read_new_name.new.r c.read_new_name.new.r c.in_err-name.field-0.0 c.loop-test.true c.in_err-name.ensures c.loop.invariant.so_far)

pub loop-preserved : goal.loop-preserved
loop-preserved c = record {
  so_far = rw (c.in_ok-push.ensures.ok, c.in_ok-name.ensures.1) (goes_on new_name c.args.count c.loop.counter c.loop.names c.loop.r.whole c.loop.r.left.now c.in_ok-name.name c.read_new_name.new.r.left.now _ c.loop-test.true c.in_ok-name.ensures.0 c.loop.invariant.so_far);
  whole = c.in_ok-name.ensures.1 ∙ c.loop.invariant.whole;
}

pub returns : goal.returns
returns c = (is_done new_name c.args.count c.loop.counter c.loop.names c.loop.r.whole c.loop.r.left.now _ c.loop-test.false c.loop.invariant.so_far, c.loop.invariant.whole)
