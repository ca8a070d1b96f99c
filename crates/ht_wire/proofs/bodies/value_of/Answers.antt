use Rattle.std.proofs.Common.{◌∙◌, ap}
use Rattle.std.specs.Result.{result_ok}
use Rattle.ht_wire.proofs.Lengths.{value_parsed}
use Rattle.ht_wire.proofs.bodies.value_of.Goals as goal

pub returns : goal.returns
returns c = c.ok.ensures.value ∙ ap result_ok (value_parsed c.args.digits.now c.parse.result c.parse.ensures.value.0 c.requires)
