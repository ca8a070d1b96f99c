use Rattle.std.proofs.Common.{◌≡◌, drop}
use Rattle.ht_models.specs.Expressions.{kind_among}
use Rattle.ht_models.proofs.declaring.kind_in.Given as goal

abbrev pub invariant-loop-part : goal.invariant-loop-part
invariant-loop-part l = kind_among l.name l.parts ≡ kind_among l.name (drop l.part-index l.parts)
