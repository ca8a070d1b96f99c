use Rattle.std.proofs.Common.{◌≡◌, drop}
use Rattle.ht_finding.specs.Giving.{unfit}
use Rattle.ht_finding.proofs.giving.unfit.Given as goal

abbrev pub invariant-loop-part : goal.invariant-loop-part
invariant-loop-part l = unfit l.people l.required l.parts l.given ≡ unfit l.people l.required (drop l.part-index l.parts) l.given
