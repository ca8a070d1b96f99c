use Rattle.std.proofs.Common.{◌≡◌}
use Rattle.matchit.specs.Params.{walk}
use Rattle.ht_api.specs.Routes.{nth_of}
use Rattle.ht_api.specs.Table.{values_of}
use Rattle.ht_api.proofs.Ascii.{AreTexts}
use Rattle.ht_api.proofs.routes.part.Given as goal

abbrev pub invariant-loop-value : goal.invariant-loop-value
invariant-loop-value l = record {
  part : nth_of l.fn.at (values_of (walk l.params.pattern.now l.params.text.now l.params.path.now l.params.names.now 0 0)) ≡ nth_of l.left (values_of l.value-iterator);
  texts : AreTexts l.value-iterator;
}
