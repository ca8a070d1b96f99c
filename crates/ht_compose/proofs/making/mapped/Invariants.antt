use Rattle.std.proofs.Common.{◌≡◌, drop, filter_map}
use Rattle.ht_base.specs.Values.{updated}
use Rattle.ht_compose.specs.Items.{mapped}
use Rattle.ht_compose.proofs.MappedInputs.{mapped_value}
use Rattle.ht_compose.proofs.making.mapped.Given as goal

-- with the values of the rest
abbrev pub invariant-loop-part : goal.invariant-loop-part
invariant-loop-part l = updated l.values (filter_map (mapped_value l.input) (drop l.part-index l.sub.input)) ≡ mapped l.sub l.input
