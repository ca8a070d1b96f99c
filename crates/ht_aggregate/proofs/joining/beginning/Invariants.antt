use denote.Shadow.{shadow}
use denote.Text.{Utf8}
use Rattle.std.proofs.Common.{◌≡◌, ◌++◌, drop}
use Rattle.std.specs.Prelude.{string_bytes}
use Rattle.ht_aggregate.specs.Given.{texts}
use Rattle.ht_aggregate.specs.Joining as spec
use Rattle.ht_aggregate.proofs.Pieces.{further}
use Rattle.ht_aggregate.proofs.joining.beginning.Given as goal

abbrev pub invariant-loop-value : goal.invariant-loop-value
invariant-loop-value l =
    shadow (Utf8 l.between)
    × (string_bytes l.joined ++ further l.between l.delimiter (texts (drop l.value-index l.values)) ≡ spec.joined l.delimiter (texts l.values))
