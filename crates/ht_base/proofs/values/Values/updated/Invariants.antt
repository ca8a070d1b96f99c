use Rattle.std.proofs.Common.{◌≡◌}
use Rattle.ht_base.specs.Values.{updated}
use Rattle.ht_base.proofs.values.Values.updated.Given as goal

abbrev pub invariant-loop-name : goal.invariant-loop-name
invariant-loop-name l = updated l.fn.self l.fn.given ≡ updated l.values l.name-iterator.rest.items
