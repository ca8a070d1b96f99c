use Rattle.std.proofs.Common.{◌≡◌, ◌+◌, ◌≤◌, drop}
use Rattle.ht_toml.specs.Keys.{count}
use Rattle.ht_toml.proofs.values.exactly_one.Given as goal

abbrev pub invariant-loop-is_given : goal.invariant-loop-is_given
invariant-loop-is_given l = record {
  counted : count l.given ≡ l.count + count (drop l.is_given-index l.given);
  few : l.count ≤ l.is_given-index;
}
