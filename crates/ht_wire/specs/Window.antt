-- What is looked at of a stream for a request's head.
use Rattle.std.specs.Prelude.{ℕ, List, take}
use Rattle.ht_wire.specs.declared.limits.TheConstants.{LONGEST_HEAD}

-- the bytes that are looked at
abbrev pub front : List ℕ → List ℕ
front stream = take LONGEST_HEAD stream
