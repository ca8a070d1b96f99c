use Rattle.std.proofs.Common.{[], drop}
use Rattle.ht_api.specs.Contents.{rows_of}
use Rattle.ht_api.specs.Writing.{Going, rows_then}
use Rattle.ht_api.proofs.contents.put_members.Given as goal

abbrev pub invariant-loop-key : goal.invariant-loop-key
invariant-loop-key l = Going l.fn.writer l.writer (rows_then (rows_of l.members) []) (rows_then (rows_of (drop l.key-index l.members)) [])
