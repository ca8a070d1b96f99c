use Rattle.std.proofs.Common.{[], drop}
use Rattle.ht_api.specs.Contents.{part_rows}
use Rattle.ht_api.specs.Writing.{Going, rows_then}
use Rattle.ht_api.proofs.contents.put_part_members.Given as goal

abbrev pub invariant-loop-name : goal.invariant-loop-name
invariant-loop-name l = Going l.fn.writer l.writer (rows_then (part_rows l.parts) []) (rows_then (part_rows (drop l.name-index l.parts)) [])
