use Rattle.std.proofs.Common.{◌-◌}
use Rattle.ht_due.specs.Blocks.{IsIn}
use Rattle.ht_due.proofs.blocks.block_of.Given as goal

abbrev pub invariant-loop-high : goal.invariant-loop-high
invariant-loop-high l = IsIn l.due l.blocks l.low l.high

abbrev pub decreases-loop-high : goal.decreases-loop-high
decreases-loop-high l = l.high - l.low
