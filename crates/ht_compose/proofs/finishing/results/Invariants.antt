use Rattle.std.proofs.Common.{take}
use Rattle.ht_compose.specs.Finding.{rows_of}
use Rattle.ht_compose.specs.Finishes.{Sets}
use Rattle.ht_compose.proofs.finishing.results.Given as goal
use Rattle.ht_tree.specs.Plans.{planned}

abbrev pub invariant-loop-setting : goal.invariant-loop-setting
invariant-loop-setting l = Sets (rows_of (planned l.tables.tables l.plan) l.subs) (take l.setting-index l.settings) l.initial.output l.output
