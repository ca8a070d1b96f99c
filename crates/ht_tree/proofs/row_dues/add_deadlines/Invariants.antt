use Rattle.std.proofs.Common.{◌≡◌, ◌++◌, drop, map}
use Rattle.ht_models.specs.Shown.{deadline_of}
use Rattle.ht_tree.specs.RowDues.{deadline_dues}
use Rattle.ht_tree.proofs.row_dues.add_deadlines.Given as goal

abbrev pub invariant-loop-place : goal.invariant-loop-place
invariant-loop-place l = l.dues.items ++ deadline_dues l.row l.place (map deadline_of (drop l.place l.deadlines)) ≡ (l.fn).dues.items ++ deadline_dues l.row 0 (map deadline_of l.deadlines)
