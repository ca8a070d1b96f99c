use Rattle.ht_due.specs.Dues.{lesser, least_of}
use Rattle.std.proofs.Common.{◌≡◌, drop, map}
use Rattle.ht_models.specs.Shown.{deadline_of}
use Rattle.ht_tree.specs.RowDues.{deadline_dues}
use Rattle.ht_tree.proofs.least_dues.least_deadline.Given as goal

abbrev pub invariant-loop-place : goal.invariant-loop-place
invariant-loop-place l = lesser l.least (least_of (deadline_dues l.row l.place (map deadline_of (drop l.place l.deadlines)))) ≡ least_of (deadline_dues l.row 0 (map deadline_of l.deadlines))
