use Rattle.ht_desk.specs.Stepping.{Stands}
use Rattle.ht_desk_bench.proofs.office.step_by.Given as goal

abbrev pub invariant-loop : goal.invariant-loop
invariant-loop g l = Stands g.D.Disk l.desk l.disk

abbrev pub invariant-loop-place : goal.invariant-loop-place
invariant-loop-place g l = Stands g.D.Disk l.desk l.disk
