use Rattle.ht_load.proofs.Histories.{Goes}
use Rattle.ht_load.proofs.loading.load.Given as goal

abbrev pub invariant-loop-k : goal.invariant-loop-k
invariant-loop-k g l = Goes g.D.Disk l.fn.seed l.k l.draws.x l.fn.desk l.desk l.fn.disk l.disk l.answered
