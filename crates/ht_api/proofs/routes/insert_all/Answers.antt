use Rattle.std.proofs.Common.{arith}
use Rattle.ht_api.proofs.Inserting.{one_more}
use Rattle.ht_api.proofs.routes.insert_all.Goals as goal

pub loop-text-preserved : goal.loop-text-preserved
loop-text-preserved c = one_more c.args.paths.now _ c.loop-text.text-index c.loop-text.router c.insert.new.self _ _ (omega arith) c.loop-text.invariant c.in_ok-insert.ensures
