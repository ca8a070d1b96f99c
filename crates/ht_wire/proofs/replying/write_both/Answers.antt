use Rattle.ht_wire.proofs.Written.{first_write, second_write}
use Rattle.ht_wire.proofs.replying.write_both.Goals as goal

pub returns-in_err-write-clause-written : goal.returns-in_err-write-clause-written
returns-in_err-write-clause-written g c = first_write _ _ c.args.first.now c.args.second.now _ c.from_residual.ensures.0 c.in_err-write.ensures.bytes

pub returns-clause-written : goal.returns-clause-written
returns-clause-written g c = second_write _ _ _ c.args.first.now c.args.second.now _ c.in_ok-write.ensures.bytes c.write-2.ensures.bytes
