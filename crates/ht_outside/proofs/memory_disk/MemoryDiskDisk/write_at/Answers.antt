use Rattle.ht_outside.proofs.ImageLaws.{write_holds, write_follows, write_keeps, write_makes}
use Rattle.ht_outside.proofs.memory_disk.MemoryDiskDisk.write_at.Goals as goal

pub returns-clause-written : goal.returns-clause-written
returns-clause-written c = write_holds c.args.self.now c.store.new.self c.args.at c.args.piece.now c.store.result c.store.ensures.done

pub returns-clause-crash : goal.returns-clause-crash
returns-clause-crash c = write_follows c.args.self.now c.store.new.self c.args.at c.args.piece.now c.store.ensures.told c.store.result c.store.ensures.done

pub returns-clause-each : goal.returns-clause-each
returns-clause-each c = write_keeps c.args.self.now c.store.new.self c.args.at c.args.piece.now c.store.result c.store.ensures.done

pub returns-clause-makes : goal.returns-clause-makes
returns-clause-makes c = write_makes c.args.self.now c.store.new.self c.args.at c.args.piece.now c.store.result c.store.ensures.done
