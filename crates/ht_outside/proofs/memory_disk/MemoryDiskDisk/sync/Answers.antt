use Rattle.ht_outside.proofs.ImageLaws.{failed_keeps, sync_only, sync_keeps, sync_leaves}
use Rattle.ht_outside.proofs.memory_disk.MemoryDiskDisk.sync.Goals as goal

pub returns-clause-durable : goal.returns-clause-durable
returns-clause-durable c = sync_only c.args.self.now c.note_sync.new.self c.note_sync.result c.note_sync.ensures.done

pub returns-clause-file : goal.returns-clause-file
returns-clause-file c = sync_keeps c.args.self.now c.note_sync.new.self c.note_sync.result c.note_sync.ensures.done

pub returns-clause-crash : goal.returns-clause-crash
returns-clause-crash c = sync_leaves c.args.self.now c.note_sync.new.self c.note_sync.ensures.told c.note_sync.result c.note_sync.ensures.done

pub returns-clause-each : goal.returns-clause-each
returns-clause-each c = failed_keeps c.args.self.now c.note_sync.new.self c.note_sync.result c.note_sync.ensures.done
