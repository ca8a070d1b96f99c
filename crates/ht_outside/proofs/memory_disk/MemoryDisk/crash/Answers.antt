use Rattle.std.proofs.Common.{rules}
use Rattle.ht_outside.proofs.PickLaws.{made_by_pick, made_is_image}
use Rattle.ht_outside.proofs.memory_disk.MemoryDisk.crash.Goals as goal

pub returns-clause-pick : goal.returns-clause-pick
returns-clause-pick c = made_by_pick c.args.pick c.args.self.now c.image_by.ensures.told c.requires c.make.result (search rules)

pub returns-clause-image : goal.returns-clause-image
returns-clause-image c = made_is_image c.args.pick c.args.self.now c.image_by.ensures.told c.requires c.make.result (search rules)
