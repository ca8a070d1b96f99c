use Rattle.ht_outside.specs.ByteLaws.{passes}
use Rattle.ht_outside.proofs.memory_disk.copied.Goals as goal

pub returns-clause-bytes : goal.returns-clause-bytes
returns-clause-bytes c = passes c.args.bytes.now (λ k. (c.type_inv.bytes k).fits)
