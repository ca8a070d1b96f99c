use Rattle.std.proofs.Common.{ap}
use Rattle.ht_outside.proofs.Flows.{read_moves}
use Rattle.ht_outside.specs.Scripted.{ScriptedSource}
use Rattle.ht_outside.proofs.memory_source.MemorySourceSource.read.Goals as goal

pub returns-clause-bytes : goal.returns-clause-bytes
returns-clause-bytes c = read_moves _ _ _ _ _ _ (ap (λ (s : ScriptedSource). s.flow) c.self.view_is) (rw (c.copy_from-count.auto.into, ← c.as_slice.ensures) c.copy_from-count.ensures.count) (rw (← c.as_slice.ensures) c.copy_from-count.ensures.copied)
