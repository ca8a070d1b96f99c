use Rattle.ht_outside.proofs.CutLaws.{cut_at_sync, reaches_write}
use Rattle.std.proofs.Common.{arith}
use Rattle.ht_outside.proofs.crash_images.last_sync.Goals as goal

pub returns-in-Sync-clause-cut : goal.returns-in-Sync-clause-cut
returns-in-Sync-clause-cut c bytes = cut_at_sync bytes _ _ _ c.loop-place-test.true c.loop-place.invariant.within c.in-Sync.is (c.loop-place.invariant.reaches bytes)

pub loop-place-preserved : goal.loop-place-preserved
loop-place-preserved c = record {
  within = omega arith;
  reaches = λ bytes. reaches_write bytes _ _ _ _ c.loop-place-test.true c.loop-place.invariant.within c.in_default.is (c.loop-place.invariant.reaches bytes);
}
