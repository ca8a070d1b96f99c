use Rattle.std.proofs.Common.{◌≡◌, drop}
use Rattle.ht_outside.specs.Replays.{replayed}
use Rattle.ht_outside.proofs.crash_images.replay.Given as goal

abbrev pub invariant-loop-call : goal.invariant-loop-call
invariant-loop-call l = replayed l.file.items (drop l.call-index l.calls) ≡ replayed l.initial.file.items l.calls
