use Rattle.std.proofs.Common.{◌≡◌, drop}
use Rattle.ht_outside.specs.Replays.{marked_by}
use Rattle.ht_outside.proofs.crash_images.mark.Given as goal

abbrev pub invariant-loop-call : goal.invariant-loop-call
invariant-loop-call l = marked_by l.file.items (drop l.call-index l.calls) ≡ marked_by l.initial.file.items l.calls
