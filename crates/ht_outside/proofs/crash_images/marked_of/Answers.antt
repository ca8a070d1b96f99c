use Rattle.std.proofs.Common.{◌∙◌, ap}
use Rattle.ht_outside.specs.Replays.{marked_by}
use Rattle.ht_outside.proofs.CutLaws.{marked_behind}
use Rattle.ht_outside.proofs.crash_images.marked_of.Goals as goal

pub returns : goal.returns
returns c =
    let cut = c.last_sync.ensures.cut c.args.bytes.now in
    c.in_ok-mark.ensures ∙ (ap (marked_by c.in_ok-file.file.items) c.split_at.ensures.back ∙ marked_behind c.args.bytes.now c.args.calls.now c.last_sync.result _ cut c.in_ok-file.ensures)
