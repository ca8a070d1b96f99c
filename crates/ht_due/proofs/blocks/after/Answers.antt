use Rattle.std.proofs.Common.{sym, ◌∙◌}
use Rattle.ht_due.proofs.Between.{at_place, block_ascends, next_behind, next_there}
use Rattle.ht_due.proofs.blocks.after.Goals as goal

pub after-requires : goal.after-requires
after-requires c = block_ascends c.block_of-place.result c.args.blocks.now c.index-blocks-place.result (at_place c.args.blocks.now c.block_of-place.result c.index-blocks-place.result c.block_of-place.ensures.within c.index-blocks-place.is) c.requires.ascend

pub returns-in-Some : goal.returns-in-Some
returns-in-Some c =
    let b = c.index-blocks-place.result in
    let at = at_place c.args.blocks.now c.block_of-place.result b c.block_of-place.ensures.within c.index-blocks-place.is in
    sym (next_there c.args.due c.in-Some.next c.args.blocks.now c.block_of-place.result b c.block_of-place.ensures at (sym c.after.ensures ∙ c.in-Some.is))

pub returns-in-None : goal.returns-in-None
returns-in-None c =
    let b = c.index-blocks-place.result in
    let at = at_place c.args.blocks.now c.block_of-place.result b c.block_of-place.ensures.within c.index-blocks-place.is in
    c.first_of.ensures ∙ sym (next_behind c.args.due c.args.blocks.now c.block_of-place.result b c.requires c.block_of-place.ensures at (sym c.after.ensures ∙ c.in-None.is))
