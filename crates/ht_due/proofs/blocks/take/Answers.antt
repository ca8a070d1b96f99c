use Rattle.std.proofs.Common.{List, ap, sym, subst, ◌∙◌}
use Rattle.ht_due.specs.declared.due.Due.{Due}
use Rattle.ht_due.specs.Blocks.{AreBlocks, joined}
use Rattle.ht_due.proofs.Between.{at_place, block_ascends, has_there, in_same}
use Rattle.ht_due.proofs.Changing.{lost_blocks, lost_dues, lost_few}
use Rattle.ht_due.proofs.blocks.take.Goals as goal

pub take-is_there-requires : goal.take-is_there-requires
take-is_there-requires c =
    let bs = c.args.blocks.now.items in
    let n = c.block_of-place.result in
    let b = c.index_mut.result.now in
    let is = in_same c.args.due c.deref.result.now bs n c.deref.ensures.value c.block_of-place.ensures in
    let at = at_place bs n b is.within c.index_mut.ensures.value in
    block_ascends n bs b at c.requires.blocks.ascend

pub tidy-requires-clause-few : goal.tidy-requires-clause-few
tidy-requires-clause-few c =
    let bs = c.args.blocks.now.items in
    let n = c.block_of-place.result in
    let b = c.index_mut.result.now in
    let is = in_same c.args.due c.deref.result.now bs n c.deref.ensures.value c.block_of-place.ensures in
    let at = at_place bs n b is.within c.index_mut.ensures.value in
    lost_few c.args.due bs n b c.take-is_there.new.self c.requires.blocks at c.take-is_there.ensures.dues

pub returns-clause-dues : goal.returns-clause-dues
returns-clause-dues c =
    let bs = c.args.blocks.now.items in
    let n = c.block_of-place.result in
    let b = c.index_mut.result.now in
    let is = in_same c.args.due c.deref.result.now bs n c.deref.ensures.value c.block_of-place.ensures in
    let at = at_place bs n b is.within c.index_mut.ensures.value in
    ap joined c.tidy.ensures.blocks ∙ lost_dues c.args.due bs n b c.take-is_there.new.self is at c.take-is_there.ensures.dues

pub returns-clause-found : goal.returns-clause-found
returns-clause-found c =
    let bs = c.args.blocks.now.items in
    let n = c.block_of-place.result in
    let b = c.index_mut.result.now in
    let is = in_same c.args.due c.deref.result.now bs n c.deref.ensures.value c.block_of-place.ensures in
    let at = at_place bs n b is.within c.index_mut.ensures.value in
    c.take-is_there.ensures.found ∙ has_there c.args.due bs n b is at

pub returns-clause-blocks : goal.returns-clause-blocks
returns-clause-blocks c =
    let bs = c.args.blocks.now.items in
    let n = c.block_of-place.result in
    let b = c.index_mut.result.now in
    let is = in_same c.args.due c.deref.result.now bs n c.deref.ensures.value c.block_of-place.ensures in
    let at = at_place bs n b is.within c.index_mut.ensures.value in
    let P : List (List Due) → Type 0 = λ l. AreBlocks l in
    subst P (sym c.tidy.ensures.blocks) (lost_blocks c.args.due bs n b c.take-is_there.new.self c.requires.blocks is at c.take-is_there.ensures.dues)
