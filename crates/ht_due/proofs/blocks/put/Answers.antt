use Rattle.std.proofs.Common.{◌+◌, List, slice_set, ap, sym, subst, ◌∙◌, vec_len}
use Rattle.ht_due.specs.declared.due.Due.{Due}
use Rattle.ht_due.specs.Blocks.{AreBlocks, joined}
use Rattle.ht_due.proofs.Apart.{few_at}
use Rattle.ht_due.proofs.Between.{at_place, block_ascends, has_there, in_same, put_there}
use Rattle.ht_due.proofs.Changing.{over_blocks, over_dues, over_room, within_blocks}
use Rattle.ht_due.proofs.blocks.put.Goals as goal

pub put-requires-clause-ascend : goal.put-requires-clause-ascend
put-requires-clause-ascend c =
    let bs = c.args.blocks.now.items in
    let n = c.block_of-place.result in
    let b = c.index_mut.result.now in
    let is = in_same c.args.due c.deref.result.now bs n c.deref.ensures.value c.block_of-place.ensures in
    let at = at_place bs n b is.within c.index_mut.ensures.value in
    block_ascends n bs b at c.requires.blocks.ascend

pub put-requires-clause-few : goal.put-requires-clause-few
put-requires-clause-few c =
    let bs = c.args.blocks.now.items in
    let n = c.block_of-place.result in
    let b = c.index_mut.result.now in
    let is = in_same c.args.due c.deref.result.now bs n c.deref.ensures.value c.block_of-place.ensures in
    let at = at_place bs n b is.within c.index_mut.ensures.value in
    few_at bs n b at c.requires.blocks.few

pub put-requires-clause-absent : goal.put-requires-clause-absent
put-requires-clause-absent c =
    let bs = c.args.blocks.now.items in
    let n = c.block_of-place.result in
    let b = c.index_mut.result.now in
    let is = in_same c.args.due c.deref.result.now bs n c.deref.ensures.value c.block_of-place.ensures in
    let at = at_place bs n b is.within c.index_mut.ensures.value in
    has_there c.args.due bs n b is at ∙ c.requires.absent

pub push_on-requires-in-Some-clause-room : goal.push_on-requires-in-Some-clause-room
push_on-requires-in-Some-clause-room c =
    let bs = c.args.blocks.now.items in
    let n = c.block_of-place.result in
    let b = c.index_mut.result.now in
    let is = in_same c.args.due c.deref.result.now bs n c.deref.ensures.value c.block_of-place.ensures in
    let at = at_place bs n b is.within c.index_mut.ensures.value in
    over_room c.args.due c.in-Some.last bs n (vec_len c.args.blocks.now + vec_len c.args.free.now) b c.put.new.self c.requires.blocks is at c.in-Some.ensures.last c.in-Some.ensures.full c.requires.absent c.requires.room

pub returns-in-Some-clause-dues : goal.returns-in-Some-clause-dues
returns-in-Some-clause-dues c =
    let bs = c.args.blocks.now.items in
    let n = c.block_of-place.result in
    let b = c.index_mut.result.now in
    let is = in_same c.args.due c.deref.result.now bs n c.deref.ensures.value c.block_of-place.ensures in
    let at = at_place bs n b is.within c.index_mut.ensures.value in
    ap joined c.push_on-in-Some.ensures.blocks ∙ over_dues c.args.due c.in-Some.last bs n b c.put.new.self is at c.in-Some.ensures.last

pub returns-in-Some-clause-blocks : goal.returns-in-Some-clause-blocks
returns-in-Some-clause-blocks c =
    let bs = c.args.blocks.now.items in
    let n = c.block_of-place.result in
    let b = c.index_mut.result.now in
    let is = in_same c.args.due c.deref.result.now bs n c.deref.ensures.value c.block_of-place.ensures in
    let at = at_place bs n b is.within c.index_mut.ensures.value in
    let P : List (List Due) → Type 0 = λ l. AreBlocks l in
    subst P (sym c.push_on-in-Some.ensures.blocks) (over_blocks c.args.due c.in-Some.last bs n b c.put.new.self c.requires.blocks is at c.in-Some.ensures.last c.in-Some.ensures.full)

pub returns-in_default-clause-dues : goal.returns-in_default-clause-dues
returns-in_default-clause-dues c =
    let bs = c.args.blocks.now.items in
    let n = c.block_of-place.result in
    let b = c.index_mut.result.now in
    let is = in_same c.args.due c.deref.result.now bs n c.deref.ensures.value c.block_of-place.ensures in
    let at = at_place bs n b is.within c.index_mut.ensures.value in
    ap (λ x. joined (slice_set bs n x)) c.in_default.ensures.none ∙ put_there c.args.due bs n b is at

pub returns-in_default-clause-blocks : goal.returns-in_default-clause-blocks
returns-in_default-clause-blocks c =
    let bs = c.args.blocks.now.items in
    let n = c.block_of-place.result in
    let b = c.index_mut.result.now in
    let is = in_same c.args.due c.deref.result.now bs n c.deref.ensures.value c.block_of-place.ensures in
    let at = at_place bs n b is.within c.index_mut.ensures.value in
    within_blocks c.args.due bs n b c.put.new.self c.requires.blocks is at c.in_default.ensures.none c.in_default.ensures.few.0 c.in_default.ensures.few.1
