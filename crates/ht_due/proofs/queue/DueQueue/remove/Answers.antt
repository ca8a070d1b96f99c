use Rattle.std.proofs.Common.{◌≡◌, ◌+◌, length, ap, sym, ◌∙◌, arith}
use Rattle.ht_due.specs.Blocks.{joined}
use Rattle.ht_due.proofs.Changing.{length_without, stays}
use Rattle.ht_due.proofs.queue.DueQueue.remove.Goals as goal

pub invariant_of-self : goal.invariant_of-self
invariant_of-self c =
    let kept = c.self.invariant in
    let old = joined c.self.inside.blocks.items in
    let all = c.take-is_there.ensures.all in
    let one = c.take-is_there.ensures.capacity in
    let two = c.take-is_there.ensures.free_capacity in
    let less : length (joined c.take-is_there.new.blocks.items) + 1 ≡ length old = ap (λ l. length l + 1) c.take-is_there.ensures.dues ∙ length_without old c.args.due (sym c.take-is_there.ensures.found ∙ c.if-is_there.true) kept.blocks.ascend in
    let count = kept.count in
    let limit = kept.limit in
    let low = kept.capacity in
    let free_low = kept.free_capacity in
    record {
      blocks = c.take-is_there.ensures.blocks;
      count = omega arith;
      limit = omega arith;
      enough = λ still. let enough = kept.enough still in omega arith;
      capacity = omega arith;
      free_capacity = omega arith;
    }

pub invariant_of-self-else-is_there : goal.invariant_of-self-else-is_there
invariant_of-self-else-is_there c =
    let kept = c.self.invariant in
    let old = joined c.self.inside.blocks.items in
    let all = c.take-is_there.ensures.all in
    let one = c.take-is_there.ensures.capacity in
    let two = c.take-is_there.ensures.free_capacity in
    let same : length (joined c.take-is_there.new.blocks.items) ≡ length old = ap length (c.take-is_there.ensures.dues ∙ stays old c.args.due (sym c.take-is_there.ensures.found ∙ c.if-is_there.false)) in
    let count = kept.count in
    let limit = kept.limit in
    let low = kept.capacity in
    let free_low = kept.free_capacity in
    record {
      blocks = c.take-is_there.ensures.blocks;
      count = omega arith;
      limit = omega arith;
      enough = λ still. let enough = kept.enough still in omega arith;
      capacity = omega arith;
      free_capacity = omega arith;
    }
