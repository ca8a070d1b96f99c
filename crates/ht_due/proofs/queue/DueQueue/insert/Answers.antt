use Rattle.std.proofs.Common.{◌≡◌, ◌+◌, ◌≤◌, false, length, ap, ◌∙◌, arith}
use Rattle.ht_due.specs.Blocks.{joined}
use Rattle.ht_due.specs.Dues.{has}
use Rattle.ht_due.specs.Queues.{QueueOf}
use Rattle.ht_due.proofs.Changing.{length_put}
use Rattle.ht_due.proofs.queue.DueQueue.insert.Goals as goal

pub invariant_of-self : goal.invariant_of-self
invariant_of-self c =
    let kept = c.self.invariant in
    let room : c.self.inside.room ≡ (c.args.self.now).spare = ap (λ (q : QueueOf). q.spare) c.self.view_is in
    let some = c.requires.spare in
    let spare : 1 ≤ c.self.inside.room = omega arith in
    let all = c.put.ensures.all in
    let one = c.put.ensures.capacity in
    let two = c.put.ensures.free_capacity in
    let none : has c.args.due (joined c.self.inside.blocks.items) ≡ false = ap (λ (q : QueueOf). has c.args.due q.dues) c.self.view_is ∙ c.requires.absent in
    let more : length (joined c.put.new.blocks.items) ≡ length (joined c.self.inside.blocks.items) + 1 = ap length c.put.ensures.dues ∙ length_put (joined c.self.inside.blocks.items) c.args.due none in
    let count = kept.count in
    let limit = kept.limit in
    let enough = kept.enough spare in
    let low = kept.capacity in
    let free_low = kept.free_capacity in
    record {
      blocks = c.put.ensures.blocks;
      count = omega arith;
      limit = omega arith;
      enough = λ still. omega arith;
      capacity = omega arith;
      free_capacity = omega arith;
    }
