use Rattle.std.specs.Arc.{arc_value}
use Rattle.ht_tree.proofs.Cloning.{cloned}
use Rattle.ht_tree.proofs.comments.Comments.copy.Goals as goal

pub loop-comment-preserved : goal.loop-comment-preserved
loop-comment-preserved c = cloned arc_value c.deref-comment-items.result.now c.loop-comment.items.items c.push.new.self.items c.args.self.now c.loop-comment.comment-index c.comment-item.result c.in_ok-try_clone.field-0 (rw c.deref-comment-items.ensures.value c.self.view_is) c.loop-comment.invariant c.loop-comment-test.true c.comment-item.is c.in_ok-try_clone.ensures c.in_ok-push.ensures.items
