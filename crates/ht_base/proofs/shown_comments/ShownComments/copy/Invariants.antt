use Rattle.std.proofs.Common.{◌≡◌, take}
use Rattle.ht_base.proofs.shown_comments.ShownComments.copy.Given as goal

abbrev pub invariant-loop-comment : goal.invariant-loop-comment
invariant-loop-comment l = l.items.items ≡ take l.comment-index l.self
