use Rattle.std.proofs.Common.{drop}
use Rattle.ht_api.specs.Contents.{comments_data}
use Rattle.ht_api.specs.Writing.{Going, comments_left, tokens_of}
use Rattle.ht_api.proofs.contents.put_comments.Given as goal

abbrev pub invariant-loop-comment : goal.invariant-loop-comment
invariant-loop-comment l = Going l.fn.writer l.writer (tokens_of (comments_data l.comments)) (comments_left (drop l.comment-index l.comments))
