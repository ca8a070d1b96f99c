use Rattle.std.proofs.Common.{◌∙◌}
use Rattle.ht_api.specs.Replies.{answer_data}
use Rattle.ht_api.proofs.Going.{text_is}
use Rattle.ht_api.proofs.replies.write.Goals as goal

pub returns-else-is_err-clause-text : goal.returns-else-is_err-clause-text
returns-else-is_err-clause-text c =
    text_is c.put_answer-put.result (answer_data c.args.answer.now) c.new-writer.result c.put_answer-put.new.writer c.give_back.new.self.items c.put_answer-put.ensures.puts
    (c.new-writer.ensures.before ∙ c.lend.ensures.items ∙ c.requires) c.new-writer.ensures.tokens (c.give_back.ensures.items ∙ c.into_inner.ensures.items)
