use Rattle.std.proofs.Common.{refl, inl, inr}
use Rattle.ht_server.proofs.top_call.serve_office.Goals as goal

pub returns-in-Ok-clause-office : goal.returns-in-Ok-clause-office
returns-in-Ok-clause-office g c = λ unread. c.serve_texts.ensures.office _ _ unread c.in-Ok.ensures.reads c.in-Ok.ensures.asks
