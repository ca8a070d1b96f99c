use Rattle.std.proofs.Common.{refl}
use Rattle.serde_json.proofs.OnLiterals.{serde_json_on_literals}
use Rattle.ht_serve.specs.Texts.{refusal_text}
use Rattle.ht_serve.proofs.texts.refused_text.Goals as goal

pub returns-in-431 : goal.returns-in-431
unfolding refusal_text serde_json_on_literals
returns-in-431 c = rw c.in-431.is refl

pub returns-in-501 : goal.returns-in-501
unfolding refusal_text serde_json_on_literals
returns-in-501 c = rw c.in-501.is refl

pub returns-in-413 : goal.returns-in-413
unfolding refusal_text serde_json_on_literals
returns-in-413 c = rw c.in-413.is refl
