use Rattle.std.proofs.Common.{refl}
use Rattle.serde_json.proofs.OnLiterals.{serde_json_on_literals}
use Rattle.ht_serve.specs.Texts.{refusal_text}
use Rattle.ht_serve.proofs.texts.head_text.Goals as goal

pub returns : goal.returns
unfolding refusal_text serde_json_on_literals
returns c = refl
