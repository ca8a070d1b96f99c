use Rattle.ht_codec.proofs.Places.{refusal_inside}
use Rattle.ht_codec.proofs.laws.refusals_stand_inside.Goals as goal

pub returns : goal.returns
returns c = refusal_inside
