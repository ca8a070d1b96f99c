use Rattle.std.proofs.Common.{refl}
use Rattle.ht_entries.proofs.Words.{other}
use Rattle.ht_entries.proofs.aggregates.by_percent.Goals as goal

pub returns-in_default : goal.returns-in_default
returns-in_default c = rw (other c.in_default.not-vote, other c.in_default.not-voteOnString) refl
