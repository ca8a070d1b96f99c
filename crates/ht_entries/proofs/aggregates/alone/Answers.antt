use Rattle.std.proofs.Common.{refl}
use Rattle.ht_entries.proofs.Words.{other}
use Rattle.ht_entries.proofs.aggregates.alone.Goals as goal

pub returns-in_default : goal.returns-in_default
returns-in_default c =
    let not = c.in_default in
    rw (
      other not.not-concat,
      other not.not-mostFrequent,
      other not.not-leastFrequent,
      other not.not-and,
      other not.not-or,
      other not.not-min,
      other not.not-max,
      other not.not-sum,
      other not.not-avg,
    ) refl
