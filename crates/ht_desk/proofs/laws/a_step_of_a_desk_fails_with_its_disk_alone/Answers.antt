use Rattle.ht_desk.proofs.Ended.{is_certain, same_limit, stays_or_failed}
use Rattle.ht_desk.proofs.laws.a_step_of_a_desk_fails_with_its_disk_alone.Goals as goal

pub returns : goal.returns
returns c = record { limit = same_limit; faults = stays_or_failed; certain = is_certain }
