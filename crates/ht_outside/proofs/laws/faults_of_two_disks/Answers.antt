use Rattle.ht_outside.proofs.PublicLaws.{one_rose, together_rose}
use Rattle.ht_outside.proofs.laws.faults_of_two_disks.Goals as goal

pub returns : goal.returns
returns c = record { both = together_rose; one = one_rose }
