use Rattle.ht_due.proofs.Ascending.{same_dues}
use Rattle.ht_due.proofs.laws.dues_determine_their_list.Goals as goal

pub returns : goal.returns
returns c = same_dues
