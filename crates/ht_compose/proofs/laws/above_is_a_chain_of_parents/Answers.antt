use Rattle.ht_compose.proofs.ChainsAbove.{above_is_a_chain}
use Rattle.ht_compose.proofs.laws.above_is_a_chain_of_parents.Goals as goal

pub returns : goal.returns
returns c = λ u above task row sound there. above_is_a_chain u sound above task row there
