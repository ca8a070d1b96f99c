use Rattle.ht_compose.specs.Items.{Does}
use Rattle.ht_compose.proofs.Determined.{determined}
use Rattle.ht_compose.proofs.Ending.{first_ends, one_behind_the_other, one_end}
use Rattle.ht_compose.proofs.laws.laws_of_the_agenda.Goals as goal

pub returns-clause-determined : goal.returns-clause-determined
returns-clause-determined c = determined

pub returns-clause-one : goal.returns-clause-one
returns-clause-one c = λ at. one_end (Does at) (determined at)

pub returns-clause-behind : goal.returns-clause-behind
returns-clause-behind c = λ at. one_behind_the_other (Does at)

pub returns-clause-first : goal.returns-clause-first
returns-clause-first c = λ at. first_ends (Does at)
