use Rattle.ht_desk.proofs.Underlying.{desk_behind}
use Rattle.ht_desk.proofs.laws.a_history_of_a_desk_is_one_of_the_machine.Goals as goal

pub returns : goal.returns
returns c = desk_behind
