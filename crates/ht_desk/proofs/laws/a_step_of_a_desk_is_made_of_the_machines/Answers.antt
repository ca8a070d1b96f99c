use Rattle.ht_desk.proofs.Turned.{first_moves, second_moves}
use Rattle.ht_desk.proofs.laws.a_step_of_a_desk_is_made_of_the_machines.Goals as goal

pub returns : goal.returns
returns c = record { settles = first_moves; acts = second_moves }
