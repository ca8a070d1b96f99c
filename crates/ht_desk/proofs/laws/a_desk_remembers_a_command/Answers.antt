use Rattle.ht_desk.proofs.Repeated.{desk_remembers}
use Rattle.ht_desk.proofs.laws.a_desk_remembers_a_command.Goals as goal

pub returns : goal.returns
returns c = desk_remembers c.a_command_acts_once.ensures.remembered
