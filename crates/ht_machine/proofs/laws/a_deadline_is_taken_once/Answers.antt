use Rattle.ht_machine.proofs.StillTaken.{is_taken, never_again, stays_taken}
use Rattle.ht_machine.proofs.laws.a_deadline_is_taken_once.Goals as goal

pub returns-clause-stays : goal.returns-clause-stays
returns-clause-stays c = λ t e k r after task place numbered d taken. stays_taken t e k r after task place numbered d taken

pub returns-clause-never_again : goal.returns-clause-never_again
returns-clause-never_again c = λ by t after dues task place numbered turn taken. never_again by t after task place dues numbered turn.takings taken

pub returns-clause-taken : goal.returns-clause-taken
returns-clause-taken c = λ by t after dues task place numbered turn among. is_taken by t after task place dues numbered turn.takings among
