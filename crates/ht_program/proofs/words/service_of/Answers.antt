use Rattle.ht_program.proofs.words.service_of.Goals as goal

pub returns-in_default-clause-none : goal.returns-in_default-clause-none
returns-in_default-clause-none c = λ s is. c.in_default.ensures.none s.port is.port

pub returns-in_default-number_of-clause-none : goal.returns-in_default-number_of-clause-none
returns-in_default-number_of-clause-none c = λ s is. c.in_default-number_of.ensures.none s.workers is.workers

pub returns-in_default-number_of-2-clause-none : goal.returns-in_default-number_of-2-clause-none
returns-in_default-number_of-2-clause-none c = λ s is. c.in_default-number_of-2.ensures.none s.tick is.tick
