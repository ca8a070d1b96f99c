use Rattle.ht_program_tests.proofs.runs.run_on.Goals as goal

pub office_alone-status-requires : goal.office_alone-status-requires
office_alone-status-requires c = record { alone = c.are_alone.ensures.yes c.if-not-are_alone.false }
