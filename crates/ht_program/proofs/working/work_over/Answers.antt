use Rattle.ht_program.proofs.working.work_over.Goals as goal

pub returns-in-Ok : goal.returns-in-Ok
returns-in-Ok g c = (c.in-Ok.desk, c.open.new.disk, rw (c.models.ensures, c.people.ensures) at c.in-Ok.ensures.opens, c.work_at.ensures)
