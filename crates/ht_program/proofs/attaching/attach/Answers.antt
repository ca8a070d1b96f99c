use Rattle.std.proofs.Common.{refl}
use Rattle.ht_program.specs.Attaching.AttachesBoth.{not_first}
use Rattle.ht_program.proofs.attaching.attach.Goals as goal

pub returns-in-Err : goal.returns-in-Err
returns-in-Err g c = not_first c.in-Err.fault refl c.in-Err.ensures refl
