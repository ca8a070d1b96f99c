use Rattle.std.proofs.Common.{subst}
use Rattle.ht_compose.proofs.running.count_models.Goals as goal
use Rattle.ht_models.specs.MappedInputs.{AreMapped}
use Rattle.ht_models.specs.TreeSizes.{AreSized}

pub returns-clause-sized : goal.returns-clause-sized
returns-clause-sized c = subst AreSized c.models.ensures.value c.count-count.ensures.trees

pub returns-clause-mapped : goal.returns-clause-mapped
returns-clause-mapped c = subst AreMapped c.models.ensures.value c.count-count.ensures.inputs
