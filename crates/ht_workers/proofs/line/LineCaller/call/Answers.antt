use Rattle.ht_workers.specs.PassLaws.{pass_called}
use Rattle.ht_workers.proofs.line.LineCaller.call.Goals as goal

pub returns-clause-made : goal.returns-clause-made
returns-clause-made g c = pass_called _ _ _ _ _ c.call.result c.requires.stands c.call.ensures.called c.call.ensures.spent
