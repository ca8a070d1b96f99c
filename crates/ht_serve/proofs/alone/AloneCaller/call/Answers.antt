use Rattle.ht_serve.specs.CallLaws.{steps_one}
use Rattle.ht_serve.proofs.alone.AloneCaller.call.Goals as goal

pub returns-clause-made : goal.returns-clause-made
returns-clause-made g c = steps_one _ _ _ _ _ c.step.ensures.relates
