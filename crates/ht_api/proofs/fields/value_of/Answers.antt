use Rattle.ht_api.proofs.JsonIn.{json_none, json_value}
use Rattle.ht_api.proofs.fields.value_of.Goals as goal

pub returns-in-Ok-clause-ok : goal.returns-in-Ok-clause-ok
returns-in-Ok-clause-ok c = json_value c.args.body.now _ c.requires c.in-Ok.ensures.ok.0 c.in-Ok.ensures.ok.1

pub returns-else-is_memory-clause-err : goal.returns-else-is_memory-clause-err
returns-else-is_memory-clause-err c =
    json_none c.args.body.now c.requires (c.in-Err.ensures.err (λ m. let h = c.if-is_memory.ensures.1 m in cc))
