use Rattle.std.proofs.Common.{refl}
use Rattle.toml.specs.View.{table_view}
use Rattle.ht_toml.proofs.PublicLaws.{misshapen_least}
use Rattle.ht_models.proofs.Shapes.{least_misshapen, none_misshapen, read_whole}
use Rattle.ht_models.proofs.entries.entries_of.Goals as goal

pub returns-in-Ok-clause-passes : goal.returns-in-Ok-clause-passes
returns-in-Ok-clause-passes c =
    let ms = table_view c.args.document.now in
    none_misshapen ms _ (read_whole ms _ _ c.in-Some.ensures.some.0 c.in-Some.ensures.some.1 c.in-Ok.ensures.all)

pub returns-in-Err-Misshapen-clause-passes : goal.returns-in-Err-Misshapen-clause-passes
returns-in-Err-Misshapen-clause-passes c =
    let place = c.in-Err-Misshapen.place in
    let first = misshapen_least _ place _ c.in-Err-Misshapen.field-0-is c.in-Err-Misshapen.ensures.passes in
    λ _. (place, refl, least_misshapen (table_view c.args.document.now) _ place c.in-Some.ensures.some.0 c.in-Some.ensures.some.1 first)
