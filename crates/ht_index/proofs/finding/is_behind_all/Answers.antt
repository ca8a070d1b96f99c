use Rattle.std.proofs.Common.{◌<◌, ◌-◌, get_or, length, arith}
use Rattle.std.proofs.lemmas.Option.{slice_get-get_or}
use Rattle.std.proofs.lemmas.Bool.Decides.{nat_tests}
use Rattle.ht_index.proofs.Places.{behind_all}
use Rattle.ht_index.proofs.finding.is_behind_all.Goals as goal

pub returns-else-is_empty : goal.returns-else-is_empty
returns-else-is_empty c =
    let tasks = c.args.tasks.now in
    let some = c.if-is_empty.ensures in
    let within : length tasks - 1 < length tasks = grind (arith, nat_tests) in
    λ is. behind_all c.args.task (get_or tasks (length tasks - 1) (record { 0 = 0 })) tasks (length tasks - 1) c.requires (slice_get-get_or tasks (length tasks - 1) (record { 0 = 0 }) within) (omega arith) (grind (arith, nat_tests))
