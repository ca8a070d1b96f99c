use Rattle.std.proofs.Common.{◌≡◌, ◌++◌, drop}
use Rattle.ht_compose.specs.Finding.{rows_of}
use Rattle.ht_compose.specs.Finishes.{values_for}
use Rattle.ht_compose.proofs.finishing.values_for.Given as goal
use Rattle.ht_tree.specs.Plans.{planned}

-- what was found, with the values of the rest
abbrev pub invariant-loop-id : goal.invariant-loop-id
invariant-loop-id l =
    let u = planned l.tables.tables l.plan in
    l.values ++ values_for l.setting.how l.setting.from (rows_of u (drop l.id-index l.subs)) ≡ values_for l.setting.how l.setting.from (rows_of u l.subs)
