use Rattle.std.proofs.Common.{◌∙◌}
use Rattle.ht_compose.proofs.SubRows.{made_among}
use Rattle.ht_compose.proofs.making.is_made.Goals as goal
use Rattle.ht_tree.specs.Plans.{planned}

pub returns : goal.returns
returns c =
    let u = planned c.args.tables.now.tables c.args.plan.now in
    c.has_of_entry.ensures ∙ made_among u c.requires.plan.sound c.args.task.0 c.deref.result.now (c.deref.ensures.value ∙ c.in_ok-subs.ensures) c.args.entry
