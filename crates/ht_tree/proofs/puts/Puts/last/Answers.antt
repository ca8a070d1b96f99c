use Rattle.std.proofs.Common.{None, Some, sym, ◌∙◌}
use Rattle.ht_tree.proofs.Places.{last_there}
use Rattle.ht_tree.proofs.puts.Puts.last.Goals as goal

pub returns-in-Some : goal.returns-in-Some
returns-in-Some c =
    let there = last_there c.args.task.0 c.args.self.now (Some c.in-Some.place) (sym c.in-Some.ensures) in
    c.get.ensures ∙ there.1 ∙ sym there.2

pub returns-in-None : goal.returns-in-None
returns-in-None c = sym (last_there c.args.task.0 c.args.self.now None (sym c.in-None.ensures))
