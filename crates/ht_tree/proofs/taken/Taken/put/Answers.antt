use Rattle.std.proofs.Common.{rules, ◌≡◌, ◌∙◌}
use Rattle.ht_tree.specs.Passed.{with_place}
use Rattle.ht_tree.proofs.Passed.{placed}
use Rattle.ht_tree.proofs.taken.Taken.put.Goals as goal

pub returns-clause-ok : goal.returns-clause-ok
returns-clause-ok c =
    let is : c.insert.new.self.items ≡ with_place c.args.self.now c.args.place = search rules in
    is ∙ placed c.args.self.now c.args.place c.requires.ascend c.requires.absent
