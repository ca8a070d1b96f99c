use Rattle.ht_tree.proofs.Places.{none_of_fewer, popped_tasks}
use Rattle.ht_tree.proofs.puts.Puts.pop.Goals as goal

pub invariant_of-self-2 : goal.invariant_of-self-2
invariant_of-self-2 c =
    let left = c.pop.new.self.items in
    let rows = c.self.inside.rows.items in
    record {
      others = popped_tasks left c.in_ok-row.row rows c.in_ok-row.ensures.items c.self.inside.others c.self.invariant.others c.pop-2.result c.pop-2.new.self c.pop-2.ensures;
      highest = none_of_fewer c.self.inside.highest left c.in_ok-row.row rows c.in_ok-row.ensures.items c.self.invariant.highest;
    }
