use Rattle.std.proofs.Common.{◌≡◌, ℕ, Option, cond, subst, sym}
use Rattle.std.specs.Ordering.{is_eq, nat_cmp}
use Rattle.std.specs.BTreeMap as tree
use Rattle.ht_tree.proofs.Indexing.{index_pop, popped_there, written}
use Rattle.ht_tree.proofs.index.Index.pop.Goals as goal

pub invariant_of-self-in-Some : goal.invariant_of-self-in-Some
invariant_of-self-in-Some c =
    let front = c.pop.new.self.items in
    let x = c.in_ok-task.field-0 in
    let last = c.self.inside.last in
    let n = c.insert.new.self in
    let there = popped_there front x c.self.inside.puts.items last c.in_ok-task.ensures.items c.self.invariant.found in
    let back = written c.insert.result last n x.task c.in-Some.place c.insert.ensures.updates c.insert.ensures.absent there in
    let Q : Option ℕ → Type 0 = λ o. (task : ℕ) → tree.get nat_cmp n task ≡ cond (is_eq (nat_cmp x.task task)) o (tree.get nat_cmp last task) in
    index_pop front x c.self.inside.puts.items last n c.in_ok-task.ensures.items c.self.invariant.found c.self.invariant.linked (subst Q (sym c.in-Some.is) back)

pub invariant_of-self-in-None : goal.invariant_of-self-in-None
invariant_of-self-in-None c =
    let front = c.pop.new.self.items in
    let x = c.in_ok-task.field-0 in
    let last = c.self.inside.last in
    let n = c.remove.new.self in
    let Q : Option ℕ → Type 0 = λ o. (task : ℕ) → tree.get nat_cmp n task ≡ cond (is_eq (nat_cmp x.task task)) o (tree.get nat_cmp last task) in
    index_pop front x c.self.inside.puts.items last n c.in_ok-task.ensures.items c.self.invariant.found c.self.invariant.linked (subst Q (sym c.in-None.is) c.remove.ensures.updates.0)
