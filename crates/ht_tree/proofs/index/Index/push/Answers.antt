use Rattle.std.proofs.Common.{◌≡◌, ◌∷◌, ◌++◌, [], ℕ, List, length, Some, subst, ap, ◌∙◌, rules}
use Rattle.std.specs.Ordering.{nat_cmp}
use Rattle.std.specs.BTreeMap as tree
use Rattle.ht_tree.specs.declared.index.Put.{Put}
use Rattle.ht_tree.specs.KeptIndex.{tasks_in}
use Rattle.ht_tree.specs.Places.{last_place}
use Rattle.ht_tree.proofs.Indexing.{index_push}
use Rattle.ht_tree.proofs.index.Index.push.Goals as goal

pub invariant_of-self-2 : goal.invariant_of-self-2
invariant_of-self-2 c =
    let puts = c.self.inside.puts.items in
    let x : Put = record { task = c.args.task.0; before = c.in_ok-before.before } in
    let items : c.push_reserved.new.self.items ≡ puts ++ x ∷ [] = c.push_reserved.ensures.items ∙ ap (λ (l : List Put). l ++ x ∷ []) c.in_ok-reserve.ensures.items in
    let place : c.len.result ≡ length puts = search rules in
    let before : x.before ≡ last_place c.args.task.0 (tasks_in puts) = c.in_ok-before.ensures.old ∙ c.self.invariant.found c.args.task.0 in
    let Q : ℕ → Type 0 = λ n. tree.Updates nat_cmp c.self.inside.last c.insert.new.self c.args.task.0 (Some n) in
    index_push puts x c.push_reserved.new.self.items c.self.inside.last c.insert.new.self items c.self.invariant.found c.self.invariant.linked before (subst Q place c.in_ok-before.ensures.updates).0
