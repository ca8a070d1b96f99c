use Rattle.std.proofs.Common.{◌≡◌, ◌≤◌, length, drop, ◌∷◌, ◌++◌, [], ℕ, List, ap, subst, sym, ◌∙◌, rules}
use Rattle.ht_tree.specs.declared.row.Row.{Row}
use Rattle.ht_tree.specs.Places.{tasks_of}
use Rattle.ht_tree.proofs.Places.{NoneBehind, more_tasks, no_tasks, none_of_more}
use Rattle.ht_tree.proofs.puts.Puts.push.Goals as goal
use Rattle.ht_tree.proofs.puts.Puts.push.Goals.{then-len-ge-FEW+in_ok-push, else-len-ge-FEW}

pub invariant_of-self-2 : goal.invariant_of-self-2
invariant_of-self-2 c =
    let rows = c.self.inside.rows.items in
    let items : c.push_reserved.new.self.items ≡ rows ++ c.args.row ∷ [] = search rules in
    let low : c.self.inside.highest ≤ c.max-self-inside.result = search rules in
    let own : c.args.row.task.0 ≤ c.max-self-inside.result = search rules in
    let N : List Row → Type 0 = λ l. NoneBehind c.max-self-inside.result (tasks_of l) in
    let long : c.len.result ≡ length rows = search rules in
    let behind : tasks_of (drop 4 (rows ++ c.args.row ∷ [])) ≡ tasks_of (drop 4 c.push_reserved.new.self.items) = ap (λ (l : List Row). tasks_of (drop 4 l)) (sym items) in
    record {
      others =
          elim c.if-len-ge-FEW.branch [
            | then-len-ge-FEW+in_ok-push w ↦ ap (λ p. p.others) w.self-inside-is ∙ w.in_ok-push.ensures.ok ∙ ap (λ (l : List ℕ). l ++ c.args.row.task.0 ∷ []) c.self.invariant.others ∙ more_tasks rows c.args.row (rw (← long) w.if-len-ge-FEW.true) ∙ behind
            | else-len-ge-FEW w ↦ ap (λ p. p.others) w.self-inside-is ∙ c.self.invariant.others ∙ no_tasks rows c.args.row (rw (← long) w.if-len-ge-FEW.false) ∙ behind
          ];
      highest = subst N (sym items) (none_of_more c.self.inside.highest c.max-self-inside.result rows c.args.row low own c.self.invariant.highest);
    }
