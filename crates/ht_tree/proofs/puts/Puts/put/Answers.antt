use Rattle.std.proofs.Common.{ℕ, Option, Some, option_map, sym, ap, ◌∙◌}
use Rattle.ht_tree.specs.declared.row.Row.{Row}
use Rattle.ht_tree.proofs.Places.{last_there}
use Rattle.ht_tree.proofs.puts.Puts.put.Goals as goal

pub replace-requires : goal.replace-requires
replace-requires c =
    let there = last_there c.args.row.task.0 c.args.self.now (Some c.in-Some.place) (sym (sym c.in-Some.is ∙ c.place.ensures)) in
    ap (λ (o : Option Row). option_map (λ r. r.task.0) o) there.1 ∙ ap (λ (n : ℕ). Some n) there.3
