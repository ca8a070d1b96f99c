use Rattle.std.proofs.Common.{◌≡◌, ◌-◌, ℕ, length, Some, Option, option_map, slice_get, ap, sym, ◌∙◌, arith, rules}
use Rattle.std.proofs.lemmas.Option.{slice_get_within}
use Rattle.ht_tree.specs.declared.row.Row.{Row}
use Rattle.ht_tree.proofs.Places.{last_put}
use Rattle.ht_tree.proofs.puts.Puts.place.Goals as goal

pub returns-in-Some : goal.returns-in-Some
returns-in-Some c =
    let rows = c.args.self.now in
    let same : c.deref.result.now ≡ rows = c.deref.ensures.value ∙ c.self.view_is in
    let n : c.len.result ≡ length rows = search rules in
    let i = c.len.result - 1 in
    let at : slice_get rows i ≡ Some c.in-Some.last.now = search rules in
    let task : c.in-Some.last.now.task.0 ≡ c.args.task.0 = search rules in
    let within = slice_get_within rows i c.in-Some.last.now at in
    sym (last_put rows i c.args.task.0 (omega (arith, n, within)) (ap (λ (o : Option Row). option_map (λ r. r.task.0) o) at ∙ ap (λ (n : ℕ). Some n) task))
