use Rattle.std.proofs.Common.{◌<◌, ◌≤◌, ◌^◌, ℕ, List, length, Option, IfSome, option_map, sym, subst, rules}
use Rattle.ht_models.specs.Model.{ModelOf}
use Rattle.ht_tree.specs.declared.row.Row.{Row}
use Rattle.ht_tree.specs.Plans.{AreTotals, planned}
use Rattle.ht_tree.specs.Puts.{IsResized}
use Rattle.ht_tree.specs.Rows.{put_in}
use Rattle.ht_tree.specs.Sizes.{top_size}
use Rattle.ht_tree.proofs.Planning.{before_counted, totals_put, totals_small}
use Rattle.ht_tree.proofs.plan.Plan.totals_with.Goals as goal

pub resized-requires-clause-before : goal.resized-requires-clause-before
resized-requires-clause-before c =
    let t = c.args.tables.now.tables in
    let M : List ModelOf → Type 0 = λ ms. IfSome c.row-before.result (λ r. (r.now.model < length ms) × (top_size ms r.now ≤ c.totals-rows.result.size)) in
    subst M (sym c.models.ensures.value) (before_counted t (planned t c.args.self.now).rows c.totals-rows.result c.args.row.now.task.0 c.row-before.result c.totals-rows.ensures c.row-before.ensures.value c.row-before.ensures.fits)

pub resized-requires-clause-total : goal.resized-requires-clause-total
resized-requires-clause-total c =
    let t = c.args.tables.now.tables in
    let low : c.totals-rows.result.rows < 2 ^ 32 = search rules in
    totals_small t (planned t c.args.self.now).rows c.totals-rows.result c.totals-rows.ensures low

pub returns : goal.returns
returns c =
    let t = c.args.tables.now.tables in
    let rows = (planned t c.args.self.now).rows in
    let row = c.args.row.now in
    let R : Option Row → Type 0 = λ o. IsResized t.models c.totals-rows.result.size row o c.resized.result in
    let M : List ModelOf → Type 0 = λ ms. IsResized ms c.totals-rows.result.size row (option_map (λ r. r.now) c.row-before.result) c.resized.result in
    let S : List ModelOf → Type 0 = λ ms. top_size ms row < 2 ^ 32 in
    let N : ℕ → Type 0 = λ n. AreTotals t (put_in rows row) (record { rows = n; size = c.resized.result }) in
    subst N (sym c.max.ensures) (totals_put t rows c.totals-rows.result row c.resized.result c.totals-rows.ensures c.requires.next (subst R c.row-before.ensures.value (subst M c.models.ensures.value c.resized.ensures.resized)) (subst S c.models.ensures.value c.resized.ensures.small))
