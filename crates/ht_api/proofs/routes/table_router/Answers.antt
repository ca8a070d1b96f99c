use Rattle.std.proofs.Common.{◌∙◌, sym}
use Rattle.ht_api.specs.Table.{table, with_paths}
use Rattle.ht_api.proofs.routes.table_router.Goals as goal

pub returns : goal.returns
unfolding table
returns c = sym c.in_ok-insert_all.ensures ∙ (λ i. with_paths (c.all_paths-paths.ensures i) (c.new-router.ensures i))
