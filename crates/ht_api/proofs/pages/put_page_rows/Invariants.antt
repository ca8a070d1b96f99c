use Rattle.std.proofs.Common.{drop}
use Rattle.serde_json.specs.Data.{array}
use Rattle.ht_api.specs.Contents.{page_items}
use Rattle.ht_api.specs.Writing.{Going, page_left, tokens_of}
use Rattle.ht_api.proofs.pages.put_page_rows.Given as goal

abbrev pub invariant-loop-row : goal.invariant-loop-row
invariant-loop-row l = Going l.fn.writer l.writer (tokens_of (array (page_items l.rows))) (page_left (drop l.row-index l.rows))
