use Rattle.std.proofs.Common.{drop}
use Rattle.serde_json.specs.Data.{array}
use Rattle.ht_api.specs.Contents.{notice_items}
use Rattle.ht_api.specs.Writing.{Going, notices_left, tokens_of}
use Rattle.ht_api.proofs.pages.put_notice_rows.Given as goal

abbrev pub invariant-loop-row : goal.invariant-loop-row
invariant-loop-row l = Going l.fn.writer l.writer (tokens_of (array (notice_items l.rows))) (notices_left (drop l.row-index l.rows))
