-- What is told of a task that is named by its key.
use Rattle.std.specs.Prelude.{Option, option_map}
use Rattle.ht_lists.specs.declared.keys.Key.{Key}
use Rattle.ht_base.specs.declared.page.PageRow.{PageRow}
use Rattle.ht_lists.specs.Lists.{page_row}
use Rattle.ht_tree.specs.Tables.{TablesOf, task_row}

abbrev pub shown_at : TablesOf → Key → Option PageRow
shown_at t key = option_map (page_row t) (task_row t key.task.0)
