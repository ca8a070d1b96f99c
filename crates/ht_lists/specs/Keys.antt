-- In which order tasks are listed: by what counts of each, its key.
use Rattle.std.specs.Ordering.{nat_cmp, on, then_cmp}
use Rattle.std.specs.declared.cmp.Ordering.{Ordering}
use Rattle.ht_lists.specs.declared.keys.Key.{Key}
use Rattle.ht_tree.specs.declared.row.Row.{Row}

-- by priority, of which 0 is the highest, then by the moment of creation, then by number
abbrev pub compare_keys : Key → Key → Ordering
compare_keys = then_cmp (on (λ k. k.priority) nat_cmp) (then_cmp (on (λ k. k.created.0) nat_cmp) (on (λ k. k.task.0) nat_cmp))

abbrev pub key_of : Row → Key
key_of row = record { created = row.created; task = row.task; priority = row.priority }
