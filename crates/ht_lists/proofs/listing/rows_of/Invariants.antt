use Rattle.std.proofs.Common.{◌≡◌, take}
use Rattle.std.specs.List.{filter_map}
use Rattle.ht_lists.specs.Shown.{shown_at}
use Rattle.ht_lists.proofs.listing.rows_of.Given as goal

abbrev pub invariant-loop-key : goal.invariant-loop-key
invariant-loop-key l = l.rows ≡ filter_map (shown_at l.tables.tables) (take l.key-index l.keys)
