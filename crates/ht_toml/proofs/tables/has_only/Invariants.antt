use Rattle.std.proofs.Common.{◌≡◌, map, string_bytes}
use Rattle.std.specs.List.{list_all}
use Rattle.toml.specs.View.{table_view}
use Rattle.ht_toml.specs.Tables.{has_only, is_among}
use Rattle.ht_toml.proofs.tables.has_only.Given as goal

abbrev pub invariant-loop-key : goal.invariant-loop-key
invariant-loop-key l = has_only (map (λ k. k.now) l.known) (table_view l.fn.table) ≡ list_all (λ e. is_among (map (λ k. k.now) l.known) (string_bytes e.0)) l.key-iterator
