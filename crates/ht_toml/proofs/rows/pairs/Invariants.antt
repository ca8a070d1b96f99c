use Rattle.std.proofs.Common.{◌≡◌, ◌++◌, string_bytes, map}
use Rattle.toml.specs.View.{table_view, view}
use Rattle.ht_toml.specs.Entries.{each}
use Rattle.ht_toml.specs.Values.{row_of, rows}
use Rattle.ht_toml.proofs.KeyOrder.{keys, spelled}
use Rattle.ht_toml.proofs.ReadRows.{before}
use Rattle.ht_toml.proofs.rows.pairs.Given as goal

abbrev pub invariant-loop-key : goal.invariant-loop-key
invariant-loop-key g l = record {
  read : each (row_of g.K.KeyShape.of_key g.V.Shape.of) (rows (table_view l.fn.table))
      ≡ before l.pairs.items (each (row_of g.K.KeyShape.of_key g.V.Shape.of) (map (λ e. (string_bytes e.0, view e.1)) l.key-iterator));
  spelled : spelled g.K.KeyShape.spelling l.pairs.items ++ keys l.key-iterator ≡ keys l.fn.table.entries;
}
