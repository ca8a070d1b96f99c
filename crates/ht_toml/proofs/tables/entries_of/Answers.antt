use Rattle.std.proofs.Common.{◌∙◌, ap, sym, map, List, Option, Some, option_map}
use Rattle.toml.specs.Data.{Data, Items}
use Rattle.toml.specs.View.{view}
use Rattle.ht_toml.specs.Tables.{list_of}
use Rattle.ht_toml.proofs.Views.{list_of-items_of}
use Rattle.ht_toml.proofs.tables.entries_of.Goals as goal

pub returns-in-Some-clause-value : goal.returns-in-Some-clause-value
returns-in-Some-clause-value c =
    ap (λ (es : List Data). Some es) (rw c.as_slice.ensures.value (sym (list_of-items_of (map view c.in-Some.array.now.items))))
    ∙ ap (λ (d : Option Items). option_map list_of d) c.in-Some.ensures
