use Rattle.std.proofs.Common.{◌∙◌, ℕ, Bool, sym, map, List, rules}
use Rattle.ht_toml.specs.Tables.{is_among}
use Rattle.ht_toml.proofs.Views.{list_all-keys}
use Rattle.ht_toml.proofs.tables.has_only.Goals as goal

pub loop-key-init : goal.loop-key-init
loop-key-init c =
    let test : List ℕ → Bool = is_among (map (λ k. k.now) c.args.known.now) in
    sym (list_all-keys test c.args.table.now.entries) ∙ search rules
