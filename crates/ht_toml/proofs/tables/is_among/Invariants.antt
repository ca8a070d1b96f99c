use Rattle.std.proofs.Common.{◌≡◌, drop, map, bytes_eq}
use Rattle.std.specs.List.{list_any}
use Rattle.ht_toml.proofs.tables.is_among.Given as goal

abbrev pub invariant-loop-name : goal.invariant-loop-name
invariant-loop-name l = list_any (λ n. bytes_eq n l.key) (map (λ n. n.now) l.known) ≡ list_any (λ n. bytes_eq n l.key) (map (λ n. n.now) (drop l.name-index l.known))
