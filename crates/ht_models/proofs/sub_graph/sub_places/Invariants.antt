use Rattle.std.proofs.Common.{◌≡◌, ℕ, List, filter_map, take}
use Rattle.ht_base.specs.Indexes.{IsIndex}
use Rattle.ht_base.specs.Places.{place_in}
use Rattle.ht_models.proofs.sub_graph.sub_places.Given as goal

abbrev pub invariant-loop-sub : goal.invariant-loop-sub
invariant-loop-sub l = (names : List (List ℕ)) → IsIndex l.places names → l.below.items ≡ filter_map (λ s. place_in s.model names) (take l.sub-index l.entry.subs)
