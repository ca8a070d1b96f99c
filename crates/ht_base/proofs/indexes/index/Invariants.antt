use Rattle.std.proofs.Common.{◌≡◌, ℕ, ◌<◌, take}
use Rattle.std.specs.BTreeMap.{get}
use Rattle.ht_base.specs.Indexes.{place_by}
use Rattle.ht_base.specs.Places.{IsRepeated}
use Rattle.ht_base.proofs.indexes.index.Given as goal

abbrev pub invariant-loop-place : goal.invariant-loop-place
invariant-loop-place g l = record {
  index : (q : g.row.K.Denot) → get g.K.Ord.cmp l.places q ≡ place_by g.K.Ord.cmp q (take l.place l.keys);
  distinct : (i : ℕ) → i < l.place → IsRepeated l.keys i → ⊥;
}
