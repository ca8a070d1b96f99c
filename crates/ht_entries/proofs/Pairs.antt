-- Pairs whose first names are spelled as they are.
use Rattle.std.proofs.Common.{ℕ, List, map-id, subst}
use Rattle.ht_base.specs.Values.{Ascend}
use Rattle.ht_toml.specs.Values.{KeysAscend}

pub names_ascend : {A : Type 0} (ps : List (List ℕ × A)) → KeysAscend (λ k. k) ps → Ascend ps
names_ascend {A} ps ascend = subst (λ (l : List (List ℕ × A)). Ascend l) (map-id ps) ascend
