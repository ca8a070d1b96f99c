-- Values in ascending order of their names: a push.
use Rattle.std.proofs.Common.{ℕ, List, [], ◌∷◌, ◌++◌}
use Rattle.ht_base.specs.Values.{Ascend, IsBehind}

pub ascend_push : {A : Type 0} (name : List ℕ) (value : A) (vs : List (List ℕ × A)) → Ascend vs → IsBehind name vs → Ascend (vs ++ (name, value) ∷ [])
ascend_push name value [] a b = tt
ascend_push name value (v ∷ []) a b = (b, tt)
ascend_push name value (v ∷ w ∷ vs) a b = (a.0, ascend_push name value (w ∷ vs) a.1 b)
