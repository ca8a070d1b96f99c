-- Parts that are shown: their names ascend as those of the values do.
use Rattle.std.proofs.Common.{◌≡◌, ℕ, ◌<◌, zero, suc, Bool, true, get_or, List, [], ◌∷◌, length, map, take, slice_get, Some, IfSome, ap, ◌∙◌, subst, arith}
use Rattle.std.specs.List.{list_all}
use Rattle.std.proofs.lemmas.Bool.{and_parts}
use Rattle.ht_base.specs.Values.{Ascend, IsBehind}
use Rattle.ht_lists.specs.Naming.{AreShown}
use Rattle.ht_models.specs.Model.{ModelOf}
use Rattle.ht_tree.specs.declared.row.Row.{Row}
use Rattle.ht_tree.specs.Soundness.{IsHeldBy, IsSoundIn}

-- each name stands behind the one before
front_behind : {A : Type 0} (vs : List (List ℕ × A)) → Ascend vs → (i : ℕ) (v : List ℕ × A) → slice_get vs i ≡ Some v → IsBehind v.0 (take i vs)
front_behind [] up i v at = cc
front_behind (x ∷ vs) up zero v at = tt
front_behind (x ∷ []) up (suc i) v at = cc
front_behind {A = A} (x ∷ y ∷ vs) up (suc zero) v at =
    let same : y ≡ v = cc in
    let P : List ℕ × A → Type 0 = λ z. IsBehind z.0 (x ∷ []) in
    subst P same up.0
front_behind (x ∷ y ∷ vs) up (suc (suc i)) v at = front_behind (y ∷ vs) up.1 (suc i) v at

-- whatever the names stand for
behind_map : {A B : Type 0} (f : A → B) (name : List ℕ) (vs : List (List ℕ × A)) → IsBehind name vs → IsBehind name (map (λ v. (v.0, f v.1)) vs)
behind_map f name [] h = tt
behind_map f name (v ∷ []) h = h
behind_map f name (v ∷ w ∷ vs) h = behind_map f name (w ∷ vs) h

pub next_behind : {A B : Type 0} (f : A → B) (vs : List (List ℕ × A)) → Ascend vs → (i : ℕ) (v : List ℕ × A) → slice_get vs i ≡ Some v → IsBehind v.0 (map (λ x. (x.0, f x.1)) (take i vs))
next_behind f vs up i v at = behind_map f v.0 (take i vs) (front_behind vs up i v at)

pub passes_at : {A : Type 0} (test : A → Bool) (xs : List A) (i : ℕ) (x : A) → list_all test xs ≡ true → i < length xs → x ≡ get_or xs i x → test x ≡ true
passes_at test [] i x all h is = absurd (omega arith)
passes_at test (y ∷ xs) zero x all h is = ap test is ∙ (and_parts (test y) (list_all test xs) all).0
passes_at test (y ∷ xs) (suc i) x all h is = passes_at test xs i x (and_parts (test y) (list_all test xs) all).1 (omega arith) is

-- ---- the values of a sound row

held_at : (models : List ModelOf) (place : ℕ) (P : ModelOf → Type 0) → place < length models → IfSome (slice_get models place) P → (m : ModelOf) × P m
held_at [] place P there h = absurd (omega arith)
held_at (m ∷ models) zero P there h = (m, h)
held_at (m ∷ models) (suc place) P there h = held_at models place P (omega arith) h

held_by : (models : List ModelOf) (persons : ℕ) (row : Row) → IsSoundIn models persons row → (m : ModelOf) × IsHeldBy persons m row.input row.output row.taken
held_by models persons row sound = held_at models row.model (λ m. IsHeldBy persons m row.input row.output row.taken) (sound.filed).model sound.held

pub input_shown : (models : List ModelOf) (persons : ℕ) (row : Row) → IsSoundIn models persons row → AreShown persons row.input
input_shown models persons row sound = let by = held_by models persons row sound in record { known = ((by.1).input).known; timely = ((by.1).input).moments_within }

pub output_shown : (models : List ModelOf) (persons : ℕ) (row : Row) → IsSoundIn models persons row → AreShown persons row.output
output_shown models persons row sound = let by = held_by models persons row sound in record { known = ((by.1).output).known; timely = ((by.1).output).moments_within }
