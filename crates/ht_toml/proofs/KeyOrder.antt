-- The keys of a table ascend, and with them what was read of it.
use Rattle.std.proofs.Common.{◌≡◌, ℕ, List, [], ◌∷◌, ◌++◌, append_assoc, map, String, Global, string_bytes, ap, sym}
use Rattle.std.specs.Prelude.{IsTrue}
use Rattle.std.specs.List.Sorted.{IsStrictlySortedBy}
use Rattle.std.specs.Map.{keys_of}
use Rattle.std.specs.Ordering.{is_lt}
use Rattle.std.specs.String.{string_cmp}
use Rattle.std.proofs.lemmas.List.{map-append}
use Rattle.toml.specs.declared.value.Value.{Value}
use Rattle.ht_base.specs.Values.{is_before}
use Rattle.ht_toml.specs.Values.{KeysAscend}

-- the keys of these entries, and how those of what was read are spelled
abbrev pub keys : List (String Global × Value) → List (List ℕ)
keys es = map (λ e. string_bytes e.0) es

abbrev pub spelled : {A B : Type 0} → (A → List ℕ) → List (A × B) → List (List ℕ)
spelled spelling ps = map (λ p. spelling p.0) ps

-- one more was read
pub spelled_more : {A B : Type 0} (spelling : A → List ℕ) {key : List ℕ} (rest : List (List ℕ)) (a : A) (b : B) (done : List (A × B)) → spelling a ≡ key
    → spelled spelling done ++ key ∷ rest ≡ spelled spelling (done ++ (a, b) ∷ []) ++ rest
spelled_more spelling rest a b done same =
    let last = map-append (λ p. spelling p.0) done ((a, b) ∷ []) in
    rw (last, same) (sym (append_assoc (spelled spelling done) _ rest))

-- where the keys are spelled as they stood in the table
pub keys_ascend : {A B : Type 0} (spelling : A → List ℕ) (es : List (String Global × Value)) (ps : List (A × B)) → IsStrictlySortedBy string_cmp (keys_of es) → spelled spelling ps ≡ keys es → KeysAscend spelling ps
unfolding IsStrictlySortedBy
keys_ascend spelling es [] sorted same = tt
keys_ascend spelling es (p ∷ []) sorted same = tt
keys_ascend spelling [] (p ∷ q ∷ ps) sorted same = absurd cc
keys_ascend spelling (e ∷ []) (p ∷ q ∷ ps) sorted same = absurd cc
keys_ascend spelling (e ∷ f ∷ es) (p ∷ q ∷ ps) sorted same =
    let first : spelling p.0 ≡ string_bytes e.0 = cc in
    let second : spelling q.0 ≡ string_bytes f.0 = cc in
    let before : IsTrue (is_before (spelling p.0) (spelling q.0)) = rw (first, second) (ap is_lt sorted.0.0) in
    (before, keys_ascend spelling (f ∷ es) (q ∷ ps) sorted.1 cc)
