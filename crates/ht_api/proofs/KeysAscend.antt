-- The keys of an object ascend.
use Rattle.std.proofs.Common.{◌≡◌, ◌∙◌, ap, ℕ, List, [], ◌∷◌, ◌++◌, Bool, true, false, Some, None, if◌then◌else◌, IsTrue, string_bytes}
use Rattle.std.specs.Prelude.{String}
use Rattle.std.specs.List.Sorted.{IsStrictlySortedBy}
use Rattle.std.specs.Map.{keys_of}
use Rattle.std.specs.String.{string_cmp}
use Rattle.std.proofs.lemmas.Map.Keys.{sorted_head, sorted_tail}
use Rattle.std.specs.Cmp.Lexicographic.{slice_cmp}
use Rattle.std.specs.Ordering.{is_lt, nat_cmp}
use Rattle.std.specs.declared.alloc.Global.{Global}
use Rattle.ht_base.specs.declared.scalar.Scalar.{Scalar}
use Rattle.ht_base.specs.Name.{is_name, name_of}
use Rattle.ht_base.specs.Values.{IsBehind, is_before}
use Rattle.serde_json.specs.declared.value.Value.{Value as Json}

-- what is left of an object's members stands behind the parts that were taken, in order
abbrev pub Follows : List (List ℕ × Scalar) → List (String Global × Json) → Type 0
Follows parts [] = Unit {0}
Follows parts (e ∷ es) = IsBehind (string_bytes e.0) parts × IsStrictlySortedBy string_cmp (keys_of (e ∷ es))

behind_push : (parts : List (List ℕ × Scalar)) (name next : List ℕ) (value : Scalar) → IsTrue (is_before name next) → IsBehind next (parts ++ (name, value) ∷ [])
behind_push [] name next value h = h
behind_push (p ∷ []) name next value h = h
behind_push (p ∷ q ∷ ps) name next value h = behind_push (q ∷ ps) name next value h

pub follows_push : (parts : List (List ℕ × Scalar)) (e : String Global × Json) (es : List (String Global × Json)) (name : List ℕ) (value : Scalar)
    → name ≡ string_bytes e.0 → Follows parts (e ∷ es) → Follows (parts ++ (name, value) ∷ []) es
follows_push parts e [] name value is f = tt
follows_push parts e (next ∷ es) name value is f =
    let above = sorted_head string_cmp e.0 (keys_of (next ∷ es)) f.1 in
    (behind_push parts name (string_bytes next.0) value (ap (λ n. is_lt (slice_cmp nat_cmp n (string_bytes next.0))) is ∙ ap is_lt above.0), sorted_tail string_cmp e.0 (keys_of (next ∷ es)) f.1)

name_if : (b : Bool) (bytes name : List ℕ) → (if b then Some bytes else None) ≡ Some name → name ≡ bytes
name_if true bytes name e = cc
name_if false bytes name e = cc

pub name_is : (bytes name : List ℕ) → name_of bytes ≡ Some name → name ≡ bytes
name_is bytes name e = name_if (is_name bytes) bytes name e
