-- Where a name stands among models of distinct names.
use Rattle.std.proofs.Common.{◌≡◌, ℕ, ◌<◌, ◌≤◌, List, [], ◌∷◌, length, map, Some, None, Option, option_map, get_or, ap, sym, ◌∙◌, refl, arith, subst}
use Rattle.std.specs.Prelude.{All, slice_get}
use Rattle.std.specs.BTreeMap.{get}
use Rattle.std.specs.Cmp.Lexicographic.{slice_cmp}
use Rattle.std.specs.Ordering.{nat_cmp}
use Rattle.std.proofs.lemmas.List.{length-map}
use Rattle.std.proofs.lemmas.Option.{get_or_from_slice_get, slice_get-map, slice_get_read, slice_get_within}
use Rattle.ht_base.proofs.PublicLaws as found
use Rattle.ht_base.proofs.PublicLaws.{own_place}
use Rattle.ht_base.specs.Places.{place_in}
use Rattle.ht_base.specs.declared.limits.TheConstants.{LARGEST_TREE}
use Rattle.ht_models.specs.declared.model.Model.{Model}
use Rattle.ht_models.specs.declared.models.Models.TheInside.{Inside}
use Rattle.ht_models.specs.Kept.{IsKept, kept_names}
use Rattle.ht_models.specs.Kinded.{IsKinded}
use Rattle.ht_models.specs.Model.{ModelOf, names}
use Rattle.ht_models.specs.Shown.{model_of}

pub names-map : (ms : List Model) → names (map model_of ms) ≡ map (λ m. m.name) ms
names-map [] = refl
names-map (m ∷ ms) = ap (λ ns. m.name ∷ ns) (names-map ms)

-- ---- of models as they are kept

-- the index finds a name where it stands
pub indexed : (m : Inside) (models : List ModelOf) (name : List ℕ) → IsKept m → map model_of m.models.items ≡ models → get (slice_cmp nat_cmp) m.places name ≡ place_in name (names models)
indexed m models name kept view =
    kept.index name ∙ ap (place_in name) (sym (names-map m.models.items)) ∙ ap (λ ms. place_in name (names ms)) view

-- a place is that of a model
pub found_within : (m : Inside) (models : List ModelOf) (name : List ℕ) (i : ℕ) → IsKept m → map model_of m.models.items ≡ models → get (slice_cmp nat_cmp) m.places name ≡ Some i → i < length models
found_within m models name i kept view is =
    let within = found.found_within name (kept_names m) i (sym (kept.index name) ∙ is) in
    let names = length-map m.models.items (λ m. m.name) in
    let same = length-map m.models.items model_of in
    let long = ap (λ (ms : List ModelOf). length ms) view in
    omega arith

-- and fits 32 bits
pub small_place : (m : Inside) (name : List ℕ) (i : ℕ) → IsKept m → get (slice_cmp nat_cmp) m.places name ≡ Some i → i < 4294967296
small_place m name i kept is =
    let within = found_within m (map model_of m.models.items) name i kept refl is in
    let same = length-map m.models.items model_of in
    let few = kept.few in
    omega arith

-- the name of a model is found at its place
pub found_there : (m : Inside) (models : List ModelOf) (i : ℕ) (one : Model) → IsKept m → map model_of m.models.items ≡ models → i < length models → one ≡ get_or m.models.items i one → place_in one.name (names models) ≡ Some i
found_there m models i one kept view within is =
    let long = ap (λ (ms : List ModelOf). length ms) view in
    let same = length-map m.models.items model_of in
    let at : slice_get m.models.items i ≡ Some one = slice_get_read m.models.items (length m.models.items) i one refl (omega arith) is in
    let there : slice_get (kept_names m) i ≡ Some one.name = slice_get-map (λ (m : Model). m.name) m.models.items i ∙ ap (option_map (λ (m : Model). m.name)) at in
    let own = own_place one.name (kept_names m) i there (kept.distinct i) in
    rw (← view, names-map) own

-- its expressions speak of its parts
pub kinded_there : (m : Inside) (models : List ModelOf) (i : ℕ) (one : Model) → IsKept m → map model_of m.models.items ≡ models → i < length models → one ≡ get_or m.models.items i one → IsKinded one
kinded_there m models i one kept view within is =
    let long = ap (λ (ms : List ModelOf). length ms) view in
    let same = length-map m.models.items model_of in
    subst IsKinded (sym is) (kept.kinds i one (omega arith))

-- each model is a tree of a task at least, and of no more than a tree may have
abbrev IsSized : ℕ → Type 0
IsSized size = (1 ≤ size) × (size ≤ LARGEST_TREE)

size_there : (ms : List Model) → All (λ m. IsSized m.size) ms → (place : ℕ) (m : ModelOf) → slice_get (map model_of ms) place ≡ Some m → IsSized m.size
size_there ms sized place m at = here (slice_get ms place) refl (sym (slice_get-map model_of ms place) ∙ at)
  where
    here : (o : Option Model) → slice_get ms place ≡ o → option_map model_of o ≡ Some m → IsSized m.size
    here None is at = cc
    here (Some x) is at =
        let one : IsSized (get_or ms place x).size = sized place x (slice_get_within ms place x is) in
        let same : get_or ms place x ≡ x = get_or_from_slice_get ms place x x is in
        let shown : model_of x ≡ m = cc in
        subst IsSized (ap (λ (n : Model). n.size) same ∙ ap (λ (n : ModelOf). n.size) shown) one

pub sized_there : (m : Inside) (models : List ModelOf) → IsKept m → map model_of m.models.items ≡ models → (place : ℕ) (one : ModelOf) → slice_get models place ≡ Some one → IsSized one.size
sized_there m models kept view place one at = size_there m.models.items kept.sizes place one (ap (λ (l : List ModelOf). slice_get l place) view ∙ at)
