-- What the sizes of the trees of models say of the trees of their entries.
use Rattle.std.proofs.Common.{◌≡◌, ◌∙◌, ℕ, ◌+◌, ◌<◌, ◌≤◌, zero, suc, List, [], ◌∷◌, Option, Some, None, IsSome, ap, arith, refl}
use Rattle.std.specs.Prelude.{slice_get}
use Rattle.std.specs.Option.{option_map_or}
use Rattle.std.proofs.lemmas.Option.{slice_get-map}
use Rattle.ht_base.proofs.PublicLaws.{found_there}
use Rattle.ht_base.specs.Places.{place_in}
use Rattle.ht_models.specs.Model.{ModelOf, names}
use Rattle.ht_entries.specs.SubEntries.{SubEntry}
use Rattle.ht_models.specs.TreeSizes.{AreSized, entries_size, entry_size, size_at}

-- where a name is found is a model
pub model_found : (models : List ModelOf) (name : List ℕ) (place : ℕ) → place_in name (names models) ≡ Some place → (m : ModelOf) × (slice_get models place ≡ Some m)
model_found models name place is = here (slice_get models place) refl
  where
    here : (o : Option ModelOf) → slice_get models place ≡ o → (m : ModelOf) × (slice_get models place ≡ Some m)
    here None at =
        let there = found_there name (names models) place is in
        let named = slice_get-map (λ (m : ModelOf). m.name) models place in
        cc
    here (Some m) at = (m, at)

-- one of the entries is no larger than all
within_all : (models : List ModelOf) (entries : List SubEntry) (i : ℕ) (entry : SubEntry) → slice_get entries i ≡ Some entry → entry_size models entry ≤ entries_size models entries
within_all models [] i entry at = cc
within_all models (e ∷ entries) zero entry at = let same : e ≡ entry = cc in let size = ap (entry_size models) same in omega arith
within_all models (e ∷ entries) (suc i) entry at = let rest = within_all models entries i entry at in omega arith

module _ (models : List ModelOf) (sized : AreSized models) where
  -- the model of an entry is found
  pub entry_found : (place : ℕ) (m : ModelOf) (i : ℕ) (entry : SubEntry) → slice_get models place ≡ Some m → slice_get m.subs i ≡ Some entry → (under : ℕ) × (place_in entry.model (names models) ≡ Some under)
  entry_found place m i entry at there = here (place_in entry.model (names models)) refl ((sized place m at).known i entry there)
    where
      here : (o : Option ℕ) → place_in entry.model (names models) ≡ o → IsSome o → (under : ℕ) × (place_in entry.model (names models) ≡ Some under)
      here None is some = cc
      here (Some under) is some = (under, is)

  -- an entry's tree is a task of its model and the trees of the entries below
  pub entry_counted : (entry : SubEntry) (place : ℕ) (m : ModelOf) → place_in entry.model (names models) ≡ Some place → slice_get models place ≡ Some m → entry_size models entry ≡ 1 + entries_size models m.subs
  entry_counted entry place m is at = ap (λ (o : Option ℕ). option_map_or (size_at models) o 0) is ∙ ap (λ (o : Option ModelOf). option_map_or (λ (n : ModelOf). n.size) o 0) at ∙ (sized place m at).counted

  -- and smaller than that of the model above it
  pub entry_smaller : (place : ℕ) (m : ModelOf) (i : ℕ) (entry : SubEntry) → slice_get models place ≡ Some m → slice_get m.subs i ≡ Some entry → entry_size models entry < m.size
  entry_smaller place m i entry at there = omega (arith, (sized place m at).counted, within_all models m.subs i entry there)
