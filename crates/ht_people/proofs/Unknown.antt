-- The members of a group by their places, and those that are unknown.
use Rattle.std.proofs.Common.{◌≡◌, ◌∙◌, ◌+◌, ◌<◌, ◌≤◌, ℕ, List, [], ◌∷◌, ◌++◌, Option, Some, None, ap, arith, length, subst, take}
use Rattle.std.specs.Prelude.{filter_map, slice_get}
use Rattle.std.specs.List.{cons_option}
use Rattle.std.proofs.lemmas.List.{take_all, take_more}
use Rattle.std.proofs.lemmas.List.Elements.{filter_map-append}
use Rattle.std.proofs.lemmas.Option.{get_or_from_slice_get, slice_get_within}
use Rattle.ht_people.specs.declared.entries.MemberName.{MemberName}
use Rattle.ht_people.specs.Directory.{GroupOf, group_from, place_of}
use Rattle.ht_people.specs.PeopleText.{GroupText, PeopleTextOf}
use Rattle.ht_people.specs.Refusals.{HasUnknown, HasUnknownMember}

module _ (t : PeopleTextOf) where
  abbrev pub places_of : List MemberName → List ℕ
  places_of ms = filter_map (place_of t) ms

  -- the member at a place is unknown
  abbrev pub IsUnknown : List MemberName → ℕ → Type 0
  IsUnknown ms j = (m : MemberName) × (slice_get ms j ≡ Some m) × (place_of t m ≡ None)

  pub places_more : (ms : List MemberName) (i : ℕ) (m : MemberName) (place : ℕ) → slice_get ms i ≡ Some m → place_of t m ≡ Some place → places_of (take (i + 1) ms) ≡ places_of (take i ms) ++ place ∷ []
  places_more ms i m place at is =
      let put : take (i + 1) ms ≡ take i ms ++ m ∷ [] = take_more ms i m (slice_get_within ms i m at) ∙ ap (λ (x : MemberName). take i ms ++ x ∷ []) (get_or_from_slice_get ms i m m at) in
      ap places_of put ∙ filter_map-append (place_of t) (take i ms) (m ∷ []) ∙ ap (λ (o : Option ℕ). places_of (take i ms) ++ cons_option o []) is

  pub not_unknown : (ms : List MemberName) (i : ℕ) (m : MemberName) (place : ℕ) → slice_get ms i ≡ Some m → place_of t m ≡ Some place → IsUnknown ms i → ⊥
  not_unknown ms i m place at is u = let one : u.0 ≡ m = let other = u.1 in cc in let none = u.2 in let P : place_of t u.0 ≡ place_of t m = ap (place_of t) one in cc

  pub group_is : (e : GroupText) (name : List ℕ) (ms : List MemberName) (i : ℕ) (places : List ℕ) → name ≡ e.name → ms ≡ e.members → length ms ≤ i → places ≡ places_of (take i ms) → ◌≡◌ {A = GroupOf} (record { name = name; members = places }) (group_from t e)
  group_is e name ms i places named same past is =
      let whole : places ≡ places_of e.members = is ∙ ap places_of (take_all i ms past ∙ same) in
      λ k. record { name = named k; members = whole k }

  pub all_known : (e : GroupText) (ms : List MemberName) (i : ℕ) → ms ≡ e.members → length ms ≤ i → ((j : ℕ) → j < i → IsUnknown ms j → ⊥) → HasUnknownMember t e → ⊥
  all_known e ms i same past known u =
      let at : slice_get ms u.0 ≡ Some u.1 = rw same u.2 in
      known u.0 (let within = slice_get_within ms u.0 u.1 at in omega arith) (u.1, at, u.3)

  -- ---- the group at a place

  pub unknown_at : (i : ℕ) (e : GroupText) → slice_get t.groups i ≡ Some e → HasUnknownMember t e → HasUnknown t i
  unknown_at i e at u = (e, at, u)

  pub not_unknown_at : (i : ℕ) (e : GroupText) → slice_get t.groups i ≡ Some e → (HasUnknownMember t e → ⊥) → HasUnknown t i → ⊥
  not_unknown_at i e at known u = let one : u.0 ≡ e = let other = u.1 in cc in known (subst (HasUnknownMember t) one u.2)
