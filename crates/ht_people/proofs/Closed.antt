-- Each member stands at a place of the directory.
use Rattle.std.proofs.Common.{◌≡◌, ◌∙◌, ◌+◌, ◌-◌, ◌<◌, ◌≤◌, ℕ, zero, suc, List, [], ◌∷◌, Option, Some, None, option_map, ap, arith, inl, inr, length, map, refl, subst, sym}
use Rattle.std.specs.Prelude.{filter_map, slice_get}
use Rattle.std.specs.List.{cons_option}
use Rattle.std.specs.Option.{option_map_or}
use Rattle.std.proofs.lemmas.Bool.{cases_lt, le-ltb, lt-ltb}
use Rattle.std.proofs.lemmas.List.{length-map}
use Rattle.std.proofs.lemmas.Option.{slice_get-map, slice_get_within}
use Rattle.std.proofs.lemmas.Simd.{map-map}
use Rattle.ht_base.proofs.PublicLaws.{found_within}
use Rattle.ht_base.specs.Places.{place_in}
use Rattle.ht_graph.specs.Graphs.{IsClosed}
use Rattle.ht_people.specs.declared.entries.MemberName.{MemberName}
use Rattle.ht_people.specs.declared.entries.MemberName.TheVariants.{Person, Group}
use Rattle.ht_people.specs.declared.entries.PersonEntry.{PersonEntry}
use Rattle.ht_people.specs.Directory.{DirectoryOf, GroupOf, directory_of, group_from, group_names, members_at, person_names, place_of, places}
use Rattle.ht_people.specs.PeopleText.{GroupText, PeopleTextOf}

module _ (t : PeopleTextOf) where
  -- the directory, part by part
  pub directory_is : (persons : List PersonEntry) (groups : List GroupOf) → persons ≡ t.persons → groups ≡ map (group_from t) t.groups → ◌≡◌ {A = DirectoryOf} (record { persons = persons; groups = groups }) (directory_of t)
  directory_is persons groups p g = λ i. record { persons = p i; groups = g i }

  pub group_names_are : (groups : List GroupOf) → groups ≡ map (group_from t) t.groups → map (λ g. g.name) groups ≡ group_names t
  group_names_are groups is = ap (map (λ (g : GroupOf). g.name)) is ∙ map-map (λ (g : GroupOf). g.name) (group_from t) t.groups

  count : places (directory_of t) ≡ length t.persons + length t.groups
  count = ap (λ (n : ℕ). length t.persons + n) (length-map t.groups (group_from t))

  place_within : (m : MemberName) (p : ℕ) → place_of t m ≡ Some p → p < places (directory_of t)
  place_within (Person name) p e =
      let low = found_within name (person_names t) p e in
      let persons = length-map t.persons (λ p. p.name) in
      let all = count in
      omega arith
  place_within (Group name) p e = at (place_in name (group_names t)) refl e
    where
      at : (o : Option ℕ) → place_in name (group_names t) ≡ o → option_map (λ i. length t.persons + i) o ≡ Some p → p < places (directory_of t)
      at None is e = cc
      at (Some i) is e =
          let low = found_within name (group_names t) i is in
          let groups = length-map t.groups (λ g. g.name) in
          let same : length t.persons + i ≡ p = cc in
          let all = count in
          omega arith

  -- a member that is known
  member_within : (ms : List MemberName) (i member : ℕ) → slice_get (filter_map (place_of t) ms) i ≡ Some member → member < places (directory_of t)
  member_within [] i member at = cc
  member_within (m ∷ ms) i member at = here (place_of t m) refl i at (λ j e. member_within ms j member e)
    where
      here : (o : Option ℕ) → place_of t m ≡ o → (j : ℕ) → slice_get (cons_option o (filter_map (place_of t) ms)) j ≡ Some member → ((k : ℕ) → slice_get (filter_map (place_of t) ms) k ≡ Some member → member < places (directory_of t)) → member < places (directory_of t)
      here None is j e rest = rest j e
      here (Some p) is zero e rest = let same : p ≡ member = cc in subst (λ (n : ℕ). n < places (directory_of t)) same (place_within m p is)
      here (Some p) is (suc j) e rest = rest j e

  closed : IsClosed (places (directory_of t)) (members_at (directory_of t))
  closed place i member at = elim (cases_lt place (length t.persons)) [
    | inl low ↦ absurd (let e : slice_get [] i ≡ Some member = rw (lt-ltb place (length t.persons) low) at at in cc)
    | inr high ↦ here high (slice_get t.groups (place - length t.persons)) refl (sym (ap (λ (ms : List ℕ). slice_get ms i) (members high)) ∙ at)
  ]
    where
      members : length t.persons ≤ place → members_at (directory_of t) place ≡ option_map_or (λ g. g.members) (option_map (group_from t) (slice_get t.groups (place - length t.persons))) []
      members high = rw (le-ltb place (length t.persons) high, slice_get-map (group_from t) t.groups (place - length t.persons)) refl

      here : length t.persons ≤ place → (o : Option GroupText) → slice_get t.groups (place - length t.persons) ≡ o → slice_get (option_map_or (λ (g : GroupOf). g.members) (option_map (group_from t) o) []) i ≡ Some member → (place < places (directory_of t)) × (member < places (directory_of t))
      here high None is e = absurd (cc)
      here high (Some g) is e =
          let low = slice_get_within t.groups (place - length t.persons) g is in
          let all = count in
          (omega arith, member_within g.members i member e)

  pub closed_at : (d : DirectoryOf) → d ≡ directory_of t → IsClosed (places d) (members_at d)
  closed_at d same = subst (λ (e : DirectoryOf). IsClosed (places e) (members_at e)) (sym same) closed
