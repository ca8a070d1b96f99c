-- The members of a group by its name.
use Rattle.std.proofs.Common.{◌≡◌, ◌∙◌, ◌+◌, ◌↔◌, ℕ, Bool, true, false, List, [], Option, Some, None, ap, filter, length, map, option_map}
use Rattle.ht_base.specs.Places.{place_in}
use Rattle.std.specs.Prelude.{slice_index_or}
use Rattle.std.proofs.lemmas.Bool.Decides.{same_from_decides}
use Rattle.std.proofs.lemmas.List.Elements.{filter_agree}
use Rattle.ht_base.specs.declared.limits.TheConstants.{LONGEST_CHAIN}
use Rattle.ht_graph.specs.Graphs.{IsDeeper, IsReached}
use Rattle.ht_graph.proofs.PublicLaws.{near_reached}
use Rattle.ht_people.specs.Directory.{DirectoryOf, members_at}
use Rattle.ht_people.specs.Membership.{everybody, is_in, is_reached, members}
use Rattle.ht_people.proofs.Filtering.{nobody_passes}

module _ (d : DirectoryOf) (group : List ℕ) where
  pub no_group : place_in group (map (λ g. g.name) d.groups) ≡ None → members d group ≡ []
  no_group e = ap (λ (o : Option ℕ). filter (is_in d (option_map (λ i. length d.persons + i) o)) (everybody d)) e ∙ nobody_passes (everybody d)

  pub of_group : (i : ℕ) → place_in group (map (λ g. g.name) d.groups) ≡ Some i → members d group ≡ filter (is_reached d (length d.persons + i)) (everybody d)
  of_group i e = ap (λ (o : Option ℕ). filter (is_in d (option_map (λ i. length d.persons + i) o)) (everybody d)) e

module _ (d : DirectoryOf) where
  pub members_marked : (IsDeeper (members_at d) LONGEST_CHAIN → ⊥) → (from : ℕ) (met : List Bool) → ((place : ℕ) → (slice_index_or met place false ≡ true) ↔ IsReached (members_at d) from place)
      → filter (λ place. slice_index_or met place false) (everybody d) ≡ filter (is_reached d from) (everybody d)
  members_marked short from met reached =
      filter_agree (λ place. slice_index_or met place false) (is_reached d from) (λ place. same_from_decides (slice_index_or met place false) (is_reached d from place) (reached place) (near_reached (members_at d) LONGEST_CHAIN short from place)) (everybody d)
