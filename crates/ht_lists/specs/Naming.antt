-- Persons by their names, also where they are values of parts or have commented.
use Rattle.std.specs.Prelude.{◌≡◌, ℕ, pos, true, List, [], map, Option, option_map, unwrap_or, slice_get}
use Rattle.std.specs.List.{list_all}
use Rattle.ht_base.specs.declared.parts.Parts.{Parts}
use Rattle.ht_base.specs.declared.scalar.Scalar.{Scalar}
use Rattle.ht_base.specs.declared.scalar.Scalar.TheVariants as scalar
use Rattle.ht_base.specs.declared.shown_comments.ShownComment.{ShownComment}
use Rattle.ht_base.specs.declared.value.Value.{Value}
use Rattle.ht_base.specs.declared.value.Value.TheVariants as values
use Rattle.ht_base.specs.declared.values.Values.{Values}
use Rattle.ht_people.specs.Directory.{DirectoryOf}
use Rattle.ht_tree.specs.declared.comments.Comment.{Comment}
use Rattle.ht_tree.specs.Soundness.{is_known, is_timely}

abbrev pub name_of : DirectoryOf → ℕ → List ℕ
name_of d person = unwrap_or (slice_get (map (λ p. p.name) d.persons) person) []

abbrev pub names_of : DirectoryOf → List ℕ → List (List ℕ)
names_of d persons = map (name_of d) persons

abbrev pub name_or_none : DirectoryOf → Option ℕ → Option (List ℕ)
name_or_none d person = option_map (name_of d) person

-- persons who are values are there, and moments that are values are at most the last
pub record AreShown (persons : ℕ) (vs : Values) : Type 0 where
  pub known : list_all (is_known persons) vs ≡ true
  pub timely : list_all is_timely vs ≡ true

-- a value as it is given: a person by name, and an instant in milliseconds
abbrev pub scalar_of : DirectoryOf → Value → Scalar
scalar_of d (values.Text text) = scalar.Text text
scalar_of d (values.Int n) = scalar.Int n
scalar_of d (values.Truth b) = scalar.Truth b
scalar_of d (values.Person person) = scalar.Text (name_of d person)
scalar_of d (values.Instant m) = scalar.Int (pos m.0)

abbrev pub parts_of : DirectoryOf → Values → Parts
parts_of d vs = map (λ v. (v.0, scalar_of d v.1)) vs

abbrev pub shown_comment : DirectoryOf → Comment → ShownComment
shown_comment d c = record { moment = c.moment; person = name_of d c.person; text = c.text }

abbrev pub comments_of : DirectoryOf → List Comment → List ShownComment
comments_of d cs = map (shown_comment d) cs
