-- What is given for the parts of a task: the values that it makes, or the part for which it is refused.
use Rattle.std.specs.Prelude.{ℕ, nat_lt, ℤ, pos, negsuc, Bool, not, ◌&&◌, List, find, is_none, bytes_eq, Option, Some, None, option_map, filter_map, if◌then◌else◌}
use Rattle.std.specs.Option.{option_and_then, option_or}
use Rattle.ht_base.specs.declared.kind.Kind.{Kind}
use Rattle.ht_base.specs.declared.kind.Kind.TheVariants as kind
use Rattle.ht_base.specs.declared.moment.Moment.{Moment}
use Rattle.ht_base.specs.declared.parts.Parts.{Parts}
use Rattle.ht_base.specs.declared.scalar.Scalar.{Scalar}
use Rattle.ht_base.specs.declared.scalar.Scalar.TheVariants as scalar
use Rattle.ht_base.specs.declared.value.Value.{Value}
use Rattle.ht_base.specs.declared.value.Value.TheVariants as values
use Rattle.ht_base.specs.declared.values.Values.{Values}
use Rattle.ht_base.specs.Moment.{last_moment}
use Rattle.ht_base.specs.Values as base
use Rattle.ht_entries.specs.Parts.{Part}
use Rattle.ht_people.specs.Directory.{DirectoryOf}
use Rattle.ht_finding.specs.Assigning.{find_user}

-- ---- one value

-- the person whom a text names
abbrev pub person_given : DirectoryOf → Scalar → Option ℕ
person_given d (scalar.Text text) = find_user text d
person_given d _ = None

-- the moment of a whole number of milliseconds
abbrev pub moment_at : ℤ → Option Moment
moment_at (pos n) = if nat_lt last_moment n then None else Some (record { 0 = n })
moment_at (negsuc n) = None

abbrev pub moment_given : Scalar → Option Moment
moment_given (scalar.Int n) = moment_at n
moment_given _ = None

-- the value of this kind that is given
abbrev pub value_of : DirectoryOf → Kind → Scalar → Option Value
value_of d kind.Text (scalar.Text text) = Some (values.Text text)
value_of d kind.Text _ = None
value_of d kind.Int (scalar.Int n) = Some (values.Int n)
value_of d kind.Int _ = None
value_of d kind.Truth (scalar.Truth b) = Some (values.Truth b)
value_of d kind.Truth _ = None
value_of d kind.Person s = option_map values.Person (person_given d s)
value_of d kind.Instant s = option_map values.Instant (moment_given s)

-- ---- parts that are refused

-- the part of this name
abbrev pub part_named : List ℕ → List Part → Option Part
part_named name parts = find (λ p. bytes_eq p.name name) parts

-- what is given for the part of this name
abbrev pub scalar_at : List ℕ → Parts → Option Scalar
scalar_at name given = base.value_of name given

-- the first name of which there is no part
abbrev pub undeclared : List Part → Parts → Option (List ℕ)
undeclared parts given = option_map (λ g. g.0) (find (λ g. is_none (part_named g.0 parts)) given)

-- what is given is of another kind, or nothing is given where something must be
abbrev pub is_unfit : DirectoryOf → Bool → Part → Option Scalar → Bool
is_unfit d required part None = required && not part.optional
is_unfit d required part (Some s) = is_none (value_of d part.kind s)

-- the first of the parts for which the wrong thing is given
abbrev pub unfit : DirectoryOf → Bool → List Part → Parts → Option (List ℕ)
unfit d required parts given = option_map (λ p. p.name) (find (λ p. is_unfit d required p (scalar_at p.name given)) parts)

-- the part for which it is refused: first a name of no part, and then in the order of the parts
abbrev pub refused_part : DirectoryOf → Bool → List Part → Parts → Option (List ℕ)
refused_part d required parts given = option_or (undeclared parts given) (unfit d required parts given)

-- ---- the values

-- of the part of this name
abbrev pub value_for : DirectoryOf → List Part → List ℕ → Scalar → Option Value
value_for d parts name s = option_and_then (λ p. value_of d p.kind s) (part_named name parts)

abbrev pub value_given : DirectoryOf → List Part → List ℕ × Scalar → Option (List ℕ × Value)
value_given d parts g = option_map (λ v. (g.0, v)) (value_for d parts g.0 g.1)

abbrev pub values_given : DirectoryOf → List Part → Parts → Values
values_given d parts given = filter_map (value_given d parts) given
