-- Whom a people assignment finds (WS-HumanTask 1.1, 3.1 and 3.5): persons of the directory, in
-- ascending order.
use Rattle.std.specs.Prelude.{ℕ, ◌==◌, Bool, true, false, not, ◌&&◌, ◌||◌, List, filter, Option, Some, None}
use Rattle.std.specs.Option.{option_and_then, option_map_or}
use Rattle.ht_base.specs.Name.{name_of}
use Rattle.ht_base.specs.Persons.{has}
use Rattle.ht_base.specs.declared.value.Value.{Value}
use Rattle.ht_base.specs.declared.value.Value.TheVariants as values
use Rattle.ht_expr.specs.Assignments.{Assignment, nobody, everybody, initiator, part, user, group, union, intersect, except, when}
use Rattle.ht_value.specs.declared.environment.Env.{Env}
use Rattle.ht_value.specs.Environment.{given}
use Rattle.ht_expr.specs.Kinds.{Declared}
use Rattle.ht_value.specs.Values.{Outcome, a_truth, value}
use Rattle.ht_people.specs.Directory.{DirectoryOf, find}
use Rattle.ht_people.specs.Membership as people
use Rattle.ht_people.specs.Membership.{is_member}

-- the person with this name, where the text is a name
abbrev pub find_user : List ℕ → DirectoryOf → Option ℕ
find_user text d = option_and_then (λ name. find name d) (name_of text)

-- what an assignment looks at, beside the directory: the parts that are declared for its task, and the
-- task's environment
pub record Sight : Type 0 where
  pub kinds : Declared
  pub env : Env

abbrev pub sight : Declared → Env → Sight
sight kinds env = record { kinds = kinds; env = env }

-- the person that a value is, where it is one
abbrev pub person_of : Option Value → Option ℕ
person_of (Some (values.Person p)) = Some p
person_of _ = None

-- a condition that is true
abbrev pub is_true : Outcome → Bool
is_true (a_truth b) = b
is_true _ = false

-- by the first where the test is true, and else by the second
abbrev pub chosen : Outcome → Bool → Bool → Bool
chosen (a_truth true) first second = first
chosen (a_truth false) first second = second
chosen _ first second = false

-- The person is found. The other trees are expressions, and find nobody.
abbrev pub is_found : DirectoryOf → Sight → Assignment → ℕ → Bool
is_found d s nobody person = false
is_found d s everybody person = true
is_found d s initiator person = person == (s.env).initiator
is_found d s (user text) person = option_map_or (λ p. person == p) (find_user text d) false
is_found d s (group text) person = option_map_or (λ name. is_member d name person) (name_of text) false
is_found d s (union a b) person = is_found d s a person || is_found d s b person
is_found d s (intersect a b) person = is_found d s a person && is_found d s b person
is_found d s (except a b) person = is_found d s a person && not (is_found d s b person)
is_found d s (part side name) person = option_map_or (λ p. person == p) (person_of (given s.env side name)) false
is_found d s (when test a b) person = chosen (value s.kinds s.env test) (is_found d s a person) (is_found d s b person)
is_found d s _ person = false

-- all of them
abbrev pub resolved : DirectoryOf → Sight → Assignment → List ℕ
resolved d s a = filter (is_found d s a) (people.everybody d)

-- but for these, since an excluded owner is never a potential owner
abbrev pub potential_owners : DirectoryOf → Sight → Assignment → List ℕ → List ℕ
potential_owners d s a excluded = filter (λ p. is_found d s a p && not (has p excluded)) (people.everybody d)
