-- What the fields of a head say (RFC 9112, section 5). A field is its name, and its value without
-- the white space around it.
use Rattle.std.specs.Prelude.{ℕ, Bool, true, false, ◌&&◌, ◌||◌, ◌==◌, List, [], ◌∷◌, Option, Some, None, if◌then◌else◌, codes}
use Rattle.std.specs.List.{list_any}
use Rattle.std.specs.Str.{str_eq_ignore_ascii_case}
use Rattle.ht_base.specs.Name.{name_of}

-- the values of the fields of this name, ASCII case aside, in their order
abbrev pub values_of : List ℕ → List (List ℕ × List ℕ) → List (List ℕ)
values_of name [] = []
values_of name (f ∷ fields) =
    if str_eq_ignore_ascii_case f.0 name then f.1 ∷ values_of name fields else values_of name fields

abbrev pub is_nothing : List (List ℕ) → Bool
is_nothing [] = true
is_nothing (v ∷ values) = false

-- the value, if there is just one
abbrev pub only : List (List ℕ) → Option (List ℕ)
only [] = None
only (v ∷ values) = if is_nothing values then Some v else None

-- the name that a value spells, if it does
abbrev pub name_in : Option (List ℕ) → Option (List ℕ)
name_in None = None
name_in (Some value) = name_of value

-- who sends the request: the name in the one field x-person
abbrev pub person_of : List (List ℕ × List ℕ) → Option (List ℕ)
person_of fields = name_in (only (values_of (codes "x-person") fields))

-- the field asks that the connection close (RFC 9112, section 9.6)
abbrev pub is_close : List ℕ × List ℕ → Bool
is_close f = str_eq_ignore_ascii_case f.0 (codes "connection") && str_eq_ignore_ascii_case f.1 (codes "close")

-- no request follows one of HTTP/1.0, or one that asks for the close
abbrev pub is_last : ℕ → List (List ℕ × List ℕ) → Bool
is_last minor fields = minor == 0 || list_any is_close fields
