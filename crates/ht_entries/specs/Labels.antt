-- The names of parts, sub entries, deadlines and escalations. Expressions speak of parts with marks
-- between their words, so these names hold none.
use Rattle.std.specs.Prelude.{ℕ, Bool, false, ◌&&◌, ◌==◌, not, List, [], ◌∷◌, Option, Some, None, if◌then◌else◌}
use Rattle.std.specs.Char.{is_ascii_alphabetic}
use Rattle.std.specs.List.{list_all}
use Rattle.std.specs.Option.{option_and_then}
use Rattle.toml.specs.Data.{Data, as_str}
use Rattle.ht_base.specs.Name.{is_name}

abbrev pub begins_with_letter : List ℕ → Bool
begins_with_letter [] = false
begins_with_letter (b ∷ bytes) = is_ascii_alphabetic b

-- neither . nor -
abbrev pub is_no_mark : ℕ → Bool
is_no_mark b = not (b == 46) && not (b == 45)

-- a name without . and - that begins with a letter
abbrev pub is_label : List ℕ → Bool
is_label bytes = is_name bytes && begins_with_letter bytes && list_all is_no_mark bytes

abbrev pub label : List ℕ → Option (List ℕ)
label bytes = if is_label bytes then Some bytes else None

abbrev pub label_of : Data → Option (List ℕ)
label_of d = option_and_then label (as_str d)
