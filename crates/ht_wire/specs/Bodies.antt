-- How long the body of a request is, by the fields of its head (RFC 9112, section 6; RFC 9110, 8.6).
use Rattle.std.specs.Prelude.{ℕ, Bool, ◌&&◌, ◌==◌, not, nat_le, bytes_eq, List, [], ◌∷◌, length, Option, Some, None, Result, Ok, Err, if◌then◌else◌, codes}
use Rattle.std.specs.Char.{is_ascii_digit}
use Rattle.std.specs.List.{list_all}
use Rattle.std.specs.Str.Parse.{digits_value}
use Rattle.ht_wire.specs.declared.limits.TheConstants.{LONGEST_BODY}
use Rattle.ht_wire.specs.Fields.{values_of, is_nothing}

-- 1 to 10 digits, and nothing else
abbrev pub is_length : List ℕ → Bool
is_length value = not (length value == 0) && nat_le (length value) 10 && list_all is_ascii_digit value

abbrev pub length_in : List ℕ → Option ℕ
length_in value = if is_length value then Some (digits_value 10 value) else None

-- the length that the values of content-length say, of which several must be the same text
abbrev pub length_said : List (List ℕ) → Option ℕ
length_said [] = Some 0
length_said (v ∷ values) = if list_all (bytes_eq v) values then length_in v else None

-- a length that a body may have, or the code of the refusal
abbrev pub limited : Option ℕ → Result ℕ ℕ
limited None = Err 400
limited (Some n) = if nat_le n LONGEST_BODY then Ok n else Err 413

-- the length of the body that the fields of a head announce, or the code of the refusal
abbrev pub announced : List (List ℕ × List ℕ) → Result ℕ ℕ
announced fields =
    if is_nothing (values_of (codes "transfer-encoding") fields)
    then limited (length_said (values_of (codes "content-length") fields))
    else Err 501
