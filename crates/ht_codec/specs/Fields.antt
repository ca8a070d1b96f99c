-- The fields of records, each with its range and with the fault of a value out of it.
use Rattle.std.specs.Prelude.{ℕ, ◌^◌, nat_le, nat_lt, not, length, Bool, true, ◌==◌, ◌&&◌, List, [], ◌∷◌, ℤ, FitsSigned, Ok, Option, Some, None, bytes_eq, if◌then◌else◌}
use Rattle.std.specs.List.{list_any}
use Rattle.std.specs.Str.{is_utf8}
use Rattle.std.specs.Int.{w16, w32, w64, to_le_bytes, cast_signed, cast_unsigned}
use Rattle.ht_base.specs.Moment.{last_moment}
use Rattle.ht_base.specs.Name.{is_name}
use Rattle.ht_base.specs.Values.{is_before}
use Rattle.ht_base.specs.declared.limits.TheConstants.{LONGEST_NAME, LONGEST_OFFICE_TEXT, LONGEST_PERIOD, LONGEST_TEXT, LOWEST_PRIORITY, MOST_NAMES, MOST_PARTS}
use Rattle.ht_base.specs.declared.end.End.{End}
use Rattle.ht_base.specs.declared.end.End.TheVariants as ends
use Rattle.ht_base.specs.declared.moment.Moment.{Moment}
use Rattle.ht_base.specs.declared.retry.Retry.{Retry}
use Rattle.ht_base.specs.declared.role_list.RoleList.{RoleList}
use Rattle.ht_base.specs.declared.role_list.RoleList.TheVariants.{PotentialOwners, ExcludedOwners, Administrators, Stakeholders}
use Rattle.ht_base.specs.declared.scalar.Scalar.{Scalar}
use Rattle.ht_base.specs.declared.scalar.Scalar.TheVariants as scalars
use Rattle.ht_codec.specs.Reading.{◌>>=◌}
use Rattle.ht_codec.specs.Forms.{Form, nothing, byte, number, ◌then◌, tested, seen, coded, sized, flag_of, flag_byte, listed, Line, line, Next, taken, led}
use Rattle.ht_codec.specs.declared.fields.TheConstants.{NO_DEVICE}
use Rattle.ht_codec.specs.declared.kinds.EndKind.{EndKind}
use Rattle.ht_codec.specs.declared.kinds.EndKind.TheVariants as end_kinds
use Rattle.ht_codec.specs.declared.kinds.ScalarKind.{ScalarKind}
use Rattle.ht_codec.specs.declared.kinds.ScalarKind.TheVariants.{Text, Int, Truth}
use Rattle.ht_codec.specs.declared.refusal.CodecRefusal.TheVariants.{Tag, Range}

-- ---- moments and names

-- 8 bytes, at most the last moment there is
unfoldable pub moment : Form Moment
moment = seen (λ n. record { 0 = n }) (λ m. m.0) (tested (λ n. nat_le n last_moment) (number w64 (2 ^ 64)))

-- milliseconds in 8 bytes, at most those of the longest period that a text gives
unfoldable pub period : Form ℕ
period = tested (λ n. nat_le n LONGEST_PERIOD) (number w64 (2 ^ 64))

-- a byte: one at least, and at most the length of the longest name
unfoldable pub name_length : Form ℕ
name_length = tested (λ n. nat_le 1 n && nat_le n LONGEST_NAME) byte

-- its length, and its bytes
unfoldable pub name : Form (List ℕ)
name = tested is_name (sized name_length)

-- ---- the device and the number of a command

-- the number of a device, or the one behind the last for none
abbrev pub device_byte : Option ℕ → ℕ
device_byte None = NO_DEVICE
device_byte (Some d) = d

abbrev pub device_of : ℕ → Option (Option ℕ)
device_of n = if nat_lt n NO_DEVICE then Some (Some n) else if n == NO_DEVICE then Some None else None

unfoldable pub device : Form (Option ℕ)
device = coded Range device_of device_byte byte

-- 4 bytes, at least 1
unfoldable pub retry_number : Form ℕ
retry_number = tested (λ n. nat_le 1 n) (number w32 (2 ^ 32))

-- behind a device its number, and nothing behind none
abbrev pub next_retry : Option ℕ → Next (Option Retry)
next_retry None = taken (λ v. None) nothing
next_retry (Some d) = taken (λ n. Some (record { device = d; number = n })) retry_number

abbrev pub retry_line : Option Retry → Line (Option ℕ)
retry_line None = line None nothing tt
retry_line (Some r) = line (Some r.device) retry_number r.number

unfoldable pub retry : Form (Option Retry)
retry = led device next_retry retry_line

-- ---- texts

-- 2 bytes, at most the length of the longest text
unfoldable pub text_length : Form ℕ
text_length = tested (λ n. nat_le n LONGEST_TEXT) (number w16 (2 ^ 16))

-- its length, and its bytes in UTF-8
unfoldable pub text : Form (List ℕ)
text = tested is_utf8 (sized text_length)

-- a text of at least one byte
unfoldable pub some_text : Form (List ℕ)
some_text = tested (λ t. nat_le 1 (length t)) text

-- ---- lists of names

-- 2 bytes, at most as many names as a list has
unfoldable pub names_count : Form ℕ
names_count = tested (λ n. nat_le n MOST_NAMES) (number w16 (2 ^ 16))

-- none of these is the name
abbrev pub is_new : List (List ℕ) → List ℕ → Bool
is_new front n = not (list_any (λ m. bytes_eq m n) front)

-- A name that stands twice is told where it stands again.
unfoldable pub new_name : List (List ℕ) → Form (List ℕ)
new_name front = tested (is_new front) name

-- their count, and the names
unfoldable pub names : Form (List (List ℕ))
names = listed names_count new_name

-- at least one name
unfoldable pub some_names : Form (List (List ℕ))
some_names = tested (λ ns. nat_le 1 (length ns)) names

-- ---- scalars

-- a whole number of 64 bits, in two's complement
unfoldable pub int : Form ℤ
int = record {
  Fits = λ z. FitsSigned w64 z;
  text = λ z. to_le_bytes w64 (cast_unsigned w64 z);
  Fails = (number w64 (2 ^ 64)).Fails;
  read = λ whole left. (number w64 (2 ^ 64)).read whole left >>= λ n. Ok (cast_signed w64 n.0, n.1);
}

-- 0 or 1. Another byte is a value out of its range.
unfoldable pub truth : Form Bool
truth = coded Range flag_of flag_byte byte

abbrev pub scalar_byte : ScalarKind → ℕ
scalar_byte Text = 0
scalar_byte Int = 1
scalar_byte Truth = 2

abbrev pub scalar_kind_of : ℕ → Option ScalarKind
scalar_kind_of n = if n == 0 then Some Text else if n == 1 then Some Int else if n == 2 then Some Truth else None

unfoldable pub scalar_kind : Form ScalarKind
scalar_kind = coded Tag scalar_kind_of scalar_byte byte

abbrev pub next_scalar : ScalarKind → Next Scalar
next_scalar Text = taken (λ t. scalars.Text t) text
next_scalar Int = taken (λ n. scalars.Int n) int
next_scalar Truth = taken (λ b. scalars.Truth b) truth

abbrev pub scalar_line : Scalar → Line ScalarKind
scalar_line (scalars.Text t) = line Text text t
scalar_line (scalars.Int n) = line Int int n
scalar_line (scalars.Truth b) = line Truth truth b

-- the byte of its kind, and the value
unfoldable pub scalar : Form Scalar
scalar = led scalar_kind next_scalar scalar_line

-- ---- parts

-- a byte, at most as many as a model has
unfoldable pub parts_count : Form ℕ
parts_count = tested (λ n. nat_le n MOST_PARTS) byte

abbrev pub last_name : List (List ℕ × Scalar) → Option (List ℕ)
last_name [] = None
last_name (v ∷ []) = Some v.0
last_name (v ∷ w ∷ vs) = last_name (w ∷ vs)

-- the name stands behind the last one
abbrev pub is_behind : Option (List ℕ) → List ℕ → Bool
is_behind None n = true
is_behind (Some last) n = is_before last n

-- A name out of order is told before its scalar is read.
unfoldable pub name_behind : Option (List ℕ) → Form (List ℕ)
name_behind last = tested (is_behind last) name

abbrev pub new_part : List (List ℕ × Scalar) → Form (List ℕ × Scalar)
new_part front = name_behind (last_name front) then scalar

-- their count, and of each its name and its scalar
unfoldable pub parts : Form (List (List ℕ × Scalar))
parts = listed parts_count new_part

-- at least one part
unfoldable pub some_parts : Form (List (List ℕ × Scalar))
some_parts = tested (λ vs. nat_le 1 (length vs)) parts

-- ---- the list of a role, and a priority

abbrev pub role_byte : RoleList → ℕ
role_byte PotentialOwners = 0
role_byte ExcludedOwners = 1
role_byte Administrators = 2
role_byte Stakeholders = 3

abbrev pub role_of : ℕ → Option RoleList
role_of n = if n == 0 then Some PotentialOwners else if n == 1 then Some ExcludedOwners else if n == 2 then Some Administrators else if n == 3 then Some Stakeholders else None

unfoldable pub role : Form RoleList
role = coded Range role_of role_byte byte

-- a byte up to the lowest priority
unfoldable pub priority : Form ℕ
priority = tested (λ n. nat_le n LOWEST_PRIORITY) byte

-- ---- the end of a suspension

abbrev pub end_byte : EndKind → ℕ
end_byte end_kinds.At = 0
end_byte end_kinds.After = 1

abbrev pub end_kind_of : ℕ → Option EndKind
end_kind_of n = if n == 0 then Some end_kinds.At else if n == 1 then Some end_kinds.After else None

unfoldable pub end_kind : Form EndKind
end_kind = coded Tag end_kind_of end_byte byte

abbrev pub next_end : EndKind → Next End
next_end end_kinds.At = taken (λ m. ends.At m) moment
next_end end_kinds.After = taken (λ n. ends.After n) period

abbrev pub end_line : End → Line EndKind
end_line (ends.At m) = line end_kinds.At moment m
end_line (ends.After n) = line end_kinds.After period n

-- 0 and a moment, or 1 and a period
unfoldable pub end : Form End
end = led end_kind next_end end_line

-- ---- the texts of an office

-- 4 bytes, at most the length of the longest text of an office
unfoldable pub opening_length : Form ℕ
opening_length = tested (λ n. nat_le n LONGEST_OFFICE_TEXT) (number w32 (2 ^ 32))

-- its length, and its bytes
unfoldable pub opening_text : Form (List ℕ)
opening_text = sized opening_length
