-- What bytes are as JSON, from what the library says of a read.
use Rattle.std.proofs.Common.{◌≡◌, ◌==◌, ℕ, List, length, Bool, true, false, Option, Some, None, codes, refl, if◌then◌else◌}
use Rattle.std.proofs.lemmas.Str.{IsUtf8-from_is_utf8, is_utf8-from_IsUtf8}
use Rattle.std.specs.Str.{IsUtf8, chars, is_utf8}
use Rattle.serde_json.proofs.OnLiterals.{serde_json_on_literals}
use Rattle.serde_json.specs.Data.{Data, object, no_members}
use Rattle.serde_json.specs.Read.{read}
use Rattle.ht_api.specs.Bodies.{json_in}

-- no key stands between the two braces
pub braces : json_in (codes "{}") ≡ Some (object no_members)
unfolding chars is_utf8 serde_json_on_literals
braces = refl

pub json_value : (bytes : List ℕ) (d : Data) → (length bytes == 0) ≡ false → IsUtf8 bytes → read bytes ≡ Some d → json_in bytes ≡ Some d
json_value bytes d some utf8 is = rw (some, is_utf8-from_IsUtf8 bytes utf8) is

none_if : (b : Bool) (o : Option Data) → (b ≡ true → o ≡ None) → (if b then o else None) ≡ None
none_if true o h = h refl
none_if false o h = refl

pub json_none : (bytes : List ℕ) → (length bytes == 0) ≡ false → (IsUtf8 bytes → read bytes ≡ None) → json_in bytes ≡ None
json_none bytes some none = rw some (none_if (is_utf8 bytes) (read bytes) (λ h. none (IsUtf8-from_is_utf8 bytes h)))
