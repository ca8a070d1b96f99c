-- A name's bytes are ASCII, and so a text.
use Rattle.std.proofs.Common.{◌≡◌, ℕ, ◌<◌, true, List, [], ◌∷◌, arith}
use Rattle.std.specs.List.{list_all}
use Rattle.std.specs.Str.{IsAscii, IsUtf8}
use Rattle.std.proofs.lemmas.Bool.{and_parts}
use Rattle.std.proofs.lemmas.Bool.Decides.{nat_tests}
use Rattle.std.proofs.lemmas.Str.{IsUtf8-from_ascii}
use Rattle.std.proofs.lemmas.Str.Ascii.{IsAscii-cons, IsAscii-nil}
use Rattle.ht_base.specs.Name.{is_name_byte, IsName}

byte_small : (b : ℕ) → is_name_byte b ≡ true → b < 128
byte_small b h = grind (arith, nat_tests)

all_small : (bytes : List ℕ) → list_all is_name_byte bytes ≡ true → IsAscii bytes
all_small [] h = IsAscii-nil
all_small (b ∷ bs) h = let p = and_parts _ _ h in IsAscii-cons b bs (byte_small b p.0) (all_small bs p.1)

pub name_is_text : (bytes : List ℕ) → IsName bytes → IsUtf8 bytes
name_is_text bytes h = IsUtf8-from_ascii bytes (all_small bytes (and_parts _ _ h).1)
