-- The value of a body.
use Rattle.std.specs.Prelude.{◌≡◌, ℕ, ◌==◌, List, length, Option, Some, None, if◌then◌else◌}
use Rattle.std.specs.Str.{is_utf8}
use Rattle.serde_json.specs.Data.{Data, object, no_members}
use Rattle.serde_json.specs.Read.{read}
use Rattle.ht_api.specs.declared.refusal.ApiRefusal.{ApiRefusal}
use Rattle.ht_api.specs.declared.refusal.ApiRefusal.TheVariants.{Json, Memory}

-- what bytes are as JSON (RFC 8259): no bytes an empty object, and others that are UTF-8 what their text is
abbrev pub json_in : List ℕ → Option Data
json_in bytes = if length bytes == 0 then Some (object no_members) else (if is_utf8 bytes then read bytes else None)

-- why bytes have no value
abbrev pub HasNoValue : List ℕ → ApiRefusal → Type 0
HasNoValue bytes Json = json_in bytes ≡ None
HasNoValue bytes Memory = Unit {0}
HasNoValue bytes _ = ⊥
