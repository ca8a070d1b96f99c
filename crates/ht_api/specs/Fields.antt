-- The fields that a body gives.
use Rattle.std.specs.Prelude.{◌&&◌, Bool, true, false, List, [], ◌∷◌, codes, Option, Some, None, is_some, option_map, Result, Ok, Err, if◌then◌else◌}
use Rattle.serde_json.specs.Data.{Data, Members, no_members, member}
use Rattle.serde_json.specs.Find.{as_object, get}
use Rattle.ht_api.specs.declared.asked.Asked.{Asked}
use Rattle.ht_api.specs.declared.asked.Asked.TheVariants as asked
use Rattle.ht_api.specs.declared.fields.Fields.{Fields}
use Rattle.ht_api.specs.declared.keys.Key.{Key}
use Rattle.ht_api.specs.declared.keys.Key.TheVariants.{Device, Number, Model, Person, Fault, Role, Owners, Persons, Priority, Until, For, OneEnd, ActivateAt, Text, Sub, Input, Output, SomeOutput}
use Rattle.ht_api.specs.declared.refusal.ApiRefusal.{ApiRefusal}
use Rattle.ht_api.specs.declared.refusal.ApiRefusal.TheVariants.{Json, Field}
use Rattle.ht_api.specs.Fits.{device_in, moment_in, name_in, number_in, owners_in, parts_in, period_in, persons_in, priority_in, role_in, some_parts_in, text_in}
use Rattle.ht_api.specs.Keys.{key_name, keys_of, is_known}

abbrev pub no_fields : Fields
no_fields = record {
  device = None;
  number = None;
  model = None;
  person = None;
  fault = None;
  role = None;
  owners = None;
  persons = None;
  priority = None;
  until = None;
  period = None;
  activate_at = None;
  text = None;
  sub = None;
  input = None;
  output = None;
  some_output = None;
}

-- the fields with the value of this key, if it fits
abbrev pub with_key : Key → Data → Fields → Option Fields
with_key Device d f = option_map (λ n. record f { device = Some n }) (device_in d)
with_key Number d f = option_map (λ n. record f { number = Some n }) (number_in d)
with_key Model d f = option_map (λ n. record f { model = Some n }) (name_in d)
with_key Person d f = option_map (λ n. record f { person = Some n }) (name_in d)
with_key Fault d f = option_map (λ n. record f { fault = Some n }) (name_in d)
with_key Role d f = option_map (λ r. record f { role = Some r }) (role_in d)
with_key Owners d f = option_map (λ ns. record f { owners = Some ns }) (owners_in d)
with_key Persons d f = option_map (λ ns. record f { persons = Some ns }) (persons_in d)
with_key Priority d f = option_map (λ n. record f { priority = Some n }) (priority_in d)
with_key Until d f = option_map (λ m. record f { until = Some m }) (moment_in d)
with_key For d f = option_map (λ p. record f { period = Some p }) (period_in d)
with_key OneEnd d f = None
with_key ActivateAt d f = option_map (λ m. record f { activate_at = Some m }) (moment_in d)
with_key Text d f = option_map (λ t. record f { text = Some t }) (text_in d)
with_key Sub d f = option_map (λ n. record f { sub = Some n }) (name_in d)
with_key Input d f = option_map (λ ps. record f { input = Some ps }) (parts_in d)
with_key Output d f = option_map (λ ps. record f { output = Some ps }) (parts_in d)
with_key SomeOutput d f = option_map (λ ps. record f { some_output = Some ps }) (some_parts_in d)

-- without a key's value, if it isn't required
abbrev pub without : Bool → Fields → Option Fields
without true f = None
without false f = Some f

abbrev pub turn : Key × Bool → Option Data → Fields → Option Fields
turn row None f = without row.1 f
turn row (Some d) f = with_key row.0 d f

abbrev pub or_refused : Key → (Fields → Result Fields ApiRefusal) → Option Fields → Result Fields ApiRefusal
or_refused key next None = Err (Field (key_name key))
or_refused key next (Some f) = next f

-- key by key, up to the first that is missing or doesn't fit
abbrev pub taken : List (Key × Bool) → Data → Fields → Result Fields ApiRefusal
taken [] d f = Ok f
taken (row ∷ rows) d f = or_refused row.0 (taken rows d) (turn row (get (key_name row.0) d) f)

abbrev pub all_known : List (Key × Bool) → Members → Bool
all_known rows no_members = true
all_known rows (member k d ms) = is_known rows k && all_known rows ms

abbrev pub are_known : List (Key × Bool) → Option Members → Bool
are_known rows None = false
are_known rows (Some ms) = all_known rows ms

-- a device and a number stand together
abbrev pub number_keys : Data → List (Key × Bool)
number_keys d = (Device, is_some (get (key_name Number) d)) ∷ (Number, is_some (get (key_name Device) d)) ∷ []

-- A suspension has one end. Where it is said twice, or not at all, the key of it can't be filled.
abbrev pub end_rows : Bool → Bool → List (Key × Bool)
end_rows true false = (Until, true) ∷ []
end_rows false true = (For, true) ∷ []
end_rows true true = (OneEnd, true) ∷ []
end_rows false false = (OneEnd, true) ∷ []

-- the keys that are looked at, in their order
abbrev pub rows_in : Asked → Data → List (Key × Bool)
rows_in asked.SuspendUntil d = end_rows (is_some (get (key_name Until) d)) (is_some (get (key_name For) d))
rows_in what d = keys_of what

abbrev pub then_taken : List (Key × Bool) → Data → Result Fields ApiRefusal → Result Fields ApiRefusal
then_taken rows d (Err why) = Err why
then_taken rows d (Ok f) = taken rows d f

-- of an object with no other keys: those of its number, and then the operation's
abbrev pub fields_in : Asked → Data → Result Fields ApiRefusal
fields_in asked d =
    if are_known (keys_of asked) (as_object d) then then_taken (rows_in asked d) d (taken (number_keys d) d no_fields) else Err (Field (codes "body"))

-- and none where there is no JSON
abbrev pub fields_from : Asked → Option Data → Result Fields ApiRefusal
fields_from asked None = Err Json
fields_from asked (Some d) = fields_in asked d
