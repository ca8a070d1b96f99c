-- What holds of a key holds of all: the fields by their keys.
use Rattle.std.proofs.Common.{◌≡◌, refl, subst, ℕ, List, Option, Some, None}
use Rattle.serde_json.specs.Data.{Data}
use Rattle.ht_base.specs.declared.moment.Moment.{Moment}
use Rattle.ht_base.specs.declared.role_list.RoleList.{RoleList}
use Rattle.ht_base.specs.declared.scalar.Scalar.{Scalar}
use Rattle.ht_api.specs.declared.fields.Fields.{Fields}
use Rattle.ht_api.specs.declared.keys.Key.{Key}
use Rattle.ht_api.specs.declared.keys.Key.TheVariants.{Device, Number, Model, Person, Fault, Role, Owners, Persons, Priority, Until, For, OneEnd, ActivateAt, Text, Sub, Input, Output, SomeOutput}
use Rattle.ht_api.specs.Fields.{with_key}
use Rattle.ht_api.specs.Fits.{device_in, moment_in, name_in, number_in, owners_in, parts_in, period_in, persons_in, priority_in, role_in, some_parts_in, text_in}
use Rattle.ht_api.proofs.Fitting.{from_mapped}

-- ---- what the value of each is, which JSON gives it, and in which field it stands

abbrev pub Value : Key → Type 0
Value Device = ℕ
Value Number = ℕ
Value Model = List ℕ
Value Person = List ℕ
Value Fault = List ℕ
Value Role = RoleList
Value Owners = List (List ℕ)
Value Persons = List (List ℕ)
Value Priority = ℕ
Value Until = Moment
Value For = ℕ
Value OneEnd = ⊥
Value ActivateAt = Moment
Value Text = List ℕ
Value Sub = List ℕ
Value Input = List (List ℕ × Scalar)
Value Output = List (List ℕ × Scalar)
Value SomeOutput = List (List ℕ × Scalar)

abbrev pub fitting : (key : Key) → Data → Option (Value key)
fitting Device d = device_in d
fitting Number d = number_in d
fitting Model d = name_in d
fitting Person d = name_in d
fitting Fault d = name_in d
fitting Role d = role_in d
fitting Owners d = owners_in d
fitting Persons d = persons_in d
fitting Priority d = priority_in d
fitting Until d = moment_in d
fitting For d = period_in d
fitting OneEnd d = None
fitting ActivateAt d = moment_in d
fitting Text d = text_in d
fitting Sub d = name_in d
fitting Input d = parts_in d
fitting Output d = parts_in d
fitting SomeOutput d = some_parts_in d

abbrev pub field : (key : Key) → Fields → Option (Value key)
field Device f = f.device
field Number f = f.number
field Model f = f.model
field Person f = f.person
field Fault f = f.fault
field Role f = f.role
field Owners f = f.owners
field Persons f = f.persons
field Priority f = f.priority
field Until f = f.until
field For f = f.period
field OneEnd f = None
field ActivateAt f = f.activate_at
field Text f = f.text
field Sub f = f.sub
field Input f = f.input
field Output f = f.output
field SomeOutput f = f.some_output

abbrev pub with_field : (key : Key) → Fields → Value key → Fields
with_field Device f a = record f { device = Some a }
with_field Number f a = record f { number = Some a }
with_field Model f a = record f { model = Some a }
with_field Person f a = record f { person = Some a }
with_field Fault f a = record f { fault = Some a }
with_field Role f a = record f { role = Some a }
with_field Owners f a = record f { owners = Some a }
with_field Persons f a = record f { persons = Some a }
with_field Priority f a = record f { priority = Some a }
with_field Until f a = record f { until = Some a }
with_field For f a = record f { period = Some a }
with_field OneEnd f a = f
with_field ActivateAt f a = record f { activate_at = Some a }
with_field Text f a = record f { text = Some a }
with_field Sub f a = record f { sub = Some a }
with_field Input f a = record f { input = Some a }
with_field Output f a = record f { output = Some a }
with_field SomeOutput f a = record f { some_output = Some a }

-- ---- a value is put

-- the value that is put stands in its field
pub put_there : (key : Key) (f : Fields) (a : Value key) → field key (with_field key f a) ≡ Some a
put_there Model f a = refl
put_there OneEnd f a = absurd a
put_there key f a = refl

pub from_key : (key : Key) (d : Data) (f g : Fields) → with_key key d f ≡ Some g → (a : Value key) × (fitting key d ≡ Some a) × (with_field key f a ≡ g)
from_key OneEnd d f g e = cc
from_key Model d f g e = from_mapped (with_field Model f) (fitting Model d) g e
from_key key d f g e = from_mapped (with_field key f) (fitting key d) g e

-- and the other fields stay: what holds of them and of the value, holds of each field then
module _ (P : (key : Key) → Option (Value key) → Type 0) where
  put_keeps : (j : Key) (f : Fields) (a : Value j) → P j (Some a) → ((k : Key) → P k (field k f)) → (k : Key) → P k (field k (with_field j f a))
  put_keeps Device f a here all Device = here
  put_keeps Device f a here all k = all k
  put_keeps Number f a here all Number = here
  put_keeps Number f a here all k = all k
  put_keeps Model f a here all Model = here
  put_keeps Model f a here all k = all k
  put_keeps Person f a here all Person = here
  put_keeps Person f a here all k = all k
  put_keeps Fault f a here all Fault = here
  put_keeps Fault f a here all k = all k
  put_keeps Role f a here all Role = here
  put_keeps Role f a here all k = all k
  put_keeps Owners f a here all Owners = here
  put_keeps Owners f a here all k = all k
  put_keeps Persons f a here all Persons = here
  put_keeps Persons f a here all k = all k
  put_keeps Priority f a here all Priority = here
  put_keeps Priority f a here all k = all k
  put_keeps Until f a here all Until = here
  put_keeps Until f a here all k = all k
  put_keeps For f a here all For = here
  put_keeps For f a here all k = all k
  put_keeps ActivateAt f a here all ActivateAt = here
  put_keeps ActivateAt f a here all k = all k
  put_keeps OneEnd f a here all k = absurd a
  put_keeps Text f a here all Text = here
  put_keeps Text f a here all k = all k
  put_keeps Sub f a here all Sub = here
  put_keeps Sub f a here all k = all k
  put_keeps Input f a here all Input = here
  put_keeps Input f a here all k = all k
  put_keeps Output f a here all Output = here
  put_keeps Output f a here all k = all k
  put_keeps SomeOutput f a here all SomeOutput = here
  put_keeps SomeOutput f a here all k = all k

  pub key_keeps : (j : Key) (d : Data) (f g : Fields) → with_key j d f ≡ Some g → ((a : Value j) → fitting j d ≡ Some a → P j (Some a)) → ((k : Key) → P k (field k f)) → (k : Key) → P k (field k g)
  key_keeps j d f g e here all =
      let m = from_key j d f g e in
      subst (λ (g : Fields). (k : Key) → P k (field k g)) m.2 (put_keeps j f m.0 (here m.0 m.1) all)
