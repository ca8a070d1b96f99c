-- The keys of the body of each operation.
use Rattle.std.specs.Prelude.{ℕ, ◌||◌, List, [], ◌∷◌, Bool, true, false, bytes_eq, codes}
use Rattle.std.specs.List.{list_any}
use Rattle.ht_api.specs.declared.asked.Asked.{Asked}
use Rattle.ht_api.specs.declared.asked.Asked.TheVariants as asked
use Rattle.ht_api.specs.declared.keys.Key.{Key}
use Rattle.ht_api.specs.declared.keys.Key.TheVariants as key

abbrev pub key_name : Key → List ℕ
key_name key.Device = codes "device"
key_name key.Number = codes "number"
key_name key.Model = codes "model"
key_name key.Person = codes "person"
key_name key.Fault = codes "fault"
key_name key.Role = codes "role"
key_name key.Owners = codes "persons"
key_name key.Persons = codes "persons"
key_name key.Priority = codes "priority"
key_name key.Until = codes "until"
key_name key.For = codes "for"
key_name key.OneEnd = codes "until"
key_name key.ActivateAt = codes "activateAt"
key_name key.Text = codes "text"
key_name key.Sub = codes "sub"
key_name key.Input = codes "input"
key_name key.Output = codes "output"
key_name key.SomeOutput = codes "output"

-- those of an operation, each with whether it is required, in the order in which they are looked at
abbrev pub keys_of : Asked → List (Key × Bool)
keys_of asked.Create = (key.Model, false) ∷ (key.ActivateAt, false) ∷ (key.Input, false) ∷ []
keys_of asked.Delegate = (key.Person, true) ∷ []
keys_of asked.Forward = (key.Owners, true) ∷ []
keys_of asked.Nominate = (key.Owners, true) ∷ []
keys_of asked.SetRole = (key.Role, true) ∷ (key.Persons, true) ∷ []
keys_of asked.SetPriority = (key.Priority, true) ∷ []
keys_of asked.SuspendUntil = (key.Until, false) ∷ (key.For, false) ∷ []
keys_of asked.SetOutput = (key.SomeOutput, true) ∷ []
keys_of asked.Complete = (key.Output, false) ∷ []
keys_of asked.Fail = (key.Fault, false) ∷ []
keys_of asked.AddComment = (key.Text, true) ∷ []
keys_of asked.InstantiateSubTask = (key.Sub, true) ∷ []
keys_of _ = []

-- a command may have a number too
abbrev pub is_known : List (Key × Bool) → List ℕ → Bool
is_known rows name = bytes_eq name (key_name key.Device) || (bytes_eq name (key_name key.Number) || list_any (λ r. bytes_eq name (key_name r.0)) rows)
