-- What a models text says, by the shape of its document: an array of task models.
use Rattle.std.specs.Prelude.{◌≡◌, ◌⊎◌, ℕ, ◌&&◌, Bool, true, false, List, [], ◌∷◌, Option, Some, None, unwrap_or, codes, if◌then◌else◌}
use Rattle.toml.specs.Data.{Data, Members}
use Rattle.ht_toml.specs.Documents.{Says}
use Rattle.ht_toml.specs.Entries as shape
use Rattle.ht_toml.specs.Entries.{each}
use Rattle.ht_toml.specs.Keys.{required}
use Rattle.ht_toml.specs.Tables.{entries_of, has_only}
use Rattle.ht_entries.specs.ModelEntries.{ModelEntry, entry_of}

-- the one top key is model, an array with at least one entry
abbrev pub has_entry : Option (List Data) → Bool
has_entry None = false
has_entry (Some []) = false
has_entry (Some (d ∷ ds)) = true

abbrev pub is_top : Members → Bool
is_top ms = has_only (codes "model" ∷ []) ms && has_entry (required entries_of (codes "model") ms)

abbrev pub entries : Members → List Data
entries ms = unwrap_or (required entries_of (codes "model") ms) []

-- what the document says, where all of it has its shape
abbrev pub models_text : Members → Option (List ModelEntry)
models_text ms = if is_top ms then each entry_of (entries ms) else None

abbrev pub IsModelsText : List ℕ → List ModelEntry → Type 0
IsModelsText text t = Says models_text text t

-- an entry has another shape, or at place 0 the document
abbrev pub IsMisshapen : Members → ℕ → Type 0
IsMisshapen ms place = ((is_top ms ≡ false) × (place ≡ 0)) ⊎ shape.IsMisshapen entry_of (entries ms) place
