-- A source, a sink and texts in memory, of which a test says which calls fail.
use Rattle.std.specs.Prelude.{ℕ, List, [], Option, None, Some, find, take, drop}
use Rattle.std.specs.Str.{bytes_eq}
use Rattle.ht_base.specs.Bytes.{BytesOf}
use Rattle.ht_outside.specs.Tells.{Flow}
use Rattle.ht_outside.specs.Texts.{TextsState}
use Rattle.ht_outside.specs.declared.asked.Asked.{Asked}

-- where a list of bytes is cut after those taken, and was at the last read
abbrev pub flow_at : ℕ → ℕ → List ℕ → Flow
flow_at at last bytes = record { left = drop at bytes; taken = take at bytes; before = take last bytes }

-- failing: the numbers of the calls that fail, counted from 1
pub record ScriptedSource : Type 0 where
  pub flow : Flow
  pub failing : List ℕ
  pub calls : ℕ
  pub faults : ℕ

pub record ScriptedSink : Type 0 where
  pub written : List ℕ
  pub failing : List ℕ
  pub calls : ℕ
  pub faults : ℕ

-- texts: each with its name in front
pub record ScriptedTexts : Type 0 where
  pub texts : List (List ℕ × BytesOf)
  pub asked : List Asked
  pub failing : List ℕ
  pub calls : ℕ
  pub faults : ℕ

-- where there is no text there are no bytes
abbrev pub bytes_or_none : Option (List ℕ × BytesOf) → List ℕ
bytes_or_none None = []
bytes_or_none (Some text) = text.1.items

-- the bytes of the first text with this name
abbrev pub bytes_named : List (List ℕ × BytesOf) → List ℕ → List ℕ
bytes_named texts name = bytes_or_none (find (λ text. bytes_eq text.0 name) texts)

-- what they tell
abbrev pub told_by : ScriptedTexts → TextsState
told_by t = record { texts = Some (bytes_named t.texts); faults = t.faults; asked = t.asked }
