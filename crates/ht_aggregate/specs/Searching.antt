-- What the searches for the most and the least frequent text find on their way.
use Rattle.std.specs.Prelude.{◌≡◌, ℕ, Bool, false, List, map, bytes_eq, Contains, Option, Some, None}
use Rattle.ht_base.specs.declared.value.Value.{Value}
use Rattle.ht_base.specs.declared.value.Value.TheVariants.{Text}
use Rattle.ht_aggregate.specs.Frequencies.{times}

abbrev pub is_text : List ℕ → Value → Bool
is_text text (Text t) = bytes_eq t text
is_text text _ = false

-- how often each of them occurs
abbrev pub counts : List (List ℕ) → List ℕ
counts texts = map (λ text. times text texts) texts

-- the text with the property, or none where no text has it
abbrev pub IsOneOrNone : (List ℕ → Type 0) → Option (List ℕ) → Type 0
IsOneOrNone Holds (Some text) = Holds text
IsOneOrNone Holds None = (t : List ℕ) → Holds t → ⊥

-- it is one of them, so many times, and no other one is
pub record OccursAlone (texts : List (List ℕ)) (count : ℕ) (text : List ℕ) : Type 0 where
  pub occurs : Contains texts text
  pub counted : times text texts ≡ count
  pub alone : (other : List ℕ) → Contains texts other → times other texts ≡ count → other ≡ text
