-- How often texts occur, and which one does so most or least often. Texts that occur equally often tie.
use Rattle.std.specs.Prelude.{◌≡◌, ◌≢◌, ℕ, ◌*◌, ◌<◌, List, [], length, count_by, bytes_eq, ◌⊎◌, Contains}

-- how often the text is among these
abbrev pub times : List ℕ → List (List ℕ) → ℕ
times text texts = count_by (λ t. bytes_eq t text) texts

-- it is one of them, and each other text is among them fewer times
pub record IsMostFrequent (texts : List (List ℕ)) (text : List ℕ) : Type 0 where
  pub occurs : Contains texts text
  pub others : (other : List ℕ) → other ≢ text → times other texts < times text texts

-- it is one of them, and each other one is among them more times
pub record IsLeastFrequent (texts : List (List ℕ)) (text : List ℕ) : Type 0 where
  pub occurs : Contains texts text
  pub others : (other : List ℕ) → Contains texts other → other ≢ text → times text texts < times other texts

-- it is the most frequent, and more than this percent of them are it
pub record IsElected (percent : ℕ) (texts : List (List ℕ)) (text : List ℕ) : Type 0 where
  pub most : IsMostFrequent texts text
  pub enough : percent * length texts < 100 * times text texts

-- the text has the property; or no text has it, and this is the empty one
abbrev pub IsOneOrEmpty : (List ℕ → Type 0) → List ℕ → Type 0
IsOneOrEmpty Holds text = Holds text ⊎ (((t : List ℕ) → Holds t → ⊥) × (text ≡ []))
