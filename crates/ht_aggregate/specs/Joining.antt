-- Texts joined to one that is no longer than a text may be.
use Rattle.std.specs.Prelude.{◌≡◌, ℕ, ◌<◌, ◌≤◌, List, ◌++◌, length, ◌⊎◌}
use Rattle.std.specs.List.{join_by}
use Rattle.std.specs.Str.{IsUtf8}

-- the texts, one behind another, with the delimiter between each two
abbrev pub joined : List ℕ → List (List ℕ) → List ℕ
joined delimiter texts = join_by (λ text. text) delimiter texts

abbrev pub Begins : List ℕ → List ℕ → Type 0
Begins whole front = (rest : List ℕ) × (whole ≡ front ++ rest)

-- It is the longest beginning of whole characters that has at most as many bytes.
pub record IsCut (most : ℕ) (whole front : List ℕ) : Type 0 where
  pub begins : Begins whole front
  pub characters : IsUtf8 front
  pub within : length front ≤ most
  pub longest : (longer : List ℕ) → Begins whole longer → IsUtf8 longer → length front < length longer → most < length longer

-- a beginning that is the whole, or has more bytes than so many
abbrev pub BeginsFar : ℕ → List ℕ → List ℕ → Type 0
BeginsFar most whole front = (whole ≡ front) ⊎ (Begins whole front × (most < length front))
