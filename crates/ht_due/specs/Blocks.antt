-- Dues in order, in blocks that follow one another.
use Rattle.std.specs.Prelude.{◌≡◌, ℕ, ◌+◌, ◌<◌, ◌≤◌, zero, suc, if◌then◌else◌, List, [], ◌∷◌, ◌++◌, drop, length, nat_le, nat_lt, take}
use Rattle.std.specs.List.{AllByRecursion}
use Rattle.std.specs.declared.cmp.Ordering.TheVariants.{Less}
use Rattle.ht_due.specs.declared.block.TheConstants.{MOST}
use Rattle.ht_due.specs.declared.due.Due.{Due}
use Rattle.ht_due.specs.Dues.{Ascends, compare_dues}

-- the dues of all blocks
abbrev pub joined : List (List Due) → List Due
joined [] = []
joined (block ∷ blocks) = block ++ joined blocks

-- no block has more dues than it may
abbrev pub AreFew : List (List Due) → Type 0
AreFew blocks = AllByRecursion (λ block. length block ≤ MOST) blocks

-- this one and the next don't fit in one
abbrev pub IsApart : List Due → List (List Due) → Type 0
IsApart block [] = Unit {0}
IsApart block (next ∷ blocks) = MOST < length block + length next

-- no two neighbours fit in one block, so there are no more than twice as many blocks as are needed, and one
abbrev pub AreApart : List (List Due) → Type 0
AreApart [] = Unit {0}
AreApart (block ∷ blocks) = IsApart block blocks × AreApart blocks

pub record AreBlocks (blocks : List (List Due)) : Type 0 where
  pub ascend : Ascends (joined blocks)
  pub few : AreFew blocks
  pub apart : AreApart blocks

-- A due stands in one of the blocks from `low` on and before `high`, or belongs into one: what is in those
-- in front comes before it, and what is in those behind comes after it.
pub record IsIn (due : Due) (blocks : List (List Due)) (low high : ℕ) : Type 0 where
  pub some : low < high
  pub within : high ≤ length blocks
  pub front : AllByRecursion (λ other. compare_dues other due ≡ Less) (joined (take low blocks))
  pub behind : AllByRecursion (λ other. compare_dues due other ≡ Less) (joined (drop high blocks))

-- a due is put in front of a block's dues, or into a new block where this one is full or not there
abbrev pub pushed_on : ℕ → Due → List (List Due) → List (List Due)
pushed_on zero due [] = (due ∷ []) ∷ []
pushed_on zero due (block ∷ blocks) = if nat_lt (length block) MOST then (due ∷ block) ∷ blocks else (due ∷ []) ∷ block ∷ blocks
pushed_on (suc place) due [] = []
pushed_on (suc place) due (block ∷ blocks) = block ∷ pushed_on place due blocks

-- a block takes in the next one, where both fit in one
abbrev pub joined_at : ℕ → List (List Due) → List (List Due)
joined_at place [] = []
joined_at zero (block ∷ []) = block ∷ []
joined_at zero (block ∷ next ∷ blocks) = if nat_le (length block + length next) MOST then (block ++ next) ∷ blocks else block ∷ next ∷ blocks
joined_at (suc place) (block ∷ blocks) = block ∷ joined_at place blocks

-- a block that lost a due takes in the next one, and then the one before takes it in
abbrev pub tidied : ℕ → List (List Due) → List (List Due)
tidied zero blocks = joined_at zero blocks
tidied (suc place) blocks = joined_at place (joined_at (suc place) blocks)
