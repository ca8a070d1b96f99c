-- What whole numbers give together.
use Rattle.std.specs.Prelude.{ℤ, pos, ◌+ℤ◌, ◌*ℤ◌, ◌<ℤ◌, ◌≤ℤ◌, List, [], ◌∷◌, length, All, Contains}

pub record IsLeast (numbers : List ℤ) (least : ℤ) : Type 0 where
  pub occurs : Contains numbers least
  pub bound : All (λ n. least ≤ℤ n) numbers

pub record IsGreatest (numbers : List ℤ) (greatest : ℤ) : Type 0 where
  pub occurs : Contains numbers greatest
  pub bound : All (λ n. n ≤ℤ greatest) numbers

-- the exact sum
abbrev pub total : List ℤ → ℤ
total [] = pos 0
total (n ∷ ns) = n +ℤ total ns

-- The sum divided by how many they are, rounded down: so many times this number is at most the sum,
-- and so many times the next number is more.
pub record IsAverage (numbers : List ℤ) (average : ℤ) : Type 0 where
  pub within : (average *ℤ pos (length numbers)) ≤ℤ total numbers
  pub next : total numbers <ℤ ((average +ℤ pos 1) *ℤ pos (length numbers))
