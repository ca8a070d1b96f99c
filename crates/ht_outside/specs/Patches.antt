-- A write that was made.
use Rattle.std.specs.Prelude.{ℕ, List}

-- the piece, and where it begins
pub record PatchOf : Type 0 where
  pub at : ℕ
  pub piece : List ℕ
