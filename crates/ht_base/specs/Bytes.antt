-- What a contract sees of a buffer of bytes.
use Rattle.std.specs.Prelude.{ℕ, List}

-- the bytes, and how many more it takes without memory
pub record BytesOf : Type 0 where
  pub items : List ℕ
  pub spare : ℕ
