-- What a contract sees of a queue of dues.
use Rattle.std.specs.Prelude.{ℕ, List}
use Rattle.ht_due.specs.declared.due.Due.{Due}

-- the dues, ascending, and how many more it takes without memory
pub record QueueOf : Type 0 where
  pub dues : List Due
  pub spare : ℕ
