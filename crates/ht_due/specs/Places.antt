-- Where a due stands in an ascending list, or else where it would.
use Rattle.std.specs.Prelude.{◌≡◌, ℕ, ◌+◌, ◌<◌, ◌≤◌, false, true, List, length, slice_get}
use Rattle.std.specs.List.{insert, remove}
use Rattle.ht_due.specs.declared.due.Due.{Due}
use Rattle.ht_due.specs.Dues.{has, next_after, put_due, without}

pub record StandsAt (due : Due) (dues : List Due) (place : ℕ) : Type 0 where
  pub within : place < length dues
  pub there : has due dues ≡ true
  pub others : remove dues place ≡ without dues due
  pub next : slice_get dues (place + 1) ≡ next_after due dues

pub record BelongsAt (due : Due) (dues : List Due) (place : ℕ) : Type 0 where
  pub within : place ≤ length dues
  pub absent : has due dues ≡ false
  pub put : insert dues place due ≡ put_due dues due
  pub others : without dues due ≡ dues
  pub next : slice_get dues place ≡ next_after due dues
