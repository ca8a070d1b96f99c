-- The first of the keys that were offered, and how many were offered.
use Rattle.std.specs.Prelude.{◌≡◌, ℕ, ◌+◌, ◌<◌, Bool, false, not, List, [], length, max, take}
use Rattle.std.specs.List.{AllByRecursion}
use Rattle.std.specs.Ordering.{is_lt}
use Rattle.ht_lists.specs.declared.best.TheConstants.{BEHIND_ALL, SPARE}
use Rattle.ht_lists.specs.declared.keys.Key.{Key}
use Rattle.ht_lists.specs.Keys.{compare_keys}
use Rattle.ht_lists.specs.Sorted.{put_by, sorted_by}

pub record BestOf : Type 0 where
  pub limit : ℕ
  pub keys : List Key
  pub total : ℕ

-- none were offered, of which so many are wanted
abbrev pub none_of : ℕ → BestOf
none_of limit = record { limit = limit; keys = []; total = 0 }

-- with one more: in its place among the others, of which only the first so many are kept
abbrev pub with_held : BestOf → Key → BestOf
with_held b key = record { limit = b.limit; keys = take b.limit (put_by compare_keys b.keys key); total = b.total }

-- where so many were offered
abbrev pub told : BestOf → ℕ → BestOf
told b offered = record { limit = b.limit; keys = b.keys; total = offered }

-- with one more offered
abbrev pub with_key : BestOf → Key → BestOf
with_key b key = told (with_held b key) (b.total + 1)

-- of all keys that were offered, in order, the first so many
abbrev pub best_of : ℕ → List Key → BestOf
best_of limit offered = record { limit = limit; keys = take limit (sorted_by compare_keys offered); total = length offered }

-- ---- how they are held

-- the first so many of these, in order
abbrev pub first_of : ℕ → List Key → List Key
first_of limit keys = take limit (sorted_by compare_keys keys)

-- as many as are wanted are there, none of which comes after the bound
pub record IsBounded (limit : ℕ) (first : List Key) (bound : Key) : Type 0 where
  pub full : length first ≡ limit
  pub low : AllByRecursion (λ k. is_lt (compare_keys bound k) ≡ false) first

-- a key that comes behind those of all tasks says nothing of them
abbrev pub Bounds : ℕ → List Key → Key → Type 0
Bounds limit first bound = bound.priority < BEHIND_ALL → IsBounded limit first bound

-- the key doesn't come before the bound
abbrev pub is_behind : Key → Key → Bool
is_behind key bound = not (is_lt (compare_keys key bound))

-- how many are held at most
abbrev pub room_for : ℕ → ℕ
room_for limit = limit + max limit SPARE
