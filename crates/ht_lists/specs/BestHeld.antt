-- How the first of the keys that were offered are held.
use Rattle.std.specs.Prelude.{◌^◌, ◌<◌, length}
use Rattle.ht_lists.specs.declared.best.Best.TheInside.{Inside}
use Rattle.ht_lists.specs.Best.{BestOf, Bounds, first_of, room_for}

abbrev pub best_held : Inside → BestOf
best_held b = record { limit = b.limit; keys = first_of b.limit b.keys.items; total = b.total }

pub record IsHeld (b : Inside) : Type 0 where
  pub bounds : Bounds b.limit (first_of b.limit b.keys.items) b.bound
  pub few : length b.keys.items < room_for b.limit
  pub small : b.limit < 2 ^ 33
