-- What the putting of rows one after another takes.
use Rattle.std.specs.Prelude.{◌≡◌, ℕ, ◌+◌, List, [], ◌∷◌, Option, Some, None}
use Rattle.ht_models.specs.Model.{ModelOf}
use Rattle.ht_tree.specs.declared.row.Row.{Row}
use Rattle.ht_tree.specs.Plans.{IsNext}
use Rattle.ht_tree.specs.Rows.{put_in}
use Rattle.ht_tree.specs.Sizes.{top_size}

-- the tasks of all trees, where a row stands in the place of this one, or of none
abbrev pub IsResized : List ModelOf → ℕ → Row → Option Row → ℕ → Type 0
IsResized models total row None new = new ≡ total + top_size models row
IsResized models total row (Some old) new = new + top_size models old ≡ total + top_size models row

-- each row is of a task that is there, or of the next
abbrev pub CanPut : List Row → List Row → Type 0
CanPut rows [] = Unit {0}
CanPut rows (row ∷ puts) = IsNext rows row × CanPut (put_in rows row) puts
