-- How rows that are put are kept, and the index of their tasks.
use Rattle.std.specs.Prelude.{◌≡◌, ◌<◌, ℕ, List, [], ◌∷◌, ◌++◌, drop, map, Option, None}
use Rattle.std.specs.Ordering.{nat_cmp}
use Rattle.std.specs.BTreeMap as tree
use Rattle.ht_tree.specs.declared.index.Index.TheInside.{Inside}
use Rattle.ht_tree.specs.declared.index.Put.{Put}
use Rattle.ht_tree.specs.declared.puts.Puts.TheInside.{Inside as PutsInside}
use Rattle.ht_tree.specs.declared.row.Row.{Row}
use Rattle.ht_tree.specs.Places.{last_place, tasks_of}

abbrev pub tasks_in : List Put → List ℕ
tasks_in puts = map (λ p. p.task) puts

abbrev pub tasks_kept : Inside → List ℕ
tasks_kept x = tasks_in x.puts.items

-- of each task the place at which it stood before, behind these
abbrev pub links : List ℕ → List ℕ → List (Option ℕ)
links front [] = []
links front (t ∷ ts) = last_place t front ∷ links (front ++ t ∷ []) ts

-- the index finds the last place of each task, and the links are those of the tasks
pub record Indexes (last : tree.BTreeMap ℕ ℕ) (puts : List Put) : Type 0 where
  pub found : (task : ℕ) → tree.get nat_cmp last task ≡ last_place task (tasks_in puts)
  pub linked : map (λ p. p.before) puts ≡ links [] (tasks_in puts)

abbrev pub IsIndexed : Inside → Type 0
IsIndexed x = Indexes x.last x.puts.items

-- ---- all rows but the first few have an index

abbrev pub puts_in : PutsInside → List Row
puts_in p = p.rows.items

pub record AreIndexed (p : PutsInside) : Type 0 where
  pub others : p.others ≡ tasks_of (drop 4 p.rows.items)
  -- no row is of a task behind the highest
  pub highest : (task : ℕ) → p.highest < task → last_place task (tasks_of p.rows.items) ≡ None
