-- Moves between all lists of tasks.
use Rattle.std.specs.Prelude.{◌≡◌, ℕ, List, Option}
use Rattle.ht_base.specs.declared.task_id.TaskId.{TaskId}
use Rattle.ht_index.specs.declared.moves.Move.{Move}
use Rattle.ht_tree.specs.declared.listed_by.ListedBy.{ListedBy}
use Rattle.ht_tree.specs.declared.listed_by.ListedBy.TheVariants as by
use Rattle.ht_tree.specs.declared.moves.Moves.{Moves}
use Rattle.ht_tree.specs.declared.row.Row.{Row}
use Rattle.ht_tree.specs.ListedBy.{Adds, AreMoves, AreMovesOf, stands_under}

-- they lead from the lists of some rows to those of others
pub record LeadOn (old new : List Row) (moves : Moves) : Type 0 where
  pub subs : AreMoves by.Parent old new moves.subs.items
  pub persons : AreMoves by.Person old new moves.persons.items
  pub live : AreMoves by.Live old new moves.live.items
  pub owners : AreMoves by.Owner old new moves.owners.items

-- they do so of these tasks
pub record LeadOnOf (old new rows : List Row) (moves : Moves) : Type 0 where
  pub subs : AreMovesOf by.Parent old new rows moves.subs.items
  pub persons : AreMovesOf by.Person old new rows moves.persons.items
  pub live : AreMovesOf by.Live old new rows moves.live.items
  pub owners : AreMovesOf by.Owner old new rows moves.owners.items

-- moves of a task were added, by whether it was listed under each key and whether it is
abbrev pub AddsBy : ListedBy → TaskId → Option Row → Option Row → List Move → List Move → Type 0
AddsBy kind task was is old new = Adds task (λ key. stands_under kind key was) (λ key. stands_under kind key is) old new

-- those of a task were added to each
pub record AddEach (task : TaskId) (was is : Option Row) (old new : Moves) : Type 0 where
  pub subs : AddsBy by.Parent task was is old.subs.items new.subs.items
  pub persons : AddsBy by.Person task was is old.persons.items new.persons.items
  pub live : AddsBy by.Live task was is old.live.items new.live.items
  pub owners : AddsBy by.Owner task was is old.owners.items new.owners.items

-- the task is in the same lists
abbrev pub StaysListed : Option Row → Option Row → Type 0
StaysListed was is = (kind : ListedBy) (key : ℕ) → stands_under kind key was ≡ stands_under kind key is
