-- Which sub task may be made by hand (WS-HumanTask 1.1, 4.7).
use Rattle.ht_models.specs.Contradictions.{is_automatic}
use Rattle.std.specs.Prelude.{◌≡◌, ℕ, ◌+◌, Bool, not, ◌&&◌, ◌||◌, bytes_eq, List, [], ◌∷◌, Option, Some, None, if◌then◌else◌}
use Rattle.std.specs.Option.{option_and_then}
use Rattle.ht_compose.specs.Finishes.{all_ended}
use Rattle.ht_compose.specs.Items.{is_sequential}
use Rattle.ht_models.specs.Model.{ModelOf}
use Rattle.ht_entries.specs.SubEntries.{SubEntry}
use Rattle.ht_tree.specs.declared.row.Row.{Row}
use Rattle.ht_tree.specs.Families.{is_made}
use Rattle.ht_tree.specs.Tables.{TablesOf, model_of, task_row}

-- That of an entry of a model whose sub tasks don't come by themselves, once. Where they come one behind
-- another, the sub tasks of all entries before it have ended.
abbrev pub may_be_made : List Row → ModelOf → ℕ → ℕ → Bool
may_be_made rows m task entry =
    not (is_automatic m.instantiation) && not (is_made task entry rows) && (not (is_sequential m.composition) || all_ended task entry rows)

-- the place of the first of these entries that has the name, where they are counted from a number on
abbrev pub named_from : ℕ → List ℕ → List SubEntry → Option ℕ
named_from place name [] = None
named_from place name (e ∷ es) = if bytes_eq e.name name then Some place else named_from (place + 1) name es

-- the place of the entry of this name, if its sub task may be made
abbrev pub entry_of : List Row → ModelOf → ℕ → List ℕ → Option ℕ
entry_of rows m task name = option_and_then (λ entry. if may_be_made rows m task entry then Some entry else None) (named_from 0 name m.subs)

-- of a task that is there
abbrev pub IsEntryOf : TablesOf → ℕ → List ℕ → Option ℕ → Type 0
IsEntryOf u task name found = (row : Row) × (m : ModelOf) × (task_row u task ≡ Some row) × (model_of u row ≡ Some m) × (found ≡ entry_of u.rows m task name)
