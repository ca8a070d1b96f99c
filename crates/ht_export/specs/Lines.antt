-- The tasks as comma-separated values (RFC 4180, but with a line feed alone behind each line).
use Rattle.std.specs.Prelude.{List, [], ◌∷◌, ◌++◌, ℕ, Option, codes, decimal, option_map, unwrap_or}
use Rattle.std.specs.List.{flat_map}
use Rattle.csv.specs.Writing.{default_writer, row_text}
use Rattle.ht_base.specs.State.{state_name}
use Rattle.ht_export.specs.Moments.{moment_text}
use Rattle.ht_lists.specs.Naming.{name_of, name_or_none}
use Rattle.ht_lists.specs.Sheets.{model_name}
use Rattle.ht_tree.specs.declared.row.Row.{Row}
use Rattle.ht_tree.specs.Tables.{TablesOf, directory}

-- a value that is missing is an empty field
abbrev pub or_empty : Option (List ℕ) → List ℕ
or_empty text = unwrap_or text []

-- task, parent, model, state, owner, last owner, initiator, priority and moment of creation
abbrev pub fields : TablesOf → Row → List (List ℕ)
fields t row =
    decimal row.task.0 ∷ or_empty (option_map (λ p. decimal p.0.0) row.parent) ∷ model_name t row ∷ state_name row.state
    ∷ or_empty (name_or_none (directory t) row.owner) ∷ or_empty (name_or_none (directory t) row.last_owner) ∷ name_of (directory t) row.initiator
    ∷ decimal row.priority ∷ moment_text row.created.0 ∷ []

-- the fields, with commas between them and a line feed behind; one that has a comma, a quote or a line's end stands in quotes
unfoldable pub line : TablesOf → Row → List ℕ
line t row = row_text default_writer (fields t row)

abbrev pub head_line : List ℕ
head_line = codes "task,parent,model,state,owner,lastOwner,initiator,priority,created\n"

-- the head line, and then a line for each task, in the order of their numbers
abbrev pub export_text : TablesOf → List ℕ
export_text t = head_line ++ flat_map (line t) t.rows
