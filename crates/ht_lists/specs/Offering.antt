-- What is still asked of tasks in which a person is known to have a role.
use Rattle.std.specs.Prelude.{ℕ, Bool, true, false, not, List, ◌∷◌, filter, filter_map, map, Option, Some, None}
use Rattle.ht_base.specs.declared.query.Which.{Which}
use Rattle.ht_base.specs.declared.query.Which.TheVariants as which
use Rattle.ht_base.specs.declared.role.Role.{Role}
use Rattle.ht_base.specs.declared.role.Role.TheVariants.{ActualOwner, Operator}
use Rattle.ht_base.specs.declared.task_id.TaskId.{TaskId}
use Rattle.ht_base.specs.State.{is_final}
use Rattle.ht_lists.specs.declared.keys.Key.{Key}
use Rattle.ht_lists.specs.Keys.{key_of}
use Rattle.ht_lists.specs.Lists.{is_listed, is_shown}
use Rattle.ht_tree.specs.declared.row.Row.{Row}
use Rattle.ht_tree.specs.Tables.{TablesOf, task_row}

-- the role that no task gives
abbrev pub is_operator : Option Role → Bool
is_operator (Some Operator) = true
is_operator _ = false

-- the role whose tasks are listed by themselves
abbrev pub is_owner : Option Role → Bool
is_owner (Some ActualOwner) = true
is_owner _ = false

-- no task that is final is asked for
abbrev pub is_live : Which → Bool
is_live which.Live = true
is_live which.All = false
is_live (which.Only one) = not (is_final one)

-- what is still asked of a task that isn't final
abbrev pub asked_of_live : Which → Which
asked_of_live which.Live = which.All
asked_of_live which.All = which.All
asked_of_live (which.Only one) = which.Only one

-- a task that was found, if one was, before those that are left
abbrev pub left : Option TaskId → List TaskId → List TaskId
left None rest = rest
left (Some id) rest = id ∷ rest

-- a task in which the person has a role is listed
abbrev pub is_asked : TablesOf → ℕ → Option Role → Which → Row → Bool
is_asked t person None which row = is_shown which row.state
is_asked t person (Some role) which row = is_listed t person (Some role) which row

abbrev pub asked_keys : TablesOf → ℕ → Option Role → Which → List TaskId → List Key
asked_keys t person role which ids = map key_of (filter (is_asked t person role which) (filter_map (λ id. task_row t id.0) ids))
