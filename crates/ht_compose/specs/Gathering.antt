-- What a task that its owner completes has of its sub tasks then (WS-HumanTask 1.1, 4.8).
use Rattle.ht_models.specs.Contradictions.{is_automatic}
use Rattle.std.specs.Prelude.{◌≡◌, ℕ, Option, None, Some, if◌then◌else◌}
use Rattle.ht_base.specs.declared.values.Values.{Values}
use Rattle.ht_compose.specs.Finishes.{HasResults, chosen}
use Rattle.ht_models.specs.Model.{FinishOf, ModelOf}
use Rattle.ht_tree.specs.declared.row.Row.{Row}
use Rattle.ht_tree.specs.Plans.{Goes, PlanOf, planned}
use Rattle.ht_tree.specs.Soundness.{IsSound}
use Rattle.ht_tree.specs.Tables.{TablesOf, model_of, task_row, with_row}

-- the results of this finish are set, if there is one
abbrev pub GathersBy : TablesOf → Row → ModelOf → Option FinishOf → TablesOf → Type 0
GathersBy u row m None v = v ≡ u
GathersBy u row m (Some f) v = (output : Values) × HasResults u.rows m row f output × (v ≡ with_row u (record row { output = output }))

-- Where its completion is manual, it is the chosen finish, whether or not a sub task has ended. A task
-- that finishes by itself gathers nothing before.
abbrev pub Gathers : TablesOf → ℕ → TablesOf → Type 0
Gathers u task v =
    (row : Row) × (m : ModelOf) × (task_row u task ≡ Some row) × (model_of u row ≡ Some m) × GathersBy u row m (if is_automatic m.completion then None else chosen u.rows m row) v

-- the plan goes on by it
pub record IsGathered (t : TablesOf) (old new : PlanOf) (task : ℕ) : Type 0 where
  pub after : TablesOf
  pub gathers : Gathers (planned t old) task after
  pub goes : Goes t old new (planned t old) after
  pub sound : IsSound after
