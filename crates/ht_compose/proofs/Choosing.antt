-- The finish that is chosen, told by the numbers of a task's sub tasks.
use Rattle.std.proofs.Common.{◌≡◌, ℕ, Bool, List, length, map, Option, None, Some, IfSome, if◌then◌else◌, ap, subst, ◌∙◌}
use Rattle.std.specs.Option.{option_or}
use Rattle.ht_base.specs.declared.task_id.TaskId.{TaskId}
use Rattle.ht_compose.specs.Finding.{rows_of}
use Rattle.ht_compose.specs.Finishes.{all_ended, chosen, chosen_by, completed, default, first_true}
use Rattle.ht_compose.proofs.Entries.{completed_again, completed_among, ended_among, subs_again}
use Rattle.ht_value.specs.declared.environment.Env.{Env}
use Rattle.ht_models.specs.Model.{FinishOf, ModelOf}
use Rattle.ht_tree.specs.declared.row.Row.{Row}
use Rattle.ht_tree.specs.Creating.{sees}
use Rattle.ht_tree.specs.Families.{sub_tasks}
use Rattle.ht_tree.specs.Soundness.{IsHeldBy, IsSound}
use Rattle.ht_tree.specs.Tables.{TablesOf, model_of, task_row}

module _ (u : TablesOf) (sound : IsSound u) (row : Row) where
  -- its sub tasks, by their numbers
  abbrev Lists : List TaskId → Type 0
  Lists ids = ids ≡ map (λ r. r.task) (sub_tasks row.task.0 u.rows)

  rows_are : (ids : List TaskId) → Lists ids → rows_of u ids ≡ sub_tasks row.task.0 u.rows
  rows_are ids are = ap (λ (l : List TaskId). rows_of u l) are ∙ subs_again u row.task.0 sound

  pub chosen_is : (m : ModelOf) (env : Env) (ids : List TaskId) (o : Option FinishOf) → env ≡ sees u.rows row → Lists ids → o ≡ chosen_by env (rows_of u ids) m row.task.0 → o ≡ chosen u.rows m row
  chosen_is m env ids o seen are is =
      let first : Env → Option FinishOf = λ e. first_true m e in
      let other : Bool → Option FinishOf = λ b. if b then default m.finishes else None in
      let ended = ap (λ (l : List Row). all_ended row.task.0 (length m.subs) l) (rows_are ids are) ∙ ended_among row.task.0 (length m.subs) u.rows in
      is
      ∙ ap (λ (e : Env). option_or (first e) (other (all_ended row.task.0 (length m.subs) (rows_of u ids)))) seen
      ∙ ap (λ (b : Bool). option_or (first (sees u.rows row)) (other b)) ended

  pub completed_is : (n : ℕ) (ids found : List TaskId) → Lists ids → found ≡ map (λ r. r.task) (completed row.task.0 n (rows_of u ids)) → rows_of u found ≡ completed row.task.0 n u.rows
  completed_is n ids found are is =
      let all = ap (λ (l : List Row). completed row.task.0 n l) (rows_are ids are) ∙ completed_among row.task.0 n u.rows in
      ap (λ (l : List TaskId). rows_of u l) (is ∙ ap (λ (l : List Row). map (λ r. r.task) l) all) ∙ completed_again u row.task.0 n sound

  pub held_by : (m : ModelOf) → task_row u row.task.0 ≡ Some row → model_of u row ≡ Some m → IsHeldBy (length u.people.persons) m row.input row.output row.taken
  held_by m there is =
      let P : Option ModelOf → Type 0 = λ o. IfSome o (λ x. IsHeldBy (length u.people.persons) x row.input row.output row.taken) in
      subst P is (sound.rows_sound row.task.0 row there).held
