-- What follows once an operation has changed a task: on itself, on those below it and on those above
-- (WS-HumanTask 1.1, 4.7, 4.8 and 4.10).
use Rattle.std.specs.Prelude.{◌≡◌, ℕ, [], ◌∷◌, Some}
use Rattle.ht_base.specs.declared.moment.Moment.{Moment}
use Rattle.ht_compose.specs.Agenda.{Ends}
use Rattle.ht_compose.specs.Downward.{holding}
use Rattle.ht_compose.specs.Freeing.{Frees}
use Rattle.ht_compose.specs.Items.{Does}
use Rattle.ht_compose.specs.Items.Item.{Activate, Begin, Close}
use Rattle.ht_owner.specs.declared.follow.Follow.{Follow}
use Rattle.ht_owner.specs.declared.follow.Follow.TheVariants as follow
use Rattle.ht_tree.specs.declared.row.Row.{Row}
use Rattle.ht_tree.specs.Plans.{Goes, PlanOf, planned}
use Rattle.ht_tree.specs.Soundness.{IsSound}
use Rattle.ht_tree.specs.Tables.{TablesOf, task_row, with_rows}

-- the tables after it followed on a task at a moment
abbrev pub Spreads : Moment → Follow → ℕ → TablesOf → TablesOf → Type 0
Spreads at follow.Nothing task u v = v ≡ u
Spreads at follow.Began task u v = Ends (Does at) u (Begin task ∷ []) v
Spreads at follow.Activate task u v = Ends (Does at) u (Activate task ∷ []) v
Spreads at follow.Held task u v = v ≡ with_rows u (holding task u.rows)
Spreads at follow.Freed task u v = Frees at task u v
Spreads at (follow.Close end) task u v = Ends (Does at) u (Close task end ∷ []) v

-- the plan makes it follow
pub record IsFollowed (t : TablesOf) (old new : PlanOf) (at : Moment) (task : ℕ) (f : Follow) : Type 0 where
  pub after : TablesOf
  pub spreads : Spreads at f task (planned t old) after
  pub goes : Goes t old new (planned t old) after
  pub sound : IsSound after
  pub row : Row
  pub there : task_row after task ≡ Some row
