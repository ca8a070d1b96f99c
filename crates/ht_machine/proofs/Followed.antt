-- What follows on a task, as steps of plans.
use Rattle.std.proofs.Common.{ℕ, List, Option, Result, Ok, Err, OnOk, map, option_map, ap, subst, ◌∙◌}
use Rattle.ht_base.specs.declared.memory.Memory.{Memory}
use Rattle.ht_base.specs.declared.moment.Moment.{Moment}
use Rattle.ht_compose.specs.Agenda.{Ends}
use Rattle.ht_compose.specs.Freeing.{IsFreed}
use Rattle.ht_compose.specs.Items as items
use Rattle.ht_compose.specs.Reaching.{IsTask}
use Rattle.ht_compose.specs.Running.{Runs}
use Rattle.ht_machine.specs.Following.{IsFollowed, Spreads}
use Rattle.ht_owner.specs.declared.follow.Follow.{Follow}
use Rattle.ht_owner.specs.declared.follow.Follow.TheVariants as follow
use Rattle.ht_tree.specs.declared.row.Row.{Row}
use Rattle.ht_tree.specs.Plans.{Goes, PlanOf, planned}
use Rattle.ht_tree.specs.Soundness.{IsSound}
use Rattle.ht_tree.specs.Tables.{TablesOf, with_rows}
use Rattle.ht_tree.proofs.PublicLaws.{row_at-map}

-- what is to be done is done to its end
pub runs_follow : (t : TablesOf) (old new : PlanOf) (at : Moment) (task : ℕ) (next : Follow) (is : List items.Item) → IsTask (planned t old) task → ((v : TablesOf) → Ends (items.Does at) (planned t old) is v → Spreads at next task (planned t old) v) → Runs t old new at is → IsFollowed t old new at task next
runs_follow t old new at task next is there spreads runs =
    let still = runs.there task there.row there.there in
    record { after = runs.after; spreads = spreads runs.after runs.ends; goes = runs.goes; sound = runs.sound; row = still.0; there = still.1 }

-- those below it are freed
pub freed_follows : (t : TablesOf) (old new : PlanOf) (at : Moment) (task : ℕ) → IsTask (planned t old) task → IsFreed t old new at task → IsFollowed t old new at task follow.Freed
freed_follows t old new at task there freed =
    let still = freed.there task there.row there.there in
    record { after = freed.after; spreads = freed.frees; goes = freed.goes; sound = freed.sound; row = still.0; there = still.1 }

-- each row is changed in its place, which is what follows
pub rows_follow : (t : TablesOf) (old new : PlanOf) (at : Moment) (task : ℕ) (next : Follow) (f : Row → Row) (result : Result (Unit {0}) Memory) → IsTask (planned t old) task → Spreads at next task (planned t old) (with_rows (planned t old) (map f (planned t old).rows)) → OnOk result (Goes t old new (planned t old) (with_rows (planned t old) (map f (planned t old).rows))) → OnOk result (IsSound (planned t new)) → OnOk result (IsFollowed t old new at task next)
rows_follow t old new at task next f (Err e) is spreads goes sound = tt
rows_follow t old new at task next f (Ok x) is spreads goes sound =
    let u = planned t old in
    let P : TablesOf → Type 0 = λ v. IsSound v in
    record {
      after = with_rows u (map f u.rows);
      spreads = spreads;
      goes = goes;
      sound = subst P goes.to sound;
      row = f is.row;
      there = row_at-map f u.rows task ∙ ap (λ (o : Option Row). option_map f o) is.there;
    }
