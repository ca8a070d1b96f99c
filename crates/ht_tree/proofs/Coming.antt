-- That a new task keeps tables sound.
use Rattle.ht_base.specs.declared.limits.TheConstants.{MOST_TASKS}
use Rattle.ht_models.specs.TreeSizes.{size_at}
use Rattle.std.proofs.Common.{◌≡◌, ℕ, ◌+◌, ◌≤◌, [], ◌∷◌, ◌++◌, length, Option, Some, None, IfSome, refl, ap, arith}
use Rattle.ht_base.specs.declared.task_id.TaskId.{TaskId}
use Rattle.ht_tree.specs.declared.row.Row.{Row}
use Rattle.ht_tree.specs.Creating.{parent_row}
use Rattle.ht_tree.specs.Families.{MayCome, to_come_of}
use Rattle.ht_tree.specs.Sizes.{size_under, top_size, total_size}
use Rattle.ht_tree.specs.Soundness.{IsSound, IsSoundRow}
use Rattle.ht_tree.specs.Tables.{TablesOf, task_row}
use Rattle.ht_tree.proofs.Sounding.{push_sound, push_sub_sound}

-- its parent's row is sound
pub parent_sound : (u : TablesOf) (o : Option (TaskId × ℕ)) → IsSound u → IfSome (parent_row u o) (IsSoundRow u)
parent_sound u None sound = tt
parent_sound u (Some p) sound = go (task_row u p.0.0) refl
  where
    go : (o : Option Row) → task_row u p.0.0 ≡ o → IfSome o (IsSoundRow u)
    go None at = tt
    go (Some r) at = sound.rows_sound p.0.0 r at

pub new_sound : (u : TablesOf) (row : Row) (o : Option (TaskId × ℕ)) → row.parent ≡ o → MayCome u.models u.rows row.model o → IsSound u → row.task.0 ≡ length u.rows + 1 → IsSoundRow u row → to_come_of u.models (u.rows ++ row ∷ []) row + 1 ≤ size_at u.models row.model → (o ≡ None → total_size u.models u.rows + size_at u.models row.model ≤ MOST_TASKS) → IsSound (record u { rows = u.rows ++ row ∷ [] })
new_sound u row None top may sound next fine small room =
    let size : top_size u.models row ≡ size_at u.models row.model = ap (λ (o : Option (TaskId × ℕ)). size_under u.models row o) top in
    push_sound u row sound next top fine (omega arith) (let most = room refl in omega arith)
new_sound u row (Some p) under may sound next fine small room = push_sub_sound u row p sound next under may fine small
