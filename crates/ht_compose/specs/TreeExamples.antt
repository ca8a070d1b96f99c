-- Two trees that grew at the same time: 1 has 3 and 6, 2 has 4, and 3 has 5. A wrong reading of the
-- definitions fails the check.
use Rattle.std.specs.Prelude.{◌≡◌, refl, ℕ, false, true, List, [], ◌∷◌, map, Some}
use Rattle.ht_base.specs.declared.state.State.TheVariants.{InProgress, SuspendedInProgress}
use Rattle.ht_base.specs.declared.task_id.TaskId.{TaskId}
use Rattle.ht_compose.specs.declared.reaching.Reach.TheVariants as reach
use Rattle.ht_compose.specs.Examples.{task}
use Rattle.ht_compose.specs.Reaching.{reached_but}
use Rattle.ht_compose.specs.Trees.{in_tree, tree_ids}
use Rattle.ht_tree.specs.declared.row.Row.{Row}

abbrev ids : List ℕ → List TaskId
ids numbers = map (λ n. record { 0 = n }) numbers

abbrev below : ℕ → ℕ → Row
below parent n = record (task n InProgress) { parent = Some (record { 0 = parent }, 0) }

abbrev rows : List Row
rows = task 1 InProgress ∷ task 2 InProgress ∷ below 1 3 ∷ below 2 4 ∷ below 3 5 ∷ below 1 6 ∷ []

the_first_tree : tree_ids 1 rows ≡ ids (1 ∷ 3 ∷ 5 ∷ 6 ∷ [])
the_first_tree = refl

the_second_tree : tree_ids 2 rows ≡ ids (2 ∷ 4 ∷ [])
the_second_tree = refl

a_sub_task_with_its_own : tree_ids 3 rows ≡ ids (3 ∷ 5 ∷ [])
a_sub_task_with_its_own = refl

a_task_alone : tree_ids 6 rows ≡ ids (6 ∷ [])
a_task_alone = refl

no_such_task : tree_ids 7 rows ≡ []
no_such_task = refl

a_task_is_in_its_own_tree : in_tree rows 2 2 ≡ true
a_task_is_in_its_own_tree = refl

a_sub_task_of_a_sub_task_too : in_tree rows 1 5 ≡ true
a_sub_task_of_a_sub_task_too = refl

not_in_the_other_tree : in_tree rows 2 5 ≡ false
not_in_the_other_tree = refl

a_parent_is_not_in_the_tree_below : in_tree rows 3 1 ≡ false
a_parent_is_not_in_the_tree_below = refl

nor_one_that_is_not_there : in_tree rows 1 7 ≡ false
nor_one_that_is_not_there = refl

-- a hold that came to 6 and 5, and has 1 and 3 left
half_way : map (λ row. row.state) (reached_but (ids (1 ∷ 3 ∷ [])) reach.Hold rows 1) ≡ InProgress ∷ InProgress ∷ InProgress ∷ InProgress ∷ SuspendedInProgress ∷ SuspendedInProgress ∷ []
half_way = refl

to_its_end : map (λ row. row.state) (reached_but [] reach.Hold rows 1) ≡ InProgress ∷ InProgress ∷ SuspendedInProgress ∷ InProgress ∷ SuspendedInProgress ∷ SuspendedInProgress ∷ []
to_its_end = refl
