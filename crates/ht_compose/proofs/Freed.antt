-- The tasks that are freed below another, from the greatest number to the least.
use Rattle.std.proofs.Common.{◌≡◌, ℕ, ◌==◌, Bool, true, false, ◌&&◌, ◌||◌, if◌then◌else◌, List, [], ◌∷◌, ◌++◌, filter, map, Option, Some, None, refl, sym, ap, subst, ◌∙◌, append_assoc}
use Rattle.std.proofs.lemmas.List.{append-nil, map-append, reverse-append}
use Rattle.std.proofs.lemmas.List.Elements.{filter-append}
use Rattle.std.specs.Option.{option_map_or}
use Rattle.std.specs.Prelude.{reverse}
use Rattle.ht_base.specs.declared.task_id.TaskId.{TaskId}
use Rattle.ht_base.specs.declared.moment.Moment.{Moment}
use Rattle.ht_compose.specs.declared.reaching.Reach.TheVariants as reach
use Rattle.ht_compose.specs.Agenda.{Ends}
use Rattle.ht_compose.specs.Downward.{freeing}
use Rattle.ht_compose.specs.Families.{StillThere, is_above}
use Rattle.ht_compose.specs.Freeing.{IsFreed, checks_of, freed_tasks, is_freed}
use Rattle.ht_compose.specs.Items.{Does, Item}
use Rattle.ht_compose.specs.Items.Item.{Check}
use Rattle.ht_compose.specs.Reaching.{Reaches, changes, reached, reached_but}
use Rattle.ht_compose.specs.Running.{Runs}
use Rattle.ht_compose.specs.Trees.{is_of_tree, tree_ids}
use Rattle.ht_compose.proofs.Reached.{reached_standing}
use Rattle.ht_compose.proofs.Spread.{AreLeft, Going, changes_yet, front_left, goes_further}
use Rattle.ht_compose.proofs.Standing.{there_as_alike, there_then}
use Rattle.ht_index.proofs.PublicLaws.{filter_ascends, has_filter, one_list}
use Rattle.ht_tree.proofs.PublicLaws.{goes_then, has_ids, ids_ascend, map_alike}
use Rattle.ht_tree.specs.declared.row.Row.{Row}
use Rattle.ht_tree.specs.ListedBy.{ids_by}
use Rattle.ht_tree.specs.Plans.{Goes, PlanOf, planned}
use Rattle.ht_tree.specs.Rows.{row_at}
use Rattle.ht_tree.specs.Soundness.{IsSound, is_suspended}
use Rattle.ht_tree.specs.Tables.{TablesOf, task_row, with_rows}

abbrev pub tasks_checked : List TaskId → List Item
tasks_checked ids = map (λ id. Check id.0) ids

abbrev checks : List Row → List Item
checks rows = map (λ row. Check row.task.0) rows

-- the task is freed
abbrev is_freed_at : TablesOf → ℕ → TaskId → Bool
is_freed_at u task id = option_map_or (is_freed u.rows task) (row_at id.0 u.rows) false

-- those of a list, from its end on
abbrev pub freed_in : TablesOf → ℕ → List TaskId → List Item
freed_in u task ids = tasks_checked (reverse (filter (is_freed_at u task) ids))

checked_backwards : (rows : List Row) → tasks_checked (reverse (map (λ row. row.task) rows)) ≡ checks (reverse rows)
checked_backwards [] = refl
checked_backwards (r ∷ rows) =
    ap tasks_checked (reverse-append (r.task ∷ []) (map (λ row. row.task) rows))
    ∙ map-append (λ id. Check id.0) (reverse (map (λ row. row.task) rows)) (r.task ∷ [])
    ∙ ap (λ (l : List Item). l ++ Check r.task.0 ∷ []) (checked_backwards rows)
    ∙ sym (map-append (λ row. Check row.task.0) (reverse rows) (r ∷ []))
    ∙ sym (ap checks (reverse-append (r ∷ []) rows))

-- ---- as they are put into a list

module _ (u : TablesOf) (task : ℕ) where
  one_more : (front : List TaskId) (id : TaskId) → freed_in u task (front ++ id ∷ []) ≡ (if is_freed_at u task id then Check id.0 ∷ [] else []) ++ freed_in u task front
  one_more front id =
      let test : TaskId → Bool = is_freed_at u task in
      ap (λ (l : List TaskId). tasks_checked (reverse l)) (filter-append test front (id ∷ []))
      ∙ ap tasks_checked (reverse-append (filter test front) (filter test (id ∷ [])))
      ∙ map-append (λ id. Check id.0) (reverse (filter test (id ∷ []))) (reverse (filter test front))
      ∙ ap (λ (l : List Item). l ++ freed_in u task front) (go (is_freed_at u task id) refl)
    where
      go : (b : Bool) → is_freed_at u task id ≡ b → tasks_checked (reverse (filter (is_freed_at u task) (id ∷ []))) ≡ (if b then Check id.0 ∷ [] else [])
      go true is = ap (λ (c : Bool). tasks_checked (reverse (if c then id ∷ [] else []))) is
      go false is = ap (λ (c : Bool). tasks_checked (reverse (if c then id ∷ [] else []))) is

  one_further : (old new front : List TaskId) (id : TaskId) (whole : List Item) → new ≡ old ++ (if is_freed_at u task id then id ∷ [] else []) → tasks_checked old ++ freed_in u task (front ++ id ∷ []) ≡ whole → tasks_checked new ++ freed_in u task front ≡ whole
  one_further old new front id whole is before =
      ap (λ (l : List TaskId). tasks_checked l ++ freed_in u task front) is
      ∙ ap (λ (l : List Item). l ++ freed_in u task front) (map-append (λ id. Check id.0) old (if is_freed_at u task id then id ∷ [] else []))
      ∙ ap (λ (l : List Item). (tasks_checked old ++ l) ++ freed_in u task front) (go (is_freed_at u task id))
      ∙ append_assoc (tasks_checked old) (if is_freed_at u task id then Check id.0 ∷ [] else []) (freed_in u task front)
      ∙ ap (λ (l : List Item). tasks_checked old ++ l) (sym (one_more front id))
      ∙ before
    where
      go : (b : Bool) → tasks_checked (if b then id ∷ [] else []) ≡ (if b then Check id.0 ∷ [] else [])
      go true = refl
      go false = refl

module _ (u : TablesOf) (sound : IsSound u) (task : ℕ) where
  -- those of the tree are all that are freed
  all_in_tree : filter (is_freed_at u task) (tree_ids task u.rows) ≡ ids_by (is_freed u.rows task) u.rows
  all_in_tree =
      one_list (filter (is_freed_at u task) (tree_ids task u.rows)) (ids_by freed u.rows)
      (filter_ascends (is_freed_at u task) (tree_ids task u.rows) (ids_ascend inside u.rows sound.numbered))
      (ids_ascend freed u.rows sound.numbered)
      (λ n.
      has_filter (is_freed_at u task) n (tree_ids task u.rows)
      ∙ ap (λ (b : Bool). b && is_freed_at u task (record { 0 = n })) (has_ids inside u.rows n sound.numbered)
      ∙ at (row_at n u.rows)
      ∙ sym (has_ids freed u.rows n sound.numbered))
    where
      inside : Row → Bool
      inside = is_of_tree u.rows task

      freed : Row → Bool
      freed = is_freed u.rows task

      turn : (a b c : Bool) → ((a || b) && (b && c)) ≡ (b && c)
      turn a true c = or_true a c
        where
          or_true : (a c : Bool) → ((a || true) && c) ≡ c
          or_true true c = refl
          or_true false c = refl
      turn true false c = refl
      turn false false c = refl

      at : (o : Option Row) → (option_map_or inside o false && option_map_or freed o false) ≡ option_map_or freed o false
      at None = refl
      at (Some r) = turn (r.task.0 == task) (is_above u.rows task r) (is_suspended r.state)

  -- once the walk is through
  pub all_freed : (ids : List TaskId) → tasks_checked ids ++ freed_in u task [] ≡ freed_in u task (tree_ids task u.rows) → tasks_checked ids ≡ checks (freed_tasks task u.rows)
  all_freed ids before =
      sym (append-nil (tasks_checked ids))
      ∙ before
      ∙ ap (λ (l : List TaskId). tasks_checked (reverse l)) all_in_tree
      ∙ checked_backwards (filter (is_freed u.rows task) u.rows)

  -- and the task behind them
  pub then_itself : (old new : List TaskId) (id : TaskId) → id.0 ≡ task → new ≡ old ++ id ∷ [] → tasks_checked old ≡ checks (freed_tasks task u.rows) → tasks_checked new ≡ checks_of task u.rows
  then_itself old new id number is all =
      ap tasks_checked is
      ∙ map-append (λ id. Check id.0) old (id ∷ [])
      ∙ ap (λ (l : List Item). l ++ Check id.0 ∷ []) all
      ∙ ap (λ (n : ℕ). checks (freed_tasks task u.rows) ++ Check n ∷ []) number

-- ---- as the walk goes on

-- all are done but those that are left, and what was freed is listed
pub record FreesBut (t : TablesOf) (old new : PlanOf) (task : ℕ) (left freed : List TaskId) : Type 0 where
  pub goes : Goes t old new (planned t old) (with_rows (planned t old) (reached_but left reach.Free (planned t old).rows task))
  pub are : AreLeft (planned t old) left
  pub listed : tasks_checked freed ++ freed_in (planned t old) task left ≡ freed_in (planned t old) task (tree_ids task (planned t old).rows)

pub frees_next : (t : TablesOf) (old mid new : PlanOf) (task : ℕ) (left front : List TaskId) (id : TaskId) (freed more : List TaskId) (changed : Bool) → IsSound (planned t old) → left ≡ front ++ id ∷ [] → FreesBut t old mid task left freed → Reaches t mid new task reach.Free id.0 → changed ≡ option_map_or (changes reach.Free (planned t mid).rows task) (task_row (planned t mid) id.0) false → more ≡ freed ++ (if changed then id ∷ [] else []) → FreesBut t old new task front more
frees_next t old mid new task left front id freed more changed sound popped frees reaches changes_it listed =
    let u = planned t old in
    let L : List TaskId → Type 0 = λ l. AreLeft u l in
    let G : List TaskId → Type 0 = λ l. Going u sound task reach.Free tt t old mid l in
    let are = subst L popped frees.are in
    let going = subst G popped frees.goes in
    let test : is_freed_at u task id ≡ changed = sym (changes_yet u sound task reach.Free tt t old mid front id are going) ∙ sym changes_it in
    record {
      goes = goes_further u sound task reach.Free tt t old mid new front id are going reaches;
      are = front_left u front id are;
      listed =
          one_further u task freed more front id (freed_in u task (tree_ids task u.rows))
          (listed ∙ ap (λ (b : Bool). freed ++ (if b then id ∷ [] else [])) (sym test))
          (ap (λ (l : List TaskId). tasks_checked freed ++ freed_in u task l) (sym popped) ∙ frees.listed);
    }

-- the tasks are freed, and then those that were are checked
pub freed_then : (t : TablesOf) (old mid new : PlanOf) (at : Moment) (task : ℕ) (ids : List TaskId) → IsSound (planned t old) → map (λ id. Check id.0) ids ≡ checks_of task (planned t old).rows → Goes t old mid (planned t old) (with_rows (planned t old) (freeing task (planned t old).rows)) → Runs t mid new at (map (λ id. Check id.0) ids) → IsFreed t old new at task
freed_then t old mid new at task ids sound are free runs =
    let u = planned t old in
    let w = with_rows u (freeing task u.rows) in
    let E : List Item → Type 0 = λ is. Ends (Does at) (planned t mid) is runs.after in
    let M : TablesOf → Type 0 = λ v. Ends (Does at) v (checks_of task u.rows) runs.after in
    let T : TablesOf → Type 0 = λ v. StillThere v runs.after in
    let alike = map_alike (λ row. reached reach.Free u.rows task row) (λ row. reached_standing reach.Free u.rows task row tt) u.rows in
    record {
      after = runs.after;
      frees = subst M free.to (subst E are runs.ends);
      goes = goes_then t old mid new u w runs.after free runs.goes;
      sound = runs.sound;
      there = there_then u w runs.after (there_as_alike u (freeing task u.rows) alike) (subst T free.to runs.there);
    }
