-- Chains of parents.
use Rattle.std.proofs.Common.{◌≡◌, ℕ, ◌+◌, ◌-◌, ◌<◌, ◌≤◌, ◌==◌, zero, suc, Bool, true, false, ◌||◌, List, Option, Some, None, refl, sym, ap, ◌∙◌, arith}
use Rattle.std.specs.Option.{option_and_then}
use Rattle.ht_base.specs.declared.task_id.TaskId.{TaskId}
use Rattle.ht_compose.specs.Families.{is_above, leads_to}
use Rattle.ht_tree.specs.declared.row.Row.{Row}
use Rattle.ht_tree.specs.Families.{parent_at}
use Rattle.ht_tree.specs.Rows.{row_at}
use Rattle.ht_tree.specs.Soundness.{IsSound}
use Rattle.ht_tree.specs.Tables.{TablesOf}
use Rattle.ht_tree.proofs.PublicLaws.{Alike, lower, parent_alike}

-- a chain is found among more
pub leads_more : (n m : ℕ) (rows : List Row) (task : ℕ) (o : Option (TaskId × ℕ)) → n ≤ m → leads_to n rows task o ≡ true → leads_to m rows task o ≡ true
leads_more zero m rows task o low h = cc
leads_more (suc n) zero rows task o low h = absurd (omega arith)
leads_more (suc n) (suc m) rows task None low h = cc
leads_more (suc n) (suc m) rows task (Some p) low h = go (p.0.0 == task) (leads_more n m rows task (parent_at p.0.0 rows) (omega arith)) h
  where
    go : (b : Bool) → (leads_to n rows task (parent_at p.0.0 rows) ≡ true → leads_to m rows task (parent_at p.0.0 rows) ≡ true) → (b || leads_to n rows task (parent_at p.0.0 rows)) ≡ true → (b || leads_to m rows task (parent_at p.0.0 rows)) ≡ true
    go true more h = refl
    go false more h = more h

-- and among rows that stand in the same families
pub leads_alike : (n : ℕ) (xs ys : List Row) → Alike xs ys → (task : ℕ) (o : Option (TaskId × ℕ)) → leads_to n xs task o ≡ leads_to n ys task o
leads_alike zero xs ys a task o = refl
leads_alike (suc n) xs ys a task None = refl
leads_alike (suc n) xs ys a task (Some p) =
    ap (λ (b : Bool). (p.0.0 == task) || b) (leads_alike n xs ys a task (parent_at p.0.0 xs) ∙ ap (λ (o : Option (TaskId × ℕ)). leads_to n ys task o) (parent_alike xs ys a p.0.0))

-- past one that isn't the task
pub leads_on : (n i : ℕ) (rows : List Row) (task : ℕ) (p : TaskId × ℕ) → i < n → (p.0.0 == task) ≡ false → leads_to (n - i) rows task (Some p) ≡ leads_to (n - (i + 1)) rows task (parent_at p.0.0 rows)
leads_on n i rows task p low other =
    let more : n - i ≡ suc (n - (i + 1)) = omega arith in
    ap (λ (k : ℕ). leads_to k rows task (Some p)) more ∙ ap (λ (b : Bool). b || leads_to (n - (i + 1)) rows task (parent_at p.0.0 rows)) other

module _ (u : TablesOf) (sound : IsSound u) where
  -- a sub task is below what is above its parent, and below its parent
  pub sub_below : (id : ℕ) (row : Row) (p : TaskId × ℕ) (above : Row) (task : ℕ) → row_at id u.rows ≡ Some row → row.parent ≡ Some p → row_at p.0.0 u.rows ≡ Some above → ((above.task.0 == task) || is_above u.rows task above) ≡ true → is_above u.rows task row ≡ true
  sub_below id row p above task at parent there reached =
      go row.task.0 refl (lower u sound id row at (Some p) parent) (sound.numbered id row at) (sound.numbered p.0.0 above there)
    where
      go : (n : ℕ) → row.task.0 ≡ n → p.0.0 < id → row.task.0 ≡ id → above.task.0 ≡ p.0.0 → is_above u.rows task row ≡ true
      go zero is less number its = absurd (omega arith)
      go (suc n) is less number its =
          ap (λ (k : ℕ). leads_to k u.rows task row.parent) is
          ∙ ap (λ (o : Option (TaskId × ℕ)). leads_to (suc n) u.rows task o) parent
          ∙ here (p.0.0 == task) refl
        where
          here : (b : Bool) → (p.0.0 == task) ≡ b → leads_to (suc n) u.rows task (Some p) ≡ true
          here true e = ap (λ (b : Bool). b || leads_to n u.rows task (parent_at p.0.0 u.rows)) e
          here false e =
              let other : (above.task.0 == task) ≡ false = ap (λ (k : ℕ). k == task) its ∙ e in
              let up : is_above u.rows task above ≡ true = ap (λ (b : Bool). b || is_above u.rows task above) (sym other) ∙ reached in
              let more : leads_to n u.rows task above.parent ≡ true = leads_more above.task.0 n u.rows task above.parent (omega arith) up in
              let parents : parent_at p.0.0 u.rows ≡ above.parent = ap (λ (o : Option Row). option_and_then (λ (r : Row). r.parent) o) there in
              ap (λ (b : Bool). b || leads_to n u.rows task (parent_at p.0.0 u.rows)) e
              ∙ ap (λ (o : Option (TaskId × ℕ)). leads_to n u.rows task o) parents
              ∙ more
