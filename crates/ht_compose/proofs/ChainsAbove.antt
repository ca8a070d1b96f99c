-- That a task is above a row exactly where a chain of parents leads to it.
use Rattle.std.proofs.Common.{◌≡◌, ◌↔◌, ℕ, ◌<◌, ◌==◌, zero, suc, Bool, true, false, ◌||◌, List, Option, Some, None, refl, sym, ap, ◌∙◌, subst, eq-eqb, arith}
use Rattle.std.proofs.lemmas.Bool.{eqb-true}
use Rattle.std.specs.Option.{option_and_then}
use Rattle.ht_base.specs.declared.task_id.TaskId.{TaskId}
use Rattle.ht_compose.specs.Families.{Above, is_above, leads_to}
use Rattle.ht_compose.specs.Families.Above.{direct, further}
use Rattle.ht_compose.proofs.Chains.{leads_more}
use Rattle.ht_tree.specs.declared.row.Row.{Row}
use Rattle.ht_tree.specs.Families.{parent_at}
use Rattle.ht_tree.specs.Rows.{row_at}
use Rattle.ht_tree.specs.Soundness.{IsSound}
use Rattle.ht_tree.specs.Tables.{TablesOf, task_row}
use Rattle.ht_tree.proofs.PublicLaws.{lower}

-- a task in the chain is above
chain_of : (n : ℕ) (rows : List Row) (task k : ℕ) (o : Option (TaskId × ℕ)) → parent_at k rows ≡ o → leads_to n rows task o ≡ true → Above rows task k
chain_of zero rows task k o is h = cc
chain_of (suc n) rows task k None is h = cc
chain_of (suc n) rows task k (Some p) is h = here (p.0.0 == task) refl h (λ t. chain_of n rows task p.0.0 (parent_at p.0.0 rows) refl t)
  where
    here : (b : Bool) → (p.0.0 == task) ≡ b → (b || leads_to n rows task (parent_at p.0.0 rows)) ≡ true → (leads_to n rows task (parent_at p.0.0 rows) ≡ true → Above rows task p.0.0) → Above rows task k
    here true e t up =
        let P : ℕ → Type 0 = λ a. Above rows a k in
        subst P (eqb-true p.0.0 task e) (direct is)
    here false e t up = further is (up t)

module _ (u : TablesOf) (sound : IsSound u) (task : ℕ) where
  -- the parent of a task has a lower number
  pub parent_lower : (k : ℕ) (p : TaskId × ℕ) → parent_at k u.rows ≡ Some p → p.0.0 < k
  parent_lower k p at = go (row_at k u.rows) refl at
    where
      go : (o : Option Row) → row_at k u.rows ≡ o → option_and_then (λ (r : Row). r.parent) o ≡ Some p → p.0.0 < k
      go None is e = cc
      go (Some r) is e = lower u sound k r is (Some p) e

  -- and one that is above is in the chain
  in_chain : (k : ℕ) → Above u.rows task k → leads_to k u.rows task (parent_at k u.rows) ≡ true
  in_chain zero (direct e) = let low = parent_lower zero (record { 0 = task }, _) e in absurd (omega arith)
  in_chain (suc n) (direct e) = ap (λ (o : Option (TaskId × ℕ)). leads_to (suc n) u.rows task o) e ∙ ap (λ (b : Bool). b || leads_to n u.rows task (parent_at task u.rows)) (eq-eqb task task refl)
  in_chain zero (further {between = between} e above) = let low = parent_lower zero (record { 0 = between }, _) e in absurd (omega arith)
  in_chain (suc n) (further {between = between} e above) =
      let low = parent_lower (suc n) (record { 0 = between }, _) e in
      let more = leads_more between n u.rows task (parent_at between u.rows) (omega arith) (in_chain between above) in
      ap (λ (o : Option (TaskId × ℕ)). leads_to (suc n) u.rows task o) e ∙ either (between == task) more
    where
      either : (b : Bool) → leads_to n u.rows task (parent_at between u.rows) ≡ true → (b || leads_to n u.rows task (parent_at between u.rows)) ≡ true
      either true h = refl
      either false h = h

  pub above_is_a_chain : (k : ℕ) (row : Row) → task_row u k ≡ Some row → (is_above u.rows task row ≡ true) ↔ Above u.rows task k
  above_is_a_chain k row at =
      let parent : parent_at k u.rows ≡ row.parent = ap (λ (o : Option Row). option_and_then (λ (r : Row). r.parent) o) at in
      let number = sound.numbered k row at in (
        λ h. chain_of row.task.0 u.rows task k row.parent parent h,
        λ a. ap (λ (n : ℕ). leads_to n u.rows task row.parent) number ∙ ap (λ (o : Option (TaskId × ℕ)). leads_to k u.rows task o) (sym parent) ∙ in_chain k a,
      )
