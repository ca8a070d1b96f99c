-- What is due once an action was taken: of old tasks no more than before, and of new ones nothing earlier.
use Rattle.std.proofs.Common.{◌≡◌, ℕ, ◌<◌, ◌≤◌, Bool, true, false, List, length, suc, zero, ltb-true, ltb-false, Option, Some, None, refl, sym, ap, subst, ◌∙◌, inl, inr, ◌⊎◌, arith}
use Rattle.std.specs.Prelude.{nat_lt, option_map}
use Rattle.ht_base.specs.declared.moment.Moment.{Moment}
use Rattle.ht_base.specs.declared.values.Values.{Values}
use Rattle.ht_base.specs.Moment.{last_moment, later_by}
use Rattle.ht_base.specs.Values.{value_of}
use Rattle.ht_due.specs.declared.due.Due.{Due}
use Rattle.ht_due.specs.Dues.{has}
use Rattle.ht_models.specs.Model.{ModelOf}
use Rattle.ht_compose.proofs.PublicLaws.{was_due}
use Rattle.ht_compose.specs.Aging.{AllAge}
use Rattle.ht_tree.proofs.PublicLaws.{HasRow, IsOfRow, due_of_row, means_due, row_of_due, some_at, within}
use Rattle.ht_tree.specs.declared.row.Row.{Row}
use Rattle.ht_tree.specs.RowDues.{all_dues, later_moment, moment_by, moment_in, row_dues}
use Rattle.ht_tree.specs.Rows.{row_at}
use Rattle.ht_tree.specs.Soundness.{IsSound}
use Rattle.ht_tree.specs.Tables.{TablesOf, task_row}

-- no deadline is due before the task was created
not_before : (made : Moment) (input : Values) (period : Option ℕ) (at : Option Moment) (part : Option (List ℕ)) (m : Moment) → made.0 ≤ last_moment → moment_by made input period at part ≡ Some m → made.0 ≤ m.0
not_before made input (Some period) at part m early is =
    let same : later_by made period ≡ m = cc in
    subst (λ (x : Moment). made.0 ≤ x.0) same (omega (arith, early))
not_before made input None (Some at) part m early is =
    let same : later_moment made at ≡ m = cc in
    subst (λ (x : Moment). made.0 ≤ x.0) same (omega arith)
not_before made input None None (Some name) m early is = go (moment_in (value_of name input)) is
  where
    go : (o : Option Moment) → option_map (λ at. later_moment made at) o ≡ Some m → made.0 ≤ m.0
    go None is = absurd cc
    go (Some at) is = let same : later_moment made at ≡ m = cc in subst (λ (x : Moment). made.0 ≤ x.0) same (omega arith)
not_before made input None None None m early is = absurd cc

-- it was due before, or is of a new task and no earlier than this
abbrev pub IsOldOrNew : Moment → TablesOf → Due → Type 0
IsOldOrNew at u q = (has q (all_dues u) ≡ true) ⊎ ((length u.rows < q.task.0) × (at.0 ≤ q.at.0))

pub record HasAged (at : Moment) (u v : TablesOf) : Type 0 where
  pub models : v.models ≡ u.models
  pub age : AllAge at u v
  pub before : IsSound u
  pub after : IsSound v

-- ---- all of them

module _ (at : Moment) (u v : TablesOf) (is : HasAged at u v) (q : Due) where
  none_behind : (n : ℕ) → 1 ≤ n → row_at n u.rows ≡ None → length u.rows < n
  none_behind zero low none = absurd (omega arith)
  none_behind (suc i) low none = go (nat_lt i (length u.rows)) refl
    where
      go : (b : Bool) → nat_lt i (length u.rows) ≡ b → length u.rows < suc i
      go true e = let some = some_at u.rows i (ltb-true i (length u.rows) e) in let there = some.1 in absurd cc
      go false e = let high = ltb-false i (length u.rows) e in omega (arith, high)

  of_new : (row : Row) → row_at q.task.0 v.rows ≡ Some row → IsOfRow v.models row q → task_row u q.task.0 ≡ None → IsOldOrNew at u q
  of_new row there of none =
      let new = (is.age).new q.task.0 row there none in
      let place = within v.rows row q.task.0 there in
      let early = ((is.after).rows_sound q.task.0 row there).when.created_within in
      inr (none_behind q.task.0 place.0 none, by of new.0 new.1 new.2 early)
    where
      by : IsOfRow v.models row q → row.created ≡ at → row.waits ≡ None → row.until ≡ None → row.created.0 ≤ last_moment → at.0 ≤ q.at.0
      by (IsOfRow.waits k p m) made wait end early = absurd cc
      by (IsOfRow.until k p m) made wait end early = absurd cc
      by (IsOfRow.deadline d) made wait end early = subst (λ (m : Moment). m.0 ≤ q.at.0) made (not_before row.created row.input (d.d).period (d.d).at (d.d).part q.at early d.moment)

  pub old_or_new : has q (all_dues v) ≡ true → IsOldOrNew at u q
  old_or_new h =
      let its = row_of_due v q (is.after).numbered h in
      go (task_row u q.task.0) refl its
    where
      same_row : (o : Option Row) (x y : Row) → o ≡ Some x → o ≡ Some y → x ≡ y
      same_row o x y e f = cc

      go : (o : Option Row) → task_row u q.task.0 ≡ o → HasRow v q → IsOldOrNew at u q
      go None none its = of_new its.row its.there (means_due v.models its.row q its.due) none
      go (Some row) there its =
          let aged = (is.age).there q.task.0 row there in
          let same : its.row ≡ aged.0 = same_row (row_at q.task.0 v.rows) its.row aged.0 its.there aged.1 in
          let due : has q (row_dues u.models aged.0) ≡ true = ap (λ (ms : List ModelOf). has q (row_dues ms aged.0)) (sym is.models) ∙ ap (λ (r : Row). has q (row_dues v.models r)) (sym same) ∙ its.due in
          inl (due_of_row u q row (is.before).numbered there (was_due row aged.0 aged.2 u.models q due))
