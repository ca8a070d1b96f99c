-- How a turn goes on.
use Rattle.std.proofs.Common.{◌≡◌, ℕ, ◌<◌, ◌≤◌, Bool, true, false, List, [], length, Option, Some, None, refl, sym, ap, ◌∙◌, inl, inr, ◌||◌, ◌&&◌, arith, ltb-false}
use Rattle.std.specs.Prelude.{nat_lt}
use Rattle.std.specs.declared.cmp.Ordering.TheVariants.{Less}
use Rattle.ht_due.specs.declared.due.Due.{Due}
use Rattle.ht_due.specs.Dues.{Ascends, compare_dues, has}
use Rattle.ht_machine.specs.Ahead.{IsAhead, IsFirstAhead, in_either}
use Rattle.ht_machine.specs.Courses.{IsOnCourse}
use Rattle.ht_machine.proofs.Filtered.{first_by, first_is, none_by}
use Rattle.ht_machine.proofs.Firsts.{comes_behind, later_task, no_earlier}
use Rattle.ht_machine.proofs.OldAndNew.{HasAged, old_or_new}
use Rattle.ht_tree.proofs.PublicLaws.{changed_there, kept_or_changed, row_of_due, within}
use Rattle.ht_tree.specs.RowDues.{all_dues, changed_dues, first_due}
use Rattle.ht_tree.specs.Plans.{IsPlanOf, PlanOf, planned}
use Rattle.ht_tree.specs.Soundness.{IsSound}
use Rattle.ht_tree.specs.Tables.{TablesOf}

module _ (kept : List Due) (u : TablesOf) (news : List Due) (passed : Option Due) (on : IsOnCourse kept u news passed) where
  -- nothing that is due comes before the next that is ahead
  none_before : (next : Due) → IsFirstAhead (in_either kept news) passed (Some next) → (due : Due) → has due (all_dues u) ≡ true → compare_dues due next ≡ Less → ⊥
  none_before next first due h before = first.2 due (on.known due h) (on.ahead due h) before

  -- so it is the first that is due, if it still is
  pub is_first : (by : ℕ) (next : Due) → Ascends (all_dues u) → IsFirstAhead (in_either kept news) passed (Some next) → has next (all_dues u) ≡ true → next.at.0 ≤ by → first_due u by ≡ Some next
  is_first by next up first due low = first_by by (all_dues u) next (first_is (all_dues u) next up due (none_before next first)) low

  -- and where it is later than a moment, or there is none, nothing is due by then
  pub none_then : (by : ℕ) (next : Due) → IsFirstAhead (in_either kept news) passed (Some next) → by < next.at.0 → first_due u by ≡ None
  none_then by next first late = none_by by (all_dues u) (λ due h. let later = no_earlier due next (none_before next first due h) in omega (arith, late, later))

  pub none_ahead : (by : ℕ) → IsFirstAhead (in_either kept news) passed None → first_due u by ≡ None
  none_ahead by none = none_by by (all_dues u) (λ due h. absurd (none due (on.known due h) (on.ahead due h)))

  -- one that isn't due any more is passed
  pub passes : (next : Due) → IsFirstAhead (in_either kept news) passed (Some next) → has next (all_dues u) ≡ false → IsOnCourse kept u news (Some next)
  passes next first gone = record {
    known = on.known;
    ahead = λ due h. comes_behind next due (none_before next first due h) (λ same. let there : has next (all_dues u) ≡ true = ap (λ (d : Due). has d (all_dues u)) (sym same) ∙ h in cc);
    of_tasks = on.of_tasks;
    in_order = on.in_order;
  }

  -- behind one that is taken, those of the tasks that are new are added
  module _ (next : Due) (v : TablesOf) (more : List Due) (first : IsFirstAhead (in_either kept news) passed (Some next)) (aged : HasAged next.at u v) (is_due : has next (all_dues u) ≡ true) (gone : has next (all_dues v) ≡ false) (up : Ascends more)
      (has_more : (due : Due) → has due more ≡ ((nat_lt (length u.rows) due.task.0 && has due (all_dues v)) || has due news)) where
    known_still : (due : Due) → has due (all_dues v) ≡ true → in_either kept more due ≡ true
    known_still due h = elim (old_or_new next.at u v aged due h) [
      | inl old ↦ by_either (has due kept) (has due news) (has due more) (λ n. has_more due ∙ ap (λ b. (nat_lt (length u.rows) due.task.0 && has due (all_dues v)) || b) n ∙ always (nat_lt (length u.rows) due.task.0 && has due (all_dues v))) (on.known due old)
      | inr new ↦
          let behind : nat_lt (length u.rows) due.task.0 ≡ true = lt_true (length u.rows) due.task.0 new.0 in
          ap (λ b. has due kept || b) (has_more due ∙ ap (λ b. (b && has due (all_dues v)) || has due news) behind ∙ ap (λ b. b || has due news) h) ∙ always (has due kept)
    ]
      where
        always : (b : Bool) → (b || true) ≡ true
        always true = refl
        always false = refl

        by_either : (a b c : Bool) → (b ≡ true → c ≡ true) → (a || b) ≡ true → (a || c) ≡ true
        by_either true b c f h = refl
        by_either false b c f h = f h

        lt_true : (m n : ℕ) → m < n → nat_lt m n ≡ true
        lt_true m n low = at (nat_lt m n) refl
          where
            at : (b : Bool) → nat_lt m n ≡ b → nat_lt m n ≡ true
            at true e = e
            at false e = let high = ltb-false m n e in absurd (omega arith)

    ahead_still : (due : Due) → has due (all_dues v) ≡ true → IsAhead (Some next) due
    ahead_still due h = elim (old_or_new next.at u v aged due h) [
      | inl old ↦ comes_behind next due (none_before next first due old) (λ same. let there : has next (all_dues v) ≡ true = ap (λ (d : Due). has d (all_dues v)) (sym same) ∙ h in cc)
      | inr new ↦
          let its = row_of_due u next (aged.before).numbered is_due in
          let place = within u.rows its.row next.task.0 its.there in
          let high = place.1 in
          let behind = new.0 in
          later_task next due new.1 (omega (arith, high, behind))
    ]

    of_tasks_still : length u.rows ≤ length v.rows → (due : Due) → has due more ≡ true → due.task.0 ≤ length v.rows
    of_tasks_still grow due h = go (nat_lt (length u.rows) due.task.0 && has due (all_dues v)) refl
      where
        both : (a b : Bool) → (a && b) ≡ true → b ≡ true
        both true b e = e
        both false b e = absurd cc

        go : (b : Bool) → (nat_lt (length u.rows) due.task.0 && has due (all_dues v)) ≡ b → due.task.0 ≤ length v.rows
        go true e =
            let its = row_of_due v due (aged.after).numbered (both (nat_lt (length u.rows) due.task.0) (has due (all_dues v)) e) in
            (within v.rows its.row due.task.0 its.there).1
        go false e =
            let old = on.of_tasks due (ap (λ b. b || has due news) (sym e) ∙ sym (has_more due) ∙ h) in
            omega (arith, old, grow)

    pub goes_on : length u.rows ≤ length v.rows → IsOnCourse kept v more (Some next)
    goes_on grow = record { known = known_still; ahead = ahead_still; of_tasks = of_tasks_still grow; in_order = up }

-- ---- the beginning

pub begins : (t : TablesOf) (p : PlanOf) (dues news : List Due) → IsPlanOf t p → IsSound t → IsSound (planned t p) → dues ≡ changed_dues t.models (planned t p).rows (p.changes).rows → Ascends news → ((q : Due) → has q news ≡ (has q dues || has q [])) → IsOnCourse (all_dues t) (planned t p) news None
begins t p dues news fit before after are up all = record {
  known = λ q h. ap (λ b. has q (all_dues t) || b) (news_are q) ∙ kept_or_changed t p fit before after q h;
  ahead = λ q h. tt;
  of_tasks = λ q h. changed_there t p fit before after q (sym (news_are q) ∙ h);
  in_order = up;
}
  where
    or_false : (b : Bool) → (b || false) ≡ b
    or_false true = refl
    or_false false = refl

    news_are : (q : Due) → has q news ≡ has q (changed_dues t.models (planned t p).rows (p.changes).rows)
    news_are q = all q ∙ or_false (has q dues) ∙ ap (λ (l : List Due). has q l) are
