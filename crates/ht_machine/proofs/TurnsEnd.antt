-- A turn always comes to its end.
use Rattle.std.proofs.Common.{◌≡◌, ℕ, ◌+◌, ◌≤◌, zero, suc, List, [], ◌∷◌, length, None, Option, Some, refl, sym, ap, subst, ◌∙◌, arith}
use Rattle.ht_compose.proofs.PublicLaws.{AreInOrder, Fit, left}
use Rattle.ht_due.specs.declared.due.Due.{Due}
use Rattle.ht_machine.proofs.FirstTaken.{HaveAtMost, first_taken}
use Rattle.ht_machine.specs.Outcomes.{HasEnd}
use Rattle.ht_machine.specs.Turning.{Takings}
use Rattle.ht_machine.specs.Turning.Takings.{end, on}
use Rattle.ht_models.specs.Model.{ModelOf}
use Rattle.ht_models.specs.TreeSizes.{AreSized}
use Rattle.ht_tree.specs.Families.{to_come}
use Rattle.ht_tree.specs.RowDues.{first_due}
use Rattle.ht_tree.specs.Soundness.{IsSound}
use Rattle.ht_tree.specs.Tables.{TablesOf}

-- the end of a turn, where the rows stand at their numbers and are in order as before
pub record TurnEnds (by : ℕ) (u : TablesOf) : Type 0 where
  pub dues : List Due
  pub after : TablesOf
  pub takings : Takings by u dues after
  pub ended : first_due after by ≡ None
  pub fit : Fit after
  pub all : AreInOrder after
  pub models : after.models ≡ u.models

-- nothing is due
ended_here : (by : ℕ) (u : TablesOf) → Fit u → AreInOrder u → first_due u by ≡ None → TurnEnds by u
ended_here by u fit all none = record { dues = []; after = u; takings = end; ended = none; fit = fit; all = all; models = refl }

-- with so many deadlines of a model, so many tasks with those to come, and so much left to take
abbrev EndsFrom : ℕ → ℕ → ℕ → ℕ → Type 0
EndsFrom by most tasks n = (u : TablesOf) → Fit u → AreInOrder u → HaveAtMost most u.models → length u.rows + to_come u.models u.rows ≤ tasks → left most tasks u ≤ n → TurnEnds by u

-- the first is taken, and then the others
one_and_rest : (by most tasks n : ℕ) → EndsFrom by most tasks n → (u : TablesOf) (due : Due) → Fit u → AreInOrder u → HaveAtMost most u.models → length u.rows + to_come u.models u.rows ≤ tasks → left most tasks u ≤ suc n → first_due u by ≡ Some due → TurnEnds by u
one_and_rest by most tasks n below u due fit all few long less first =
    let t = first_taken u by due fit all first in
    let models = (t.order).models in
    let fewer = t.fewer most tasks few (omega (arith, long)) in
    let counted = (t.order).counted in
    let M : List ModelOf → Type 0 = λ ms. HaveAtMost most ms in
    let rest = below t.after t.fit ((t.order).rows all) (subst M (sym models) few) (omega (arith, counted, long)) (omega (arith, fewer, less)) in
    record {
      dues = due ∷ rest.dues;
      after = rest.after;
      takings = on first t.takes rest.takings;
      ended = rest.ended;
      fit = rest.fit;
      all = rest.all;
      models = rest.models ∙ models;
    }

-- whatever is left to take
ends_from : (by most tasks n : ℕ) → EndsFrom by most tasks n
ends_from by most tasks zero u fit all few long less = go (first_due u by) refl
  where
    go : (o : Option Due) → first_due u by ≡ o → TurnEnds by u
    go None none = ended_here by u fit all none
    go (Some due) first =
        let t = first_taken u by due fit all first in
        let fewer = t.fewer most tasks few (omega (arith, long)) in
        absurd (omega (arith, fewer, less))
ends_from by most tasks (suc n) u fit all few long less = go (first_due u by) refl (ends_from by most tasks n)
  where
    go : (o : Option Due) → first_due u by ≡ o → EndsFrom by most tasks n → TurnEnds by u
    go None none below = ended_here by u fit all none
    go (Some due) first below = one_and_rest by most tasks n below u due fit all few long less first

-- the deadlines of all models
abbrev all_deadlines : List ModelOf → ℕ
all_deadlines [] = 0
all_deadlines (m ∷ models) = length m.deadlines + all_deadlines models

-- no model has more than all of them
at_most_all : (models : List ModelOf) → HaveAtMost (all_deadlines models) models
at_most_all [] place m at = absurd cc
at_most_all (x ∷ models) zero m at = let same : x ≡ m = cc in let long = ap (λ (y : ModelOf). length y.deadlines) same in omega (arith, long)
at_most_all (x ∷ models) (suc place) m at = let rest = at_most_all models place m at in omega (arith, rest)

-- ---- from sound tables

-- their rows stand at their numbers
pub fit_of : (t : TablesOf) → AreSized t.models → IsSound t → Fit t
fit_of t sized sound = record { numbered = sound.numbered; sized = sized }

-- and are in order
pub in_order_of : (t : TablesOf) → IsSound t → AreInOrder t
in_order_of t sound task row there =
    let is = sound.rows_sound task row there in
    record { model = (is.filed).model; waits = (is.when).waits; until = (is.when).until }

-- so a turn ends
pub turn_ends : (by : ℕ) (t : TablesOf) → Fit t → AreInOrder t → TurnEnds by t
turn_ends by t fit all =
    let most = all_deadlines t.models in
    let tasks = length t.rows + to_come t.models t.rows in
    ends_from by most tasks (left most tasks t) t fit all (at_most_all t.models) (omega arith) (omega arith)

-- and so it does from sound tables
pub turn_is : (by : ℕ) (t : TablesOf) → AreSized t.models → IsSound t → HasEnd t by
turn_is by t sized sound =
    let e = turn_ends by t (fit_of t sized sound) (in_order_of t sound) in
    (e.dues, e.after, record { takings = e.takings; ended = e.ended })
