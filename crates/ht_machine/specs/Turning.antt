-- What is due is done before all else (WS-HumanTask 1.1, 4.9 and 4.10): one action after another, each as
-- at the moment at which it was due.
use Rattle.std.specs.Prelude.{◌≡◌, ℕ, zero, suc, List, [], ◌∷◌, None, Some, length}
use Rattle.ht_base.specs.declared.moment.Moment.{Moment}
use Rattle.ht_compose.specs.Agenda.{Ends}
use Rattle.ht_compose.specs.Freeing.{Resumes}
use Rattle.ht_compose.specs.Items.{Does}
use Rattle.ht_compose.specs.Items.Item.{Activate}
use Rattle.ht_due.specs.declared.due.Due.{Due}
use Rattle.ht_escalate.specs.Escalating.{TakesDeadline}
use Rattle.ht_tree.specs.Plans.{Goes, PlanOf, planned}
use Rattle.ht_tree.specs.RowDues.{first_due}
use Rattle.ht_tree.specs.Soundness.{IsSound}
use Rattle.ht_tree.specs.Tables.{TablesOf}

-- ---- one action

-- of this kind: a deferred activation, the end of a suspension, or a deadline
abbrev pub TakesKind : ℕ → Moment → ℕ → ℕ → TablesOf → TablesOf → Type 0
TakesKind zero at task place u v = Ends (Does at) u (Activate task ∷ []) v
TakesKind (suc zero) at task place u v = Resumes at task u v
TakesKind (suc (suc n)) at task place u v = TakesDeadline at task place u v

abbrev pub Takes : TablesOf → Due → TablesOf → Type 0
Takes u due v = TakesKind due.kind due.at due.task.0 due.place u v

-- ---- all of them

-- one after another, each the first that is due by a moment
pub data Takings (by : ℕ) : TablesOf → List Due → TablesOf → Type 0 where
  end : {u : TablesOf} → Takings by u [] u
  on : {u v w : TablesOf} {due : Due} {dues : List Due} → first_due u by ≡ Some due → Takes u due v → Takings by v dues w → Takings by u (due ∷ dues) w

-- until nothing is due by then
pub record IsTurn (by : ℕ) (u : TablesOf) (dues : List Due) (v : TablesOf) : Type 0 where
  pub takings : Takings by u dues v
  pub ended : first_due v by ≡ None

-- the plan goes on by a turn that takes as many actions
pub record Turns (t : TablesOf) (old new : PlanOf) (by taken : ℕ) : Type 0 where
  pub after : TablesOf
  pub dues : List Due
  pub turn : IsTurn by (planned t old) dues after
  pub goes : Goes t old new (planned t old) after
  pub sound : IsSound after
  pub count : taken ≡ length dues
