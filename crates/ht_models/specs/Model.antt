-- A task model: what all tasks of one kind have in common. What a text writes as an expression or an
-- assignment is a tree here.
use Rattle.std.specs.Prelude.{ℕ, Bool, List, Option, map}
use Rattle.ht_base.specs.declared.moment.Moment.{Moment}
use Rattle.ht_expr.specs.Trees.{Tree}
use Rattle.ht_entries.specs.declared.choices.Composition.{Composition}
use Rattle.ht_entries.specs.declared.choices.Delegation.{Delegation}
use Rattle.ht_entries.specs.declared.choices.Trigger.{Trigger}
use Rattle.ht_entries.specs.declared.deadlines.DeadlineKind.{DeadlineKind}
use Rattle.ht_entries.specs.Finishes.{Setting}
use Rattle.ht_entries.specs.Parts.{Part}
use Rattle.ht_entries.specs.SubEntries.{SubEntry}

-- what follows where a deadline is missed (WS-HumanTask 1.1, 4.9): somebody is told or is given the
-- task, where the condition is true
pub record EscalationOf : Type 0 where
  pub name : List ℕ
  pub when : Tree
  pub notify : Option Tree
  pub reassign : Option Tree

pub record DeadlineOf : Type 0 where
  pub name : List ℕ
  pub kind : DeadlineKind
  pub period : Option ℕ
  pub at : Option Moment
  pub part : Option (List ℕ)
  pub escalations : List EscalationOf

-- how a composite task finishes (WS-HumanTask 1.1, 4.8). Without a condition it is the default
pub record FinishOf : Type 0 where
  pub when : Option Tree
  pub settings : List Setting

-- Administrators and stakeholders may be missing, which isn't the same as nobody. The size counts the
-- tasks of its tree.
pub record ModelOf : Type 0 where
  pub name : List ℕ
  pub priority : Tree
  pub skipable : Bool
  pub owner_required : Bool
  pub delegation : Delegation
  pub delegatees : Option Tree
  pub potential_owners : Tree
  pub excluded_owners : Tree
  pub administrators : Option Tree
  pub stakeholders : Option Tree
  pub composition : Composition
  pub instantiation : Trigger
  pub completion : Trigger
  pub input : List Part
  pub output : List Part
  pub subs : List SubEntry
  pub deadlines : List DeadlineOf
  pub finishes : List FinishOf
  pub size : ℕ

abbrev pub names : List ModelOf → List (List ℕ)
names models = map (λ m. m.name) models
