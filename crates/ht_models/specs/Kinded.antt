-- The expressions, assignments and finishes of a model that was read speak of the parts that the model
-- declares, each as its kind is.
use Rattle.std.specs.Prelude.{◌≡◌, All, List, ◌++◌, map, Some, IfSome}
use Rattle.ht_base.specs.declared.kind.Kind.{Kind}
use Rattle.ht_base.specs.declared.kind.Kind.TheVariants.{Int, Truth}
use Rattle.ht_base.specs.Kinds.{kind_of_how}
use Rattle.ht_expr.specs.AssignmentKinds.{Assigns}
use Rattle.ht_expr.specs.declared.kinds.Side.TheVariants.{Input, Output}
use Rattle.ht_expr.specs.Kinds.{Declared, declared_kind}
use Rattle.ht_expr.specs.KindTable.{kind_of}
use Rattle.ht_expr.specs.Nodes.{ExprOf}
use Rattle.ht_models.specs.declared.model.Deadline.{Deadline}
use Rattle.ht_models.specs.declared.model.Escalation.{Escalation}
use Rattle.ht_models.specs.declared.model.Finish.{Finish}
use Rattle.ht_models.specs.declared.model.Model.{Model}
use Rattle.ht_entries.specs.Finishes.{Setting}
use Rattle.ht_entries.specs.Parts.{Part}

-- the parts that a model declares, of these inputs and outputs
abbrev pub parts_of : List Part → List Part → Declared
parts_of input output = map (λ p. (Input, p.name, p.kind)) input ++ map (λ p. (Output, p.name, p.kind)) output

-- an expression of a kind
pub record IsOfKind (kinds : Declared) (kind : Kind) (e : ExprOf) : Type 0 where
  pub declared : e.kinds ≡ kinds
  pub is : kind_of kinds e.tree ≡ Some kind

pub record Escalates (kinds : Declared) (e : Escalation) : Type 0 where
  pub when : IfSome e.when (IsOfKind kinds Truth)
  pub notify : IfSome e.notify (Assigns kinds)
  pub reassign : IfSome e.reassign (Assigns kinds)

abbrev pub Ends : Declared → Deadline → Type 0
Ends kinds d = All (Escalates kinds) d.escalations.items

-- its condition is a truth
abbrev pub HasTruth : Declared → Finish → Type 0
HasTruth kinds f = IfSome f.when (IsOfKind kinds Truth)

-- what is set is an output part of the aggregate's kind
abbrev pub IsSettable : Declared → Setting → Type 0
IsSettable kinds s = declared_kind kinds Output s.part ≡ Some (kind_of_how s.how)

pub record Finishes (kinds : Declared) (f : Finish) : Type 0 where
  pub when : HasTruth kinds f
  pub settings : All (IsSettable kinds) f.settings.items

-- with finishes that are fit
pub record IsKindedBy (kinds : Declared) (IsFit : Finish → Type 0) (m : Model) : Type 0 where
  pub priority : IfSome m.priority (IsOfKind kinds Int)
  pub delegatees : IfSome m.delegatees (Assigns kinds)
  pub potential_owners : Assigns kinds m.potential_owners
  pub excluded_owners : Assigns kinds m.excluded_owners
  pub administrators : IfSome m.administrators (Assigns kinds)
  pub stakeholders : IfSome m.stakeholders (Assigns kinds)
  pub deadlines : All (Ends kinds) m.deadlines.items
  pub finishes : All IsFit m.finishes.items

abbrev pub IsKinded : Model → Type 0
IsKinded m = let kinds = parts_of m.input.items m.output.items in IsKindedBy kinds (Finishes kinds) m

-- of its expressions and assignments alone
abbrev pub SpeaksOfParts : Model → Type 0
SpeaksOfParts m = let kinds = parts_of m.input.items m.output.items in IsKindedBy kinds (HasTruth kinds) m
