-- What a models text is read to: its models, where nothing is wrong with it, and else the first
-- refusal that holds of it.
use Rattle.std.specs.Prelude.{◌≡◌, ℕ, true, List, Option, Some, None, unwrap_or, slice_get, Result}
use Rattle.std.specs.List.{AllZip}
use Rattle.ht_base.specs.declared.kind.Kind.TheVariants.{Int, Truth}
use Rattle.ht_expr.specs.Kinds.{Declared}
use Rattle.ht_expr.specs.Trees.{Tree, integer, nobody, truth}
use Rattle.ht_toml.specs.Refusals as text_reads
use Rattle.ht_entries.specs.declared.choices.Delegation.TheVariants.{Anybody}
use Rattle.ht_models.specs.declared.refusal.ModelsRefusal.{ModelsRefusal}
use Rattle.ht_models.specs.declared.refusal.ModelsRefusal.TheVariants.{Memory}
use Rattle.ht_entries.specs.Deadlines.{DeadlineText, EscalationText}
use Rattle.ht_models.specs.Expressions.{Asked, Spells, assignment, declared, expression}
use Rattle.ht_entries.specs.Finishes.{FinishText}
use Rattle.ht_models.specs.Model.{DeadlineOf, EscalationOf, FinishOf, ModelOf}
use Rattle.ht_entries.specs.ModelEntries.{ModelEntry}
use Rattle.ht_models.specs.ModelsText.{IsModelsText}
use Rattle.ht_models.specs.Refusals.{refusals}
use Rattle.ht_models.specs.SubTrees.{size_of}

-- ---- what the texts of a model say

-- nothing where no text is given
abbrev pub IsIfAny : Declared → Asked → Option (List ℕ) → Option Tree → Type 0
IsIfAny kinds what None said = said ≡ None
IsIfAny kinds what (Some text) None = ⊥
IsIfAny kinds what (Some text) (Some tree) = Spells kinds (what, text) tree

-- or this tree
abbrev pub IsOr : Declared → Asked → Tree → Option (List ℕ) → Tree → Type 0
IsOr kinds what missing None said = said ≡ missing
IsOr kinds what missing (Some text) said = Spells kinds (what, text) said

-- an escalation without a condition is always triggered
pub record IsEscalation (kinds : Declared) (e : EscalationText) (x : EscalationOf) : Type 0 where
  pub name : x.name ≡ e.name
  pub when : IsOr kinds (expression Truth) (truth true) e.when x.when
  pub notify : IsIfAny kinds assignment e.notify x.notify
  pub reassign : IsIfAny kinds assignment e.reassign x.reassign

pub record IsDeadline (kinds : Declared) (d : DeadlineText) (x : DeadlineOf) : Type 0 where
  pub name : x.name ≡ d.name
  pub kind : x.kind ≡ d.kind
  pub period : x.period ≡ d.period
  pub at : x.at ≡ d.at
  pub part : x.part ≡ d.part
  pub escalations : AllZip (IsEscalation kinds) d.escalations x.escalations

pub record IsFinish (kinds : Declared) (f : FinishText) (x : FinishOf) : Type 0 where
  pub when : IsIfAny kinds (expression Truth) f.when x.when
  pub settings : x.settings ≡ f.settings

-- the priority is 5 where none is given, and anybody may be delegated to
pub record IsModel (m : ModelEntry) (x : ModelOf) : Type 0 where
  pub name : x.name ≡ m.name
  pub priority : IsOr (declared m) (expression Int) (integer 5) m.priority x.priority
  pub skipable : x.skipable ≡ m.skipable
  pub owner_required : x.owner_required ≡ m.owner_required
  pub delegation : x.delegation ≡ unwrap_or m.delegation Anybody
  pub delegatees : IsIfAny (declared m) assignment m.delegatees x.delegatees
  pub potential_owners : IsOr (declared m) assignment nobody m.potential_owners x.potential_owners
  pub excluded_owners : IsOr (declared m) assignment nobody m.excluded_owners x.excluded_owners
  pub administrators : IsIfAny (declared m) assignment m.administrators x.administrators
  pub stakeholders : IsIfAny (declared m) assignment m.stakeholders x.stakeholders
  pub composition : x.composition ≡ m.composition
  pub instantiation : x.instantiation ≡ m.instantiation
  pub completion : x.completion ≡ m.completion
  pub input : x.input ≡ m.input
  pub output : x.output ≡ m.output
  pub subs : x.subs ≡ m.subs
  pub deadlines : AllZip (IsDeadline (declared m)) m.deadlines x.deadlines
  pub finishes : AllZip (IsFinish (declared m)) m.finishes x.finishes

-- ---- the models of a text

-- one for each entry, in their order, each with the size of its tree
pub record AreModels (t : List ModelEntry) (models : List ModelOf) : Type 0 where
  pub each : AllZip IsModel t models
  pub sizes : (place : ℕ) (x : ModelOf) → slice_get models place ≡ Some x → x.size ≡ size_of t place

abbrev pub IsModels : List ℕ → List ModelOf → Type 0
IsModels text models = (t : List ModelEntry) × IsModelsText text t × AreModels t models

-- want of memory says nothing of the text
abbrev pub Reads : List ℕ → Result (List ModelOf) ModelsRefusal → Type 0
Reads text answer = text_reads.Reads Memory (refusals text) (IsModels text) answer
