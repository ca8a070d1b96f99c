-- The texts of a model that are read as expressions or assignments, what each is asked to be, and
-- which is none.
use Rattle.std.specs.Prelude.{◌≡◌, ◌⊎◌, ℕ, List, [], ◌∷◌, ◌++◌, Option, Some, None, Ok, bytes_eq, if◌then◌else◌}
use Rattle.std.specs.List.{flat_map}
use Rattle.ht_base.specs.declared.kind.Kind.{Kind}
use Rattle.ht_base.specs.declared.kind.Kind.TheVariants.{Int, Truth}
use Rattle.ht_expr.specs.Kinds.{Declared}
use Rattle.ht_expr.specs.KindTable.{kind_of}
use Rattle.ht_expr.specs.Reading as expression_reads
use Rattle.ht_expr.specs.Trees.{Tree, an_assignment, an_expression}
use Rattle.ht_entries.specs.Deadlines.{DeadlineText, EscalationText}
use Rattle.ht_entries.specs.Finishes.{FinishText}
use Rattle.ht_entries.specs.ModelEntries.{ModelEntry}
use Rattle.ht_entries.specs.Parts.{Part}
use Rattle.ht_models.specs.Kinded.{parts_of}

-- an expression of a kind, or an assignment
pub data Asked : Type 0 where
  expression : Kind → Asked
  assignment : Asked

-- the text, where it is given
abbrev pub asked : Asked → Option (List ℕ) → List (Asked × List ℕ)
asked what None = []
asked what (Some text) = (what, text) ∷ []

abbrev pub of_escalation : EscalationText → List (Asked × List ℕ)
of_escalation e = asked (expression Truth) e.when ++ asked assignment e.notify ++ asked assignment e.reassign

abbrev pub of_deadline : DeadlineText → List (Asked × List ℕ)
of_deadline d = flat_map of_escalation d.escalations

abbrev pub of_finish : FinishText → List (Asked × List ℕ)
of_finish f = asked (expression Truth) f.when

-- all texts of a model, in the order of its keys
abbrev pub expressions : ModelEntry → List (Asked × List ℕ)
expressions m =
    asked (expression Int) m.priority
    ++ asked assignment m.delegatees
    ++ asked assignment m.potential_owners
    ++ asked assignment m.excluded_owners
    ++ asked assignment m.administrators
    ++ asked assignment m.stakeholders
    ++ flat_map of_deadline m.deadlines
    ++ flat_map of_finish m.finishes

-- the parts of which they may speak
abbrev pub declared : ModelEntry → Declared
declared m = parts_of m.input m.output

-- the kind of the part of this name among these
abbrev pub kind_among : List ℕ → List Part → Option Kind
kind_among name [] = None
kind_among name (p ∷ ps) = if bytes_eq p.name name then Some p.kind else kind_among name ps

-- the text is this tree, and what it is asked to be
abbrev pub Spells : Declared → Asked × List ℕ → Tree → Type 0
Spells kinds (expression kind, text) tree = expression_reads.Reads kinds an_expression text (Ok tree) × (kind_of kinds tree ≡ Some kind)
Spells kinds (assignment, text) tree = expression_reads.Reads kinds an_assignment text (Ok tree)

-- a text is nothing of the kind
abbrev pub IsRefused : Declared → Asked × List ℕ → Type 0
IsRefused kinds written = (tree : Tree) → Spells kinds written tree → ⊥

-- it holds of one of them
abbrev pub One : {A : Type 0} → (A → Type 0) → List A → Type 0
One P [] = ⊥
One P (x ∷ xs) = P x ⊎ One P xs

abbrev pub HasRefused : ModelEntry → Type 0
HasRefused m = One (IsRefused (declared m)) (expressions m)
