-- From which input parts of a composite task those of its sub tasks take their values (WS-HumanTask
-- 1.1, 3.2), told of the models that were read.
use Rattle.std.specs.Prelude.{◌≡◌, ℕ, All, List, Option, Some, IsSome, slice_get}
use Rattle.ht_base.specs.declared.kind.Kind.{Kind}
use Rattle.ht_base.specs.Places.{place_in}
use Rattle.ht_base.specs.Values.{Ascend}
use Rattle.ht_expr.specs.declared.kinds.Side.TheVariants.{Input}
use Rattle.ht_expr.specs.Kinds.{declared_kind}
use Rattle.ht_models.specs.Kinded.{parts_of}
use Rattle.ht_models.specs.Model.{ModelOf, names}
use Rattle.ht_entries.specs.SubEntries.{SubEntry}

-- the kind of an input part of a model, if it has the part
abbrev pub input_kind : ModelOf → List ℕ → Option Kind
input_kind m name = declared_kind (parts_of m.input m.output) Input name

-- the model of the sub task declares the one part, that of the composite task the other, and they are
-- of one kind
pub record IsMappedPair (n m : ModelOf) (pair : List ℕ × List ℕ) : Type 0 where
  pub declared : IsSome (input_kind n pair.0)
  pub same : input_kind n pair.0 ≡ input_kind m pair.1

-- of a model and one of its sub entries
pub record IsMappedEntry (models : List ModelOf) (m : ModelOf) (s : SubEntry) : Type 0 where
  -- by the names of the sub task's parts, of which none stands twice
  pub ascend : Ascend s.input
  pub pairs : (place : ℕ) (n : ModelOf) → place_in s.model (names models) ≡ Some place → slice_get models place ≡ Some n → All (IsMappedPair n m) s.input

abbrev pub AreMapped : List ModelOf → Type 0
AreMapped models = (place : ℕ) (m : ModelOf) → slice_get models place ≡ Some m → (i : ℕ) (s : SubEntry) → slice_get m.subs i ≡ Some s → IsMappedEntry models m s
