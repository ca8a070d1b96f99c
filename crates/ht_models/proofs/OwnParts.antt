-- The names of the parts that a model declares.
use Rattle.std.proofs.Common.{◌≡◌, ◌∙◌, ℕ, zero, suc, ◌||◌, true, false, List, [], ◌∷◌, Some, ap, arith, bytes_eq, inr, map, option_map}
use Rattle.std.specs.Prelude.{slice_get}
use Rattle.std.specs.List.{AllZip}
use Rattle.std.proofs.lemmas.Bool.{false_from_ne_true, or_left, or_right}
use Rattle.std.proofs.lemmas.Option.{slice_get-map}
use Rattle.std.proofs.lemmas.Slice.Eq.{bytes_eq-Decides}
use Rattle.ht_expr.specs.declared.kinds.Side.TheVariants.{Input, Output}
use Rattle.ht_expr.specs.Kinds.{declared_kind}
use Rattle.ht_models.specs.DeclaredParts.{DeclareOnce, HaveOwnNames}
use Rattle.ht_models.specs.Expressions.{kind_among}
use Rattle.ht_models.specs.Kinded.{parts_of}
use Rattle.ht_models.specs.Model.{ModelOf}
use Rattle.ht_entries.specs.ModelEntries.{ModelEntry}
use Rattle.ht_entries.specs.Parts.{Part}
use Rattle.ht_models.specs.Reading.{IsModel}
use Rattle.ht_models.specs.Refusals.{IsTwice}
use Rattle.ht_models.specs.Repeats.{has_repeat}
use Rattle.ht_models.proofs.DeclaredKinds.{among_inputs, behind_inputs}
use Rattle.ht_models.proofs.Repeated.{repeat_found}
use Rattle.ht_models.proofs.Zips.{zip_at}

module _ (t : List ModelEntry) (models : List ModelOf) (twice : (place : ℕ) → IsTwice t place → ⊥) (are : AllZip IsModel t models) where
  own_names : (place : ℕ) (e : ModelEntry) → slice_get t place ≡ Some e → (has_repeat (map (λ p. p.name) e.input) || has_repeat (map (λ p. p.name) e.output)) ≡ true → ⊥
  own_names place e at repeats = twice place (inr (e, at, or_left _ _ (or_left _ _ (or_left _ _ repeats))))

  pub declare_once : DeclareOnce models
  declare_once place m at =
      let from = zip_at IsModel t models are place m at in
      let own = own_names place from.0 from.1 in
      record {
        input = rw from.2.input (λ i repeated. own (or_left _ _ (repeat_found (map (λ (p : Part). p.name) from.0.input) i repeated)));
        output = rw from.2.output (λ i repeated. own (or_right _ _ (repeat_found (map (λ (p : Part). p.name) from.0.output) i repeated)));
      }

-- ---- parts of distinct names have their own kinds

own_kind : (parts : List Part) → HaveOwnNames parts → (i : ℕ) (p : Part) → slice_get parts i ≡ Some p → kind_among p.name parts ≡ Some p.kind
own_kind [] own i p at = cc
own_kind (q ∷ ps) own zero p at =
    let same : q ≡ p = cc in
    rw ((bytes_eq-Decides q.name p.name).1 (ap (λ (p : Part). p.name) same)) (ap (λ (p : Part). Some p.kind) same)
own_kind (q ∷ ps) own (suc i) p at =
    let there : slice_get (map (λ (p : Part). p.name) ps) i ≡ Some p.name = slice_get-map (λ (p : Part). p.name) ps i ∙ ap (option_map (λ (p : Part). p.name)) at in
    let other : bytes_eq q.name p.name ≡ false = false_from_ne_true _ (λ yes. own (suc i) (0, omega arith, p.name, ap (λ (n : List ℕ). Some n) ((bytes_eq-Decides q.name p.name).0 yes), there)) in
    rw other (own_kind ps (λ j repeated. own (suc j) (suc repeated.0, (let low = repeated.1 in omega arith), repeated.2, repeated.3, repeated.4)) i p at)

pub own_input : (input out : List Part) → HaveOwnNames input → (i : ℕ) (p : Part) → slice_get input i ≡ Some p → declared_kind (parts_of input out) Input p.name ≡ Some p.kind
own_input input out own i p at = among_inputs p.name input out ∙ own_kind input own i p at

pub own_output : (input out : List Part) → HaveOwnNames out → (i : ℕ) (p : Part) → slice_get out i ≡ Some p → declared_kind (parts_of input out) Output p.name ≡ Some p.kind
own_output input out own i p at = behind_inputs p.name input out ∙ own_kind out own i p at
