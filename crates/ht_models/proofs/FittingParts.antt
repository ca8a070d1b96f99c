-- What is said of the parts of models that don't contradict themselves.
use Rattle.std.proofs.Common.{◌≡◌, ◌∙◌, ℕ, true, false, List, map, Option, Some, None, All, ap, ap₂, option_map, refl, sym}
use Rattle.std.specs.Prelude.{IsSome, slice_get, slice_index_or}
use Rattle.std.specs.List.{AllZip, list_any}
use Rattle.std.specs.Option.{option_and_then}
use Rattle.std.proofs.lemmas.Bool.{false_from_ne_true, not-false, or_left, or_right}
use Rattle.std.proofs.lemmas.List.Elements.{All-map}
use Rattle.std.proofs.lemmas.Option.{slice_get-get_or, slice_get-map}
use Rattle.ht_base.specs.declared.kind.Kind.{Kind}
use Rattle.ht_base.specs.Kinds.{kind_of_how}
use Rattle.ht_base.specs.Places.{place_in}
use Rattle.ht_base.specs.Values.{Ascend}
use Rattle.ht_expr.specs.declared.kinds.Side.TheVariants.{Input, Output}
use Rattle.ht_expr.specs.Kinds.{Declared, declared_kind}
use Rattle.ht_expr.specs.KindTable.{is_of_kind}
use Rattle.ht_models.specs.declared.model.Finish.{Finish}
use Rattle.ht_models.specs.declared.model.Model.{Model}
use Rattle.ht_models.specs.Contradictions.{are_one, has_unfit_finish, has_unfit_sub, is_unfit, is_unfit_pair, misses_parts}
use Rattle.ht_models.specs.Expressions.{declared}
use Rattle.ht_entries.specs.Finishes.{Setting}
use Rattle.ht_models.specs.Kinded.{IsKinded, IsSettable, SpeaksOfParts, parts_of}
use Rattle.ht_models.specs.MappedInputs.{AreMapped, IsMappedPair}
use Rattle.ht_models.specs.Model.{ModelOf, names}
use Rattle.ht_entries.specs.ModelEntries.{ModelEntry}
use Rattle.ht_models.specs.Reading.{IsFinish, IsModel}
use Rattle.ht_models.specs.Refusals.{IsContradicted}
use Rattle.ht_models.specs.SetOutputs.{SetOutputs, SetsOutputs}
use Rattle.ht_models.specs.Shown.{finish_of, model_of}
use Rattle.ht_entries.specs.SubEntries.{AreInOrder, SubEntry}
use Rattle.ht_models.specs.SubTrees.{model_named}
use Rattle.ht_models.proofs.Elements.{all_at, fails_at, holds_at}
use Rattle.ht_models.proofs.ModelLists.{same_names}
use Rattle.ht_models.proofs.Spellings.{same_is}
use Rattle.ht_models.proofs.Zips.{zip_at}

-- ---- kinds

of_kind : (k : Kind) (o : Option Kind) → is_of_kind k o ≡ true → o ≡ Some k
of_kind k None is = cc
of_kind k (Some a) is = ap (λ (k : Kind). Some k) (same_is k a is)

both_one : (a b : Option Kind) → are_one a b ≡ true → IsSome a × (a ≡ b)
both_one None b is = cc
both_one (Some a) b is = (refl, sym (of_kind a b is))

-- the parts of a model are those of its entry
declared_parts : (e : ModelEntry) (m : ModelOf) → IsModel e m → declared e ≡ parts_of m.input m.output
declared_parts e m read = ap₂ parts_of (sym read.input) (sym read.output)

module _ (t : List ModelEntry) (fits : (place : ℕ) → IsContradicted t place → ⊥) (place : ℕ) (e : ModelEntry) (at : slice_get t place ≡ Some e) where
  fit_subs : has_unfit_sub t e ≡ false
  fit_subs = false_from_ne_true _ (λ unfit. fits place (e, at, or_left _ _ (or_left _ _ (or_left _ _ (or_right _ _ unfit)))))

  fit_finishes : has_unfit_finish e ≡ false
  fit_finishes = false_from_ne_true _ (λ unfit. fits place (e, at, or_left _ _ (or_right _ _ unfit)))

-- ---- finishes

fit_setting : (kinds : Declared) (s : Setting) → is_unfit kinds s ≡ false → IsSettable kinds s
fit_setting kinds s is = of_kind (kind_of_how s.how) (declared_kind kinds Output s.part) (not-false _ is)

module _ (e : ModelEntry) (m : Model) (read : IsModel e (model_of m)) (fits : has_unfit_finish e ≡ false) where
  settings_fit : (i : ℕ) (f : Finish) → slice_get m.finishes.items i ≡ Some f → All (IsSettable (parts_of m.input.items m.output.items)) f.settings.items
  settings_fit i f at =
      let shown : slice_get (map finish_of m.finishes.items) i ≡ Some (finish_of f) = slice_get-map finish_of m.finishes.items i ∙ ap (option_map finish_of) at in
      let from = zip_at (IsFinish (declared e)) e.finishes (map finish_of m.finishes.items) read.finishes i (finish_of f) shown in
      let none : list_any (is_unfit (declared e)) f.settings.items ≡ false =
      ap (list_any (is_unfit (declared e))) from.2.settings ∙ fails_at (λ f. list_any (is_unfit (declared e)) f.settings) e.finishes fits i from.0 from.1 in
      rw (← declared_parts e (model_of m) read) (all_at (IsSettable (declared e)) f.settings.items (λ k s there. fit_setting (declared e) s (fails_at (is_unfit (declared e)) f.settings.items none k s there)))

  is_kinded : SpeaksOfParts m → IsKinded m
  is_kinded kinds = record {
    priority = kinds.priority;
    delegatees = kinds.delegatees;
    potential_owners = kinds.potential_owners;
    excluded_owners = kinds.excluded_owners;
    administrators = kinds.administrators;
    stakeholders = kinds.stakeholders;
    deadlines = kinds.deadlines;
    finishes = λ k d low. record {
      when = kinds.finishes k d low;
      settings = settings_fit k (slice_index_or m.finishes.items k d) (slice_get-get_or m.finishes.items k d low);
    };
  }

module _ (t : List ModelEntry) (ms : List Model) (fits : (place : ℕ) → IsContradicted t place → ⊥) (are : AllZip IsModel t (map model_of ms)) where
  pub are_kinded : All SpeaksOfParts ms → All IsKinded ms
  are_kinded kinds = λ k d low.
      let m = slice_index_or ms k d in
      let shown : slice_get (map model_of ms) k ≡ Some (model_of m) = slice_get-map model_of ms k ∙ ap (option_map model_of) (slice_get-get_or ms k d low) in
      let from = zip_at IsModel t (map model_of ms) are k (model_of m) shown in
      is_kinded from.0 m from.2 (fit_finishes t fits k from.0 from.1) (kinds k d low)

-- each model sets only its outputs
pub sets_outputs : (m : Model) → IsKinded m → SetsOutputs (model_of m)
sets_outputs m kinds = All-map (λ f. All (IsSettable (parts_of m.input.items m.output.items)) f.settings) finish_of m.finishes.items (λ k d low. (kinds.finishes k d low).settings)

pub set_outputs : (ms : List Model) → All IsKinded ms → SetOutputs (map model_of ms)
set_outputs ms kinds place m at = holds_at SetsOutputs (map model_of ms) (All-map SetsOutputs model_of ms (λ k d low. sets_outputs (slice_index_or ms k d) (kinds k d low))) place m at

-- ---- sub entries

fit_pair : (n m : ModelOf) (pair : List ℕ × List ℕ) (of : ModelEntry) (kinds : Declared) → declared of ≡ parts_of n.input n.output → kinds ≡ parts_of m.input m.output → is_unfit_pair (Some of) kinds pair ≡ false → IsMappedPair n m pair
fit_pair n m pair of kinds theirs ours is =
    let one = both_one (declared_kind (parts_of n.input n.output) Input pair.0) (declared_kind (parts_of m.input m.output) Input pair.1) (rw (← theirs, ← ours) (not-false _ is)) in
    record { declared = one.0; same = one.1 }

module _ (t : List ModelEntry) (models : List ModelOf) (fits : (place : ℕ) → IsContradicted t place → ⊥) (are : AllZip IsModel t models) where
  -- the model of a sub entry is that of the entry of its name
  named : (name : List ℕ) (place : ℕ) (of : ModelEntry) → place_in name (names models) ≡ Some place → slice_get t place ≡ Some of → model_named t name ≡ Some of
  named name place of is there = ap (λ ns. option_and_then (slice_get t) (place_in name ns)) (same_names t models are) ∙ ap (option_and_then (slice_get t)) is ∙ there

  pairs_fit : (e : ModelEntry) (m : ModelOf) → IsModel e m → (s : SubEntry) → misses_parts t (declared e) s ≡ false → (place : ℕ) (n : ModelOf) → place_in s.model (names models) ≡ Some place → slice_get models place ≡ Some n → All (IsMappedPair n m) s.input
  pairs_fit e m read s fit place n is there =
      let under = zip_at IsModel t models are place n there in
      let none : list_any (is_unfit_pair (Some under.0) (declared e)) s.input ≡ false = rw (named s.model place under.0 is under.1) at fit in
      all_at (IsMappedPair n m) s.input (λ k pair at. fit_pair n m pair under.0 (declared e) (declared_parts under.0 n under.2) (declared_parts e m read) (fails_at (is_unfit_pair (Some under.0) (declared e)) s.input none k pair at))

  pub are_mapped : All (λ e. AreInOrder e.subs) t → AreMapped models
  are_mapped order place m at i s there =
      let from = zip_at IsModel t models are place m at in
      let listed : slice_get from.0.subs i ≡ Some s = rw (← from.2.subs) there in
      record {
        ascend = holds_at (λ s. Ascend s.input) from.0.subs (holds_at (λ e. AreInOrder e.subs) t order place from.0 from.1) i s listed;
        pairs = pairs_fit from.0 m from.2 s (fails_at (misses_parts t (declared from.0)) from.0.subs (fit_subs t fits place from.0 from.1) i s listed);
      }
