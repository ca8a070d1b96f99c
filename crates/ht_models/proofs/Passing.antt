-- A models text is read by passes, and to one answer.
use Rattle.std.proofs.Common.{◌≡◌, ◌≢◌, ◌<◌, ◌≤◌, ℕ, true, List, Some, Ok, Err, Result, length, map, option_map, get_or, All, arith, inl, inr, refl, lt-ltb, ap, ◌∙◌}
use Rattle.std.specs.Prelude.{slice_get, slice_index_or}
use Rattle.std.proofs.Math.Bool.{or-true}
use Rattle.std.proofs.lemmas.Bool.{cases_lt}
use Rattle.std.proofs.lemmas.Option.{slice_get-get_or, slice_get-map, slice_get_within}
use Rattle.std.specs.List.{AllZip}
use Rattle.toml.specs.Data.{Members}
use Rattle.ht_base.specs.Indexes.{IsIndex}
use Rattle.ht_base.specs.Places.{IsLeast}
use Rattle.ht_base.specs.declared.limits.TheConstants.{LARGEST_TREE, MOST_MODELS}
use Rattle.ht_toml.specs.Documents.{IsDocument}
use Rattle.ht_toml.specs.Refusals as text_reads
use Rattle.ht_toml.specs.Refusals.{IsFirst, Of, TellsLeast, each_of, refused}
use Rattle.ht_toml.proofs.PublicLaws as law
use Rattle.ht_models.specs.declared.model.Model.{Model}
use Rattle.ht_models.specs.declared.models.Models.TheInside.{Inside}
use Rattle.ht_models.specs.declared.refusal.ModelsRefusal.{ModelsRefusal}
use Rattle.ht_models.specs.declared.refusal.ModelsRefusal.TheVariants.{Field, UnknownModel, Cycle, Expression, Limit, Contradiction, Memory}
use Rattle.ht_models.specs.Kept.{IsKept, kept_names}
use Rattle.ht_models.specs.Kinded.{SpeaksOfParts}
use Rattle.ht_models.specs.Model.{ModelOf}
use Rattle.ht_entries.specs.ModelEntries.{ModelEntry}
use Rattle.ht_models.specs.ModelsText.{IsMisshapen, IsModelsText, models_text}
use Rattle.ht_models.specs.Reading.{AreModels, IsModel, IsModels, Reads}
use Rattle.ht_models.specs.Refusals.{IsContradicted, IsTooMuch, IsTwice, IsUnreadable, NamesUnknownModel, ReachesItself, model_refusals, refusals}
use Rattle.ht_models.specs.Shown.{model_of}
use Rattle.ht_models.specs.Limits.{has_too_large_tree}
use Rattle.ht_entries.specs.SubEntries.{AreInOrder}
use Rattle.ht_models.specs.SubTrees.{AreCounted, TreeCounts, is_too_deep, names_of, size_of, sub_places}
use Rattle.ht_models.proofs.FewDeadlines.{few_kept}
use Rattle.ht_models.proofs.FittingParts.{are_kinded, are_mapped}
use Rattle.ht_models.proofs.Lookups.{names-map}
use Rattle.ht_models.proofs.ModelLists.{one_list, same_length, same_names}
use Rattle.ht_models.proofs.OwnParts.{declare_once}
use Rattle.ht_models.proofs.Reassigned.{reassign_owned}
use Rattle.ht_models.proofs.Shapes.{none_misshapen}
use Rattle.ht_models.proofs.SizedTrees.{are_sized}
use Rattle.ht_models.proofs.SubPlaces.{counted_size, some_size}
use Rattle.ht_models.proofs.Zips.{length_zip}

-- ---- one answer

one_models : (text : List ℕ) (a b : List ModelOf) → IsModels text a → IsModels text b → a ≡ b
one_models text a b first second = one_list second.0 a b (rw (← law.one_saying models_text text first.0 second.0 first.1 second.1) first.2) second.2

pub one_answer : (text : List ℕ) (a b : Result (List ModelOf) ModelsRefusal) → Reads text a → Reads text b → a ≢ Err Memory → b ≢ Err Memory → a ≡ b
one_answer text = law.one_answer Memory (refusals text) (IsModels text) (one_models text)

-- ---- the document, and then its models

module _ (text : List ℕ) (ms : Members) (is : IsDocument text ms) where
  no_syntax : (place : ℕ) → ((ms : Members) → IsDocument text ms → ⊥) → ⊥
  no_syntax place none = none ms is

  pub field_told : (a : ModelsRefusal) → (a ≢ Memory → TellsLeast (refused Field (IsMisshapen ms)) a) → a ≢ Memory → IsFirst (refusals text) a
  field_told a first some = inr (no_syntax, inl (law.told_of (IsDocument text) (law.one_document text) IsMisshapen ms is Memory Field a first some))

  module _ (t : List ModelEntry) (read : models_text ms ≡ Some t) where
    pub shape : IsModelsText text t
    shape = (ms, is, read)

    no_field : (place : ℕ) → Of (IsDocument text) IsMisshapen place → ⊥
    no_field = law.nowhere_of (IsDocument text) (law.one_document text) IsMisshapen ms is (none_misshapen ms t read)

    -- what is told of the models is told of the text
    pub models_told : (a : Result (List ModelOf) ModelsRefusal) → text_reads.Reads Memory (each_of t model_refusals) (AreModels t) a → Reads text a
    models_told (Ok models) r = ((t, shape, r.0), (no_syntax, (no_field, law.nothing_of_text (IsModelsText text) (law.one_saying models_text text) t shape model_refusals r.1)))
    models_told (Err e) r = λ some. inr (no_syntax, inr (no_field, law.first_of_text (IsModelsText text) (law.one_saying models_text text) t shape model_refusals e (r some)))

-- ---- the refusals of models, one behind another

module _ (t : List ModelEntry) where
  abbrev pub Told : ModelsRefusal → Type 0
  Told a = a ≢ Memory → IsFirst (each_of t model_refusals) a

  -- it holds of none of the models
  abbrev pub Never : (List ModelEntry → ℕ → Type 0) → Type 0
  Never P = (place : ℕ) → P t place → ⊥

  abbrev pub Tells : (ℕ → ModelsRefusal) → (List ModelEntry → ℕ → Type 0) → ModelsRefusal → Type 0
  Tells refusal P a = a ≢ Memory → TellsLeast (refused refusal (P t)) a

  pub unknown_told : Never IsTwice → (a : ModelsRefusal) → Tells UnknownModel NamesUnknownModel a → Told a
  unknown_told twice a first = λ some. inr (twice, inl (first some))

  module _ (twice : Never IsTwice) (unknown : Never NamesUnknownModel) where
    pub cycle_told : (a : ModelsRefusal) → Tells Cycle ReachesItself a → Told a
    cycle_told a first = λ some. inr (twice, inr (unknown, inl (first some)))

    module _ (cycle : Never ReachesItself) where
      pub expression_told : (a : ModelsRefusal) → Tells Expression IsUnreadable a → Told a
      expression_told a first = λ some. inr (twice, inr (unknown, inr (cycle, inl (first some))))

      module _ (expression : Never IsUnreadable) where
        pub limit_told : (place : ℕ) → IsLeast (IsTooMuch t) place → Told (Limit place)
        limit_told place least = λ some. inr (twice, inr (unknown, inr (cycle, inr (expression, inl (place, refl, least)))))

        module _ (limit : Never IsTooMuch) where
          pub contradiction_told : (place : ℕ) → IsLeast (IsContradicted t) place → Told (Contradiction place)
          contradiction_told place least = λ some. inr (twice, inr (unknown, inr (cycle, inr (expression, inr (limit, inl (place, refl, least))))))

          pub all_read : Never IsContradicted → (models : List ModelOf) → AreModels t models → text_reads.Reads Memory (each_of t model_refusals) (AreModels t) (Ok models)
          all_read contradiction models are = (are, (twice, (unknown, (cycle, (expression, (limit, (contradiction, tt)))))))

-- ---- the models, with the sizes of their trees

too_large : (t : List ModelEntry) (place : ℕ) → LARGEST_TREE < size_of t place → has_too_large_tree t place ≡ true
too_large t place large = rw (lt-ltb LARGEST_TREE (size_of t place) large) (or-true (is_too_deep t place))

few_models : (t : List ModelEntry) → Never t IsTooMuch → length t ≤ MOST_MODELS
few_models t limit = elim (cases_lt MOST_MODELS (length t)) [ inl many ↦ absurd (limit 0 (inl (many, refl))) | inr few ↦ few ]

small_tree : (t : List ModelEntry) → Never t IsTooMuch → (place : ℕ) → place < length t → size_of t place ≤ LARGEST_TREE
small_tree t limit place low = elim (cases_lt LARGEST_TREE (size_of t place)) [
  | inl large ↦ absurd (limit place (inr (inr (low, too_large t place large))))
  | inr small ↦ small
]

pub sized : (t : List ModelEntry) (counts : TreeCounts) (models : List ModelOf) → AllZip IsModel t models → AreCounted (sub_places t) counts → Never t IsTooMuch → ((place : ℕ) (m : ModelOf) → slice_get models place ≡ Some m → m.size ≡ slice_index_or counts.sizes place 0) → AreModels t models
sized t counts models are counted limit sizes = record {
  each = are;
  sizes = λ place m at.
      let low : place < length t = rw (length_zip IsModel t models are) (slice_get_within models place m at) in
      sizes place m at ∙ counted_size t counts counted place low (small_tree t limit place low);
}

-- ---- models as they are kept

sizes_kept : (t : List ModelEntry) (ms : List Model) → Never t IsTooMuch → AreModels t (map model_of ms) → All (λ m. (1 ≤ m.size) × (m.size ≤ LARGEST_TREE)) ms
sizes_kept t ms limit are place d within =
    let m = get_or ms place d in
    let at : slice_get (map model_of ms) place ≡ Some (model_of m) = slice_get-map model_of ms place ∙ ap (option_map model_of) (slice_get-get_or ms place d within) in
    let size = are.sizes place (model_of m) at in
    let low : place < length t = rw (same_length t ms are.each) within in
    let some = some_size t place in
    let small = small_tree t limit place low in
    (omega arith, omega arith)

pub kept : (t : List ModelEntry) (m : Inside) → 1 ≤ length t → Never t IsTooMuch → Never t IsTwice → Never t NamesUnknownModel → Never t IsContradicted → All (λ e. AreInOrder e.subs) t → AreModels t (map model_of m.models.items) → All SpeaksOfParts m.models.items → IsIndex m.places (names_of t) → IsKept m
kept t m some limit twice unknown contradiction order models kinds index =
    let are = models.each in
    let few = few_models t limit in
    let names : names_of t ≡ kept_names m = same_names t (map model_of m.models.items) are ∙ names-map m.models.items in
    let same = same_length t m.models.items are in
    record {
      index = rw (← names) index;
      distinct = rw (← names) (λ place repeated. twice place (inl repeated));
      sizes = sizes_kept t m.models.items limit models;
      trees = are_sized t (map model_of m.models.items) models unknown limit;
      parts = declare_once t (map model_of m.models.items) twice are;
      kinds = are_kinded t m.models.items contradiction are kinds;
      inputs = are_mapped t (map model_of m.models.items) contradiction are order;
      owned = reassign_owned t (map model_of m.models.items) contradiction are;
      deadlines = few_kept t limit m.models.items are;
      some = omega arith;
      few = omega arith;
    }
