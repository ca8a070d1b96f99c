-- How many deadlines a model has.
use Rattle.std.proofs.Common.{◌≡◌, ◌+◌, ◌*◌, ◌<◌, ◌≤◌, ◌∙◌, ℕ, List, [], ◌∷◌, Some, All, ap, arith, filter, get_or, if◌then◌else◌, length, lt-ltb, map, option_map, refl, inl, inr}
use Rattle.std.specs.Prelude.{slice_get}
use Rattle.std.specs.List.{AllZip, count_by}
use Rattle.std.proofs.lemmas.Bool.{cases_lt, or_left, or_right}
use Rattle.std.proofs.lemmas.List.{length-map}
use Rattle.std.proofs.lemmas.List.Sums.{length-filter}
use Rattle.std.proofs.lemmas.Option.{slice_get-get_or, slice_get-map, slice_get_read}
use Rattle.ht_base.specs.declared.limits.TheConstants.{MOST_DEADLINES}
use Rattle.ht_entries.specs.declared.deadlines.DeadlineKind.{DeadlineKind}
use Rattle.ht_entries.specs.declared.deadlines.DeadlineKind.TheVariants.{Start, Completion}
use Rattle.ht_models.specs.declared.model.Model.{Model}
use Rattle.ht_models.specs.declared.models.Models.TheInside.{Inside}
use Rattle.ht_entries.specs.Deadlines.{DeadlineText}
use Rattle.ht_models.specs.Expressions.{declared}
use Rattle.ht_models.specs.Kept.{IsKept}
use Rattle.ht_models.specs.Limits.{is_completion, is_start}
use Rattle.ht_models.specs.Model.{ModelOf}
use Rattle.ht_entries.specs.ModelEntries.{ModelEntry}
use Rattle.ht_models.specs.Reading.{IsDeadline, IsModel}
use Rattle.ht_models.specs.Refusals.{IsTooMuch}
use Rattle.ht_models.specs.Shown.{deadline_of, model_of}
use Rattle.ht_models.proofs.Elements.{holds_at}
use Rattle.ht_models.proofs.Zips.{length_zip, zip_at}

-- each is of one kind
of_either_kind : (ds : List DeadlineText) → length ds ≡ length (filter (λ d. is_start d.kind) ds) + length (filter (λ d. is_completion d.kind) ds)
of_either_kind [] = refl
of_either_kind (d ∷ ds) = go d.kind (of_either_kind ds)
  where
    starts : List DeadlineText
    starts = filter (λ d. is_start d.kind) ds

    completions : List DeadlineText
    completions = filter (λ d. is_completion d.kind) ds

    go : (k : DeadlineKind) → length ds ≡ length starts + length completions → length (d ∷ ds) ≡ length (if is_start k then d ∷ starts else starts) + length (if is_completion k then d ∷ completions else completions)
    go Start e = omega arith
    go Completion e = omega arith

module _ (t : List ModelEntry) (limit : (place : ℕ) → IsTooMuch t place → ⊥) where
  few_written : (place : ℕ) (e : ModelEntry) → slice_get t place ≡ Some e → length e.deadlines ≤ 2 * MOST_DEADLINES
  few_written place e at =
      let all = of_either_kind e.deadlines in
      let starts = length-filter (λ (d : DeadlineText). is_start d.kind) e.deadlines in
      let completions = length-filter (λ (d : DeadlineText). is_completion d.kind) e.deadlines in
      elim (cases_lt MOST_DEADLINES (count_by (λ d. is_start d.kind) e.deadlines)) [
        | inl many ↦ absurd (limit place (inr (inl (e, at, or_left _ _ (or_left _ _ (or_right _ _ (lt-ltb MOST_DEADLINES _ many)))))))
        | inr starts_few ↦ elim (cases_lt MOST_DEADLINES (count_by (λ d. is_completion d.kind) e.deadlines)) [
          | inl many ↦ absurd (limit place (inr (inl (e, at, or_left _ _ (or_right _ _ (lt-ltb MOST_DEADLINES _ many))))))
          | inr completions_few ↦ omega arith
        ]
      ]

  pub few_kept : (ms : List Model) → AllZip IsModel t (map model_of ms) → All (λ m. length m.deadlines.items ≤ 2 * MOST_DEADLINES) ms
  few_kept ms are place d within =
      let m = get_or ms place d in
      let at : slice_get (map model_of ms) place ≡ Some (model_of m) = slice_get-map model_of ms place ∙ ap (option_map model_of) (slice_get-get_or ms place d within) in
      let from = zip_at IsModel t (map model_of ms) are place (model_of m) at in
      let few = few_written place from.0 from.1 in
      let same = length_zip (IsDeadline (declared from.0)) from.0.deadlines (map deadline_of m.deadlines.items) from.2.deadlines in
      let shown = length-map m.deadlines.items deadline_of in
      omega arith

-- of a model that is found
pub few_there : (m : Inside) (models : List ModelOf) (i : ℕ) (one : Model) → IsKept m → map model_of m.models.items ≡ models → i < length models → one ≡ get_or m.models.items i one → length one.deadlines.items ≤ 2 * MOST_DEADLINES
few_there m models i one kept view within is =
    let long = ap (λ (ms : List ModelOf). length ms) view in
    let same = length-map m.models.items model_of in
    let at : slice_get m.models.items i ≡ Some one = slice_get_read m.models.items (length m.models.items) i one refl (omega arith) is in
    holds_at (λ (m : Model). length m.deadlines.items ≤ 2 * MOST_DEADLINES) m.models.items kept.deadlines i one at
