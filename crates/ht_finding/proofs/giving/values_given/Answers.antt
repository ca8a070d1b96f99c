use Rattle.std.proofs.Common.{◌≡◌, ℕ, List, [], ◌∷◌, ◌++◌, length, take, Option, Some, None, option_map, filter_map, append-nil, refl, ap, sym, ◌∙◌, subst, arith}
use Rattle.std.proofs.lemmas.Option.{slice_get_read}
use Rattle.ht_base.specs.declared.scalar.Scalar.{Scalar}
use Rattle.ht_base.specs.declared.value.Value.{Value}
use Rattle.ht_base.specs.Values.{Ascend, IsBehind}
use Rattle.ht_finding.specs.Giving.{value_for, value_given}
use Rattle.ht_finding.proofs.PartsGiven.{behind_all, front_before, given_more, kept_before, none_given, one_given}
use Rattle.ht_finding.proofs.giving.values_given.Goals.{in-Some+in_ok-push, in_default}
use Rattle.ht_finding.proofs.giving.values_given.Goals as goal

pub push-requires : goal.push-requires
push-requires c =
    let d = c.args.people.now in
    let parts = c.args.parts.now in
    let gs : List (List ℕ × Scalar) = c.as_slice-name-items.result.now in
    let i = c.loop-name.name-index in
    let g : List ℕ × Scalar = c.loop-name-item.result in
    let A : List (List ℕ × Scalar) → Type 0 = λ xs. Ascend xs in
    let up = subst A (sym c.as_slice-name-items.ensures.value) c.as_slice-name-items.ensures.ascend in
    let there = slice_get_read gs (length gs) i g refl (omega arith) c.loop-name-item.is in
    let P : List (List ℕ × Value) → Type 0 = λ vs. IsBehind g.0 vs in
    subst P (sym c.loop-name.invariant) (behind_all g.0 _ (kept_before (λ x. value_for d parts x.0 x.1) g.0 (take i gs) (front_before gs up i g there)))

pub loop-name-preserved : goal.loop-name-preserved
loop-name-preserved c =
    let d = c.args.people.now in
    let parts = c.args.parts.now in
    let gs : List (List ℕ × Scalar) = c.as_slice-name-items.result.now in
    let i = c.loop-name.name-index in
    let g : List ℕ × Scalar = c.loop-name-item.result in
    let more = given_more (value_given d parts) gs i g (omega arith) c.loop-name-item.is in
    elim c.match-branch-2.branch [
      | in-Some+in_ok-push w ↦
          let value : value_given d parts g ≡ Some (g.0, w.in-Some.value) = ap (λ (o : Option Value). option_map (λ v. (g.0, v)) o) (sym c.in_ok-value.ensures ∙ w.in-Some.is) in
          w.values-is ∙ w.in_ok-push.ensures.ok ∙ ap (λ (vs : List (List ℕ × Value)). vs ++ (g.0, w.in-Some.value) ∷ []) c.loop-name.invariant ∙ ap (λ (vs : List (List ℕ × Value)). filter_map (value_given d parts) (take i gs) ++ vs) (sym (one_given (value_given d parts) g (g.0, w.in-Some.value) value)) ∙ sym more
      | in_default w ↦
          let value : value_given d parts g ≡ None = ap (λ (o : Option Value). option_map (λ v. (g.0, v)) o) (sym c.in_ok-value.ensures ∙ w.in_default.is) in
          w.values-is ∙ c.loop-name.invariant ∙ sym (more ∙ ap (λ (vs : List (List ℕ × Value)). filter_map (value_given d parts) (take i gs) ++ vs) (none_given (value_given d parts) g value) ∙ append-nil (filter_map (value_given d parts) (take i gs)))
    ]
