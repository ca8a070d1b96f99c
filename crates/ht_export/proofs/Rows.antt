-- The lines of the rows, of which some come first.
use Rattle.std.proofs.Common.{◌≡◌, ℕ, suc, ◌+◌, ◌<◌, List, [], ◌∷◌, ◌++◌, length, get_or, take, drop, Some, None, slice_get, sym, ap, subst, ◌∙◌, append_assoc, append-nil, take-append-drop, inl, inr, arith}
use Rattle.std.specs.List.{flat_map}
use Rattle.std.proofs.lemmas.List.{take_more}
use Rattle.std.proofs.lemmas.List.Concat.{flat_map-append}
use Rattle.std.proofs.lemmas.Option.{get_or_from_slice_get, slice_get_cases, slice_get_within}
use Rattle.ht_tree.specs.declared.row.Row.{Row}
use Rattle.ht_tree.specs.Rows.{row_at}

-- behind so many rows there is one more, if there are more
pub is_there : (rows : List Row) (i : ℕ) → i < length rows → row_at (i + 1) rows ≡ None → ⊥
is_there rows i more none =
    let next : i + 1 ≡ suc i = omega arith in
    let at : slice_get rows i ≡ None = subst (λ n. row_at n rows ≡ None) next none in
    elim (slice_get_cases rows i).1 [
      | inl found ↦ absurd (let both = sym at ∙ found.2 in cc)
      | inr past ↦ omega (arith, past.0)
    ]

module _ (f : Row → List ℕ) (head : List ℕ) (rows : List Row) (i : ℕ) where
  -- the text is that of the first rows and that of the others
  pub and_rest : head ++ flat_map f rows ≡ (head ++ flat_map f (take i rows)) ++ flat_map f (drop i rows)
  and_rest =
      ap (λ l. head ++ flat_map f l) (sym (take-append-drop i rows))
      ∙ ap (λ l. head ++ l) (flat_map-append f (take i rows) (drop i rows))
      ∙ sym (append_assoc head (flat_map f (take i rows)) (flat_map f (drop i rows)))

  pub one_more : (row : Row) → row_at (i + 1) rows ≡ Some row → (head ++ flat_map f (take i rows)) ++ f row ≡ head ++ flat_map f (take (i + 1) rows)
  one_more row at =
      let next : i + 1 ≡ suc i = omega arith in
      let here : slice_get rows i ≡ Some row = subst (λ n. row_at n rows ≡ Some row) next at in
      let is : row ≡ get_or rows i row = sym (get_or_from_slice_get rows i row row here) in
      append_assoc head (flat_map f (take i rows)) (f row)
      ∙ ap (λ l. head ++ (flat_map f (take i rows) ++ l)) (sym (append-nil (f row)))
      ∙ ap (λ l. head ++ l) (sym (flat_map-append f (take i rows) (row ∷ [])) ∙ ap (flat_map f) (ap (λ r. take i rows ++ r ∷ []) is ∙ sym (take_more rows i row (slice_get_within rows i row here))))
