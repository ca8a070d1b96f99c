-- How many tasks haven't ended, where rows are changed or put behind.
use Rattle.std.proofs.Common.{◌≡◌, ℕ, ◌+◌, ◌≤◌, zero, suc, Bool, true, false, if◌then◌else◌, List, [], ◌∷◌, ◌++◌, map, Some, refl, ap, ◌∙◌, arith}
use Rattle.std.specs.Prelude.{slice_get, slice_set}
use Rattle.ht_compose.specs.Work.{going_on}
use Rattle.ht_tree.specs.declared.row.Row.{Row}
use Rattle.ht_base.specs.State.{is_final}

abbrev one : Row → ℕ
one row = if is_final row.state then 0 else 1

counts : (row : Row) → is_final row.state ≡ false → one row ≡ 1
counts row h = ap (λ (b : Bool). if b then 0 else 1) h

counts_no_more : (row : Row) → is_final row.state ≡ true → one row ≡ 0
counts_no_more row h = ap (λ (b : Bool). if b then 0 else 1) h

at_most_one : (row : Row) → one row ≤ 1
at_most_one row = cases (is_final row.state)
  where
    cases : (b : Bool) → (if b then 0 else 1) ≤ 1
    cases true = omega arith
    cases false = omega arith

pub going_on_set : (rows : List Row) (i : ℕ) (old row : Row) → slice_get rows i ≡ Some old → is_final old.state ≡ false → going_on (slice_set rows i row) ≤ going_on rows
going_on_set [] i old row at live = absurd cc
going_on_set (x ∷ rows) zero old row at live =
    let same : x ≡ old = cc in
    let a : one x ≡ 1 = ap one same ∙ counts old live in
    let b = at_most_one row in
    omega (arith, a, b)
going_on_set (x ∷ rows) (suc i) old row at live = let h = going_on_set rows i old row at live in omega (arith, h)

pub going_on_push : (rows : List Row) (row : Row) → going_on (rows ++ row ∷ []) ≤ going_on rows + 1
going_on_push [] row = let a = at_most_one row in omega (arith, a)
going_on_push (x ∷ rows) row = let h = going_on_push rows row in omega (arith, h)

module _ (f : Row → Row) (ends : (row : Row) → is_final row.state ≡ true → is_final (f row).state ≡ true) where
  no_more : (row : Row) → one (f row) ≤ one row
  no_more row = cases (is_final row.state) refl
    where
      cases : (b : Bool) → is_final row.state ≡ b → one (f row) ≤ one row
      cases true is = let a = counts_no_more (f row) (ends row is) in omega (arith, a)
      cases false is = let a = counts row is in let b = at_most_one (f row) in omega (arith, a, b)

  pub going_on_map : (rows : List Row) → going_on (map f rows) ≤ going_on rows
  going_on_map [] = omega arith
  going_on_map (x ∷ rows) = let a = no_more x in let h = going_on_map rows in omega (arith, a, h)

  -- one that went on has ended
  pub going_on_fewer : (rows : List Row) (i : ℕ) (row : Row) → slice_get rows i ≡ Some row → is_final row.state ≡ false → is_final (f row).state ≡ true → going_on (map f rows) + 1 ≤ going_on rows
  going_on_fewer [] i row at live ended = absurd cc
  going_on_fewer (x ∷ rows) zero row at live ended =
      let same : x ≡ row = cc in
      let a : one x ≡ 1 = ap one same ∙ counts row live in
      let b : one (f x) ≡ 0 = ap (λ (r : Row). one (f r)) same ∙ counts_no_more (f row) ended in
      let h = going_on_map rows in
      omega (arith, a, b, h)
  going_on_fewer (x ∷ rows) (suc i) row at live ended =
      let a = no_more x in
      let h = going_on_fewer rows i row at live ended in
      omega (arith, a, h)
