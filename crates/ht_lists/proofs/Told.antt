-- Notifications that are taken one by one.
use Rattle.std.proofs.Common.{◌≡◌, ℕ, ◌+◌, ◌-◌, ◌<◌, ◌≤◌, zero, suc, Bool, true, false, cond, List, [], ◌∷◌, ◌++◌, drop, take, Some, slice_get, refl, ap, sym, subst, ◌∙◌, arith, append_assoc}
use native.Mathlib.Numerals.{unary_clauses}
use Rattle.ht_base.specs.Persons.{has}
use Rattle.ht_base.specs.declared.notice_page.NoticeRow.{NoticeRow}
use Rattle.ht_lists.specs.Lists.{notice_row, part_of, told_from}
use Rattle.ht_tree.specs.declared.notice.Notice.{Notice}
use Rattle.ht_tree.specs.Tables.{notice_at}

-- the next is taken
pub takes : (rows new : List NoticeRow) (passed left fewer : ℕ) (row : NoticeRow) (later : List NoticeRow) → passed ≤ 0 → 0 < left → fewer ≡ left - 1 → new ≡ rows ++ row ∷ []
    → new ++ part_of passed fewer later ≡ rows ++ part_of passed left (row ∷ later)
takes rows new (suc p) left fewer row later none some is pushed = absurd (omega arith)
takes rows new zero zero fewer row later none some is pushed = absurd (omega arith)
takes rows new zero (suc n) fewer row later none some is pushed =
    let same : fewer ≡ n = omega arith in
    ap (λ l. l ++ take fewer later) pushed ∙ append_assoc rows (row ∷ []) (take fewer later) ∙ ap (λ k. rows ++ (row ∷ take k later)) same

drop_here : (xs : List Notice) (i : ℕ) (x : Notice) → slice_get xs i ≡ Some x → drop i xs ≡ x ∷ drop (i + 1) xs
drop_here [] i x at = cc
drop_here (y ∷ xs) zero x at = let same : y ≡ x = cc in ap (λ (z : Notice). z ∷ xs) same
drop_here (y ∷ xs) (suc i) x at =
    let rest = simp unary_clauses at (drop_here xs i x at) in
    simp unary_clauses rest

-- the next notification, and those behind it
pub next_told : (xs : List Notice) (i person : ℕ) (x : Notice) → Some x ≡ notice_at (i + 1) xs
    → told_from (i + 1) person (drop i xs) ≡ told_from (i + 1) person (x ∷ []) ++ told_from (i + 1 + 1) person (drop (i + 1) xs)
next_told xs i person x at =
    let more : i + 1 ≡ suc i = omega arith in
    let here : slice_get xs i ≡ Some x = subst (λ n. notice_at n xs ≡ Some x) more (sym at) in
    let later = told_from (i + 1 + 1) person (drop (i + 1) xs) in
    ap (told_from (i + 1) person) (drop_here xs i x here) ∙ either (has person x.recipients) (notice_row (i + 1) x) later
  where
    either : (b : Bool) (row : NoticeRow) (later : List NoticeRow) → cond b (row ∷ later) later ≡ cond b (row ∷ []) [] ++ later
    either true row later = refl
    either false row later = refl
