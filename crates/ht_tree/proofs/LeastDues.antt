-- The least of dues, found one after another.
use Rattle.std.proofs.Common.{◌≡◌, ◌+◌, ◌<◌, ℕ, suc, List, ◌∷◌, drop, get_or, length, map, Option, arith, sym, ap, ◌∙◌}
use Rattle.std.proofs.Math.Seq.{drop-cons}
use Rattle.std.specs.List.{flat_map}
use Rattle.ht_due.specs.declared.due.Due.{Due}
use Rattle.ht_due.specs.Dues.{lesser, least_of}
use Rattle.ht_due.proofs.PublicLaws.{lesser_then}
use Rattle.ht_models.specs.declared.model.Deadline.{Deadline}
use Rattle.ht_models.specs.Shown.{deadline_of}
use Rattle.ht_tree.specs.declared.row.Row.{Row}
use Rattle.ht_tree.specs.RowDues.{deadline_due, deadline_dues}

drop_next : {A : Type 0} (xs : List A) (i : ℕ) (x : A) → i < length xs → x ≡ get_or xs i x → drop i xs ≡ x ∷ drop (i + 1) xs
drop_next xs i x within is =
    let e : suc i ≡ i + 1 = omega arith in
    drop-cons xs i x within ∙ ap (λ y. y ∷ drop (suc i) xs) (sym is) ∙ ap (λ n. x ∷ drop n xs) e

-- of the deadlines of a row
pub next_deadline : (row : Row) (ds : List Deadline) (i : ℕ) (d : Deadline) (least next new : Option Due) → i < length ds → d ≡ get_or ds i d → next ≡ least_of (deadline_due row i (deadline_of d)) → new ≡ lesser least next → lesser new (least_of (deadline_dues row (i + 1) (map deadline_of (drop (i + 1) ds)))) ≡ lesser least (least_of (deadline_dues row i (map deadline_of (drop i ds))))
next_deadline row ds i d least next new within is of_next of_new =
    let rest : List Due = deadline_dues row (i + 1) (map deadline_of (drop (i + 1) ds)) in
    ap (λ o. lesser o (least_of rest)) of_new
    ∙ ap (λ o. lesser (lesser least o) (least_of rest)) of_next
    ∙ lesser_then least (deadline_due row i (deadline_of d)) rest
    ∙ ap (λ (l : List Deadline). lesser least (least_of (deadline_dues row i (map deadline_of l)))) (sym (drop_next ds i d within is))

-- of rows, by what is due of each
pub next_row : (dues : Row → List Due) (rows : List Row) (i : ℕ) (row : Row) (least next new : Option Due) → i < length rows → row ≡ get_or rows i row → next ≡ least_of (dues row) → new ≡ lesser least next → lesser new (least_of (flat_map dues (drop (i + 1) rows))) ≡ lesser least (least_of (flat_map dues (drop i rows)))
next_row dues rows i row least next new within is of_next of_new =
    ap (λ o. lesser o (least_of (flat_map dues (drop (i + 1) rows)))) of_new
    ∙ ap (λ o. lesser (lesser least o) (least_of (flat_map dues (drop (i + 1) rows)))) of_next
    ∙ lesser_then least (dues row) (flat_map dues (drop (i + 1) rows))
    ∙ ap (λ (l : List Row). lesser least (least_of (flat_map dues l))) (sym (drop_next rows i row within is))
