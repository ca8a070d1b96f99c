-- What is due, in order: by moment, then task, kind and place.
use Rattle.std.specs.Prelude.{◌≡◌, fold, Bool, true, false, List, [], ◌∷◌, Option, Some, None, slice_get}
use Rattle.std.specs.List.{list_any}
use Rattle.std.specs.Ordering.{is_eq, match_ordering, nat_cmp, ordering_then}
use Rattle.std.specs.declared.cmp.Ordering.{Ordering}
use Rattle.ht_base.specs.Ordered.{AscendBy}
use Rattle.ht_due.specs.declared.due.Due.{Due}

abbrev pub compare_dues : Due → Due → Ordering
compare_dues a b =
    ordering_then (nat_cmp a.at.0 b.at.0)
    (ordering_then (nat_cmp a.task.0 b.task.0)
    (ordering_then (nat_cmp a.kind b.kind) (nat_cmp a.place b.place)))

-- each comes before those behind it, so none stands twice
abbrev pub Ascends : List Due → Type 0
Ascends dues = AscendBy compare_dues dues

abbrev pub has : Due → List Due → Bool
has due dues = list_any (λ other. is_eq (compare_dues due other)) dues

-- Of lists that ascend.

-- these, with this one in its place
abbrev pub put_due : List Due → Due → List Due
put_due [] due = due ∷ []
put_due (first ∷ dues) due = match_ordering (compare_dues due first) (due ∷ first ∷ dues) (first ∷ dues) (first ∷ put_due dues due)

-- these, but for this one
abbrev pub without : List Due → Due → List Due
without [] due = []
without (first ∷ dues) due = match_ordering (compare_dues due first) (first ∷ dues) dues (first ∷ without dues due)

-- the first of these that comes after this one, and so the least
abbrev pub next_after : Due → List Due → Option Due
next_after due [] = None
next_after due (first ∷ dues) = match_ordering (compare_dues due first) (Some first) (next_after due dues) (next_after due dues)

-- each of those that are gone is taken out, and then each of the new ones put in its place
abbrev pub merged : List Due → List Due → List Due → List Due
merged dues gone news = fold put_due (fold without dues gone) news

-- none of these is there
abbrev pub AreAbsent : List Due → List Due → Type 0
AreAbsent news dues = (due : Due) → has due news ≡ true → has due dues ≡ false

-- each of the new ones is gone from these, or wasn't there
abbrev pub AreNew : List Due → List Due → List Due → Type 0
AreNew news gone dues = (due : Due) → has due news ≡ true → has due gone ≡ false → has due dues ≡ false

-- ---- any dues

-- these in ascending order, none twice
abbrev pub in_order : List Due → List Due
in_order dues = fold put_due [] dues

-- the least of these, if there are any
abbrev pub least_of : List Due → Option Due
least_of dues = slice_get (in_order dues) 0

-- the lesser of two, where both are there
abbrev pub lesser : Option Due → Option Due → Option Due
lesser None b = b
lesser (Some a) None = Some a
lesser (Some a) (Some b) = match_ordering (compare_dues a b) (Some a) (Some a) (Some b)
