-- What is due behind the last that was passed.
use Rattle.std.specs.Prelude.{◌≡◌, ◌≢◌, Bool, true, ◌||◌, List, Option, None, Some}
use Rattle.std.specs.declared.cmp.Ordering.TheVariants.{Less}
use Rattle.ht_due.specs.declared.due.Due.{Due}
use Rattle.ht_due.specs.Dues.{compare_dues, has}

abbrev pub IsAhead : Option Due → Due → Type 0
IsAhead None due = Unit {0}
IsAhead (Some last) due = compare_dues last due ≡ Less

-- the first of those that are ahead, if there is one
abbrev pub IsFirstAhead : (Due → Bool) → Option Due → Option Due → Type 0
IsFirstAhead is_in passed None = (due : Due) → is_in due ≡ true → IsAhead passed due → ⊥
IsFirstAhead is_in passed (Some first) = (is_in first ≡ true) × IsAhead passed first × ((due : Due) → is_in due ≡ true → IsAhead passed due → compare_dues due first ≢ Less)

-- in a list, and in one of two
abbrev pub in_list : List Due → Due → Bool
in_list xs due = has due xs

abbrev pub in_either : List Due → List Due → Due → Bool
in_either xs ys due = has due xs || has due ys
