-- Worked examples of the definitions. A wrong reading of one fails the check.
use Rattle.std.specs.Prelude.{◌≡◌, ℕ, refl, true, false, List, [], ◌∷◌, Some, None}
use Rattle.std.specs.declared.cmp.Ordering.TheVariants.{Less, Equal}
use Rattle.ht_due.specs.declared.due.Due.{Due}
use Rattle.ht_due.specs.Dues.{compare_dues, has, merged, next_after, put_due, without}

abbrev pub due_at : ℕ → ℕ → ℕ → ℕ → Due
due_at moment task kind place = record { at = record { 0 = moment }; task = record { 0 = task }; kind = kind; place = place }

-- one due each, at the moments 10, 20 and 30, of the tasks 3, 2 and 1
abbrev pub early : Due
early = due_at 10 3 2 0

abbrev pub middle : Due
middle = due_at 20 2 0 0

abbrev pub late : Due
late = due_at 30 1 3 1

abbrev pub sample : List Due
sample = early ∷ middle ∷ late ∷ []

-- ---- the order

the_moment_decides : compare_dues (due_at 1 9 3 9) (due_at 2 1 0 0) ≡ Less
the_moment_decides = refl

then_the_task : compare_dues (due_at 5 1 3 9) (due_at 5 2 0 0) ≡ Less
then_the_task = refl

then_the_kind : compare_dues (due_at 5 1 2 9) (due_at 5 1 3 0) ≡ Less
then_the_kind = refl

then_the_place : compare_dues (due_at 5 1 2 0) (due_at 5 1 2 1) ≡ Less
then_the_place = refl

all_four_are_the_same : compare_dues late late ≡ Equal
all_four_are_the_same = refl

-- ---- one comes or goes

one_at_another_place_is_not_there : has (due_at 10 3 2 1) sample ≡ false
one_at_another_place_is_not_there = refl

the_last_is_there : has late sample ≡ true
the_last_is_there = refl

put_in_between : put_due sample (due_at 20 1 3 0) ≡ early ∷ due_at 20 1 3 0 ∷ middle ∷ late ∷ []
put_in_between = refl

put_behind_all : put_due (early ∷ middle ∷ []) late ≡ sample
put_behind_all = refl

-- one that is there doesn't stand twice
put_again : put_due sample middle ≡ sample
put_again = refl

one_goes : without sample middle ≡ early ∷ late ∷ []
one_goes = refl

none_goes_in_the_place_of_another : without sample (due_at 20 2 0 1) ≡ sample
none_goes_in_the_place_of_another = refl

-- ---- the next

the_next_is_not_the_same : next_after middle sample ≡ Some late
the_next_is_not_the_same = refl

next_after_one_that_is_not_there : next_after (due_at 10 4 0 0) sample ≡ Some middle
next_after_one_that_is_not_there = refl

nothing_after_the_last : next_after late sample ≡ None
nothing_after_the_last = refl

-- ---- many at once

some_go_and_others_come : merged sample (early ∷ late ∷ []) (due_at 15 1 1 0 ∷ due_at 40 1 1 0 ∷ []) ≡ due_at 15 1 1 0 ∷ middle ∷ due_at 40 1 1 0 ∷ []
some_go_and_others_come = refl

one_in_both_lists_stays : merged sample (early ∷ middle ∷ []) (middle ∷ []) ≡ middle ∷ late ∷ []
one_in_both_lists_stays = refl

one_gone_need_not_be_there : merged sample (due_at 10 3 2 1 ∷ []) [] ≡ sample
one_gone_need_not_be_there = refl
