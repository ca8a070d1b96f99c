-- Worked examples of the definitions. A wrong reading of one fails the check.
use Rattle.std.specs.Prelude.{◌≡◌, ℕ, ◌-◌, ◌^◌, [], ◌∷◌, refl}
use Rattle.ht_base.specs.History.{Entry}
use Rattle.ht_shared.specs.declared.view.View.{View}
use Rattle.ht_shared.specs.Rule.{total, held, numbers, left_by_join, beginner}
use Rattle.ht_shared.specs.Plays.{looked, holder, made, longer, giver, sibling, numbering, joined}

-- a machine whose states, events and replies are numbers: 5 is added to 2, then 4 is
abbrev first_call : Entry ℕ ℕ ℕ
first_call = made 0 5 7 7

abbrev second_call : Entry ℕ ℕ ℕ
second_call = made 1 4 11 11

-- the first pass has made its call, and gives the second pass, which makes the other
abbrev first : View ℕ ℕ ℕ
first = record (beginner 2) { seen = first_call ∷ [] }

abbrev second : View ℕ ℕ ℕ
second = record (sibling (numbering first)) { seen = first_call ∷ second_call ∷ []; drawn = 9 }

the_next_number_is_how_many_were_given : second.number ≡ 1
the_next_number_is_how_many_were_given = refl

one_more_was_given : (giver (numbering first)).given ≡ 2
one_more_was_given = refl

a_pass_that_is_given_has_none_to_give : second.given ≡ 0
a_pass_that_is_given_has_none_to_give = refl

the_longer_is_seen : longer first.seen second.seen ≡ second.seen
the_longer_is_seen = refl

from_either_side : longer second.seen first.seen ≡ second.seen
from_either_side = refl

a_joined_pass_answers_for_both : numbers (joined first second) ≡ 0 ∷ 1 ∷ []
a_joined_pass_answers_for_both = refl

the_greater_is_kept : (joined first second).drawn ≡ 9
the_greater_is_kept = refl

-- a third pass comes in by way of the second
third_by_way_of_the_second : (joined first (joined second (record second { number = 2 }))).ended ≡ 1 ∷ 2 ∷ []
third_by_way_of_the_second = refl

who_was_joined_answers_for_none : numbers (left_by_join {T = ℕ} {E = ℕ} {R = ℕ}) ≡ []
who_was_joined_answers_for_none = refl

two_of_three_have_a_ticket : total (λ (v : View ℕ ℕ ℕ). held v.ticket) (holder first 4 ∷ second ∷ holder second 5 ∷ []) ≡ 2
two_of_three_have_a_ticket = refl

-- the last ticket is left, and what was found before stays
the_last_ticket_is_left : (looked second (2 ^ 63 - 1)).drawn ≡ 9
the_last_ticket_is_left = refl

no_ticket_is_left : (looked second (2 ^ 63)).drawn ≡ 2 ^ 63
no_ticket_is_left = refl
