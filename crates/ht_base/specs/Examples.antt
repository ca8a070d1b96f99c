-- Worked examples of the definitions. A wrong reading of one fails the check.
use Rattle.std.specs.Prelude.{◌≡◌, ℕ, ◌+◌, ◌*◌, refl, List, [], Some, None, codes, true, false, ◌∷◌}
use Rattle.std.specs.Str.Parse.{digits_value}
use Rattle.ht_base.specs.History.{Entry, IsLegal, end_of, own}
use Rattle.ht_base.specs.Name.{is_name, name_of}
use Rattle.ht_base.specs.Numbers.{is_number}
use Rattle.ht_base.specs.declared.limits.TheConstants.{LONGEST_PERIOD}
use Rattle.ht_base.specs.Periods.{PeriodText, IsPeriod, millis, period_of}
use Rattle.ht_base.specs.Persons.{has}
use Rattle.ht_base.specs.Places.{place_in}
use Rattle.ht_base.specs.Values.{is_before, put, updated, value_of}

a_letter : is_name (codes "a") ≡ true
a_letter = refl

each_mark : is_name (codes "A_z.9-") ≡ true
each_mark = refl

thirty_two_bytes : is_name (codes "abcdefghijklmnopqrstuvwxyz012345") ≡ true
thirty_two_bytes = refl

thirty_three_bytes : is_name (codes "abcdefghijklmnopqrstuvwxyz0123456") ≡ false
thirty_three_bytes = refl

no_bytes : name_of [] ≡ None
no_bytes = refl

a_blank : name_of (codes "a b") ≡ None
a_blank = refl

a_name : name_of (codes "p0") ≡ Some (codes "p0")
a_name = refl

a_person_of_three : has 5 (2 ∷ 5 ∷ 9 ∷ []) ≡ true
a_person_of_three = refl

a_person_beside_three : has 4 (2 ∷ 5 ∷ 9 ∷ []) ≡ false
a_person_beside_three = refl

-- the first place counts
a_place : place_in (codes "anna") (codes "ben" ∷ codes "anna" ∷ codes "anna" ∷ []) ≡ Some 1
a_place = refl

no_place : place_in (codes "ann") (codes "ben" ∷ codes "anna" ∷ []) ≡ None
no_place = refl

-- shorter names stand before those that go on with them
before_the_longer : is_before (codes "p1") (codes "p10") ≡ true
before_the_longer = refl

not_before_itself : is_before (codes "p1") (codes "p1") ≡ false
not_before_itself = refl

-- ---- values

abbrev two_values : List (List ℕ × ℕ)
two_values = (codes "b", 1) ∷ (codes "d", 2) ∷ []

a_value_between : put (codes "c") 5 two_values ≡ (codes "b", 1) ∷ (codes "c", 5) ∷ (codes "d", 2) ∷ []
a_value_between = refl

a_value_behind : put (codes "e") 5 two_values ≡ (codes "b", 1) ∷ (codes "d", 2) ∷ (codes "e", 5) ∷ []
a_value_behind = refl

-- it replaces the one of its name
a_value_again : put (codes "b") 5 two_values ≡ (codes "b", 5) ∷ (codes "d", 2) ∷ []
a_value_again = refl

-- what isn't given stays
one_of_two : updated two_values ((codes "a", 7) ∷ (codes "d", 8) ∷ []) ≡ (codes "a", 7) ∷ (codes "b", 1) ∷ (codes "d", 8) ∷ []
one_of_two = refl

the_value_of_a_name : value_of (codes "d") two_values ≡ Some 2
the_value_of_a_name = refl

no_value_of_a_name : value_of (codes "c") two_values ≡ None
no_value_of_a_name = refl

-- ---- numbers

leading_zeros : is_number (codes "007") ≡ true
leading_zeros = refl

they_count_nothing : digits_value 10 (codes "007") ≡ 7
they_count_nothing = refl

six_digits : is_number (codes "999999") ≡ true
six_digits = refl

seven_digits : is_number (codes "1000000") ≡ false
seven_digits = refl

no_digits : is_number (codes "") ≡ false
no_digits = refl

a_sign : is_number (codes "+1") ≡ false
a_sign = refl

-- ---- periods

abbrev days_alone : PeriodText
days_alone = record { days = Some (codes "01"); time = None }

a_day : IsPeriod (codes "P01D") days_alone
a_day = record { written = refl; days = refl; time = tt; given = refl }

a_day_has_24_hours : millis days_alone ≡ 24 * 60 * 60 * 1000
a_day_has_24_hours = refl

abbrev an_hour : PeriodText
an_hour = record { days = None; time = Some (record { hours = Some (codes "1"); minutes = None; seconds = None }) }

of_an_hour : IsPeriod (codes "PT1H") an_hour
of_an_hour = record { written = refl; days = tt; time = record { hours = refl; minutes = tt; seconds = tt; given = refl }; given = refl }

an_hour_has_60_minutes : millis an_hour ≡ 60 * 60 * 1000
an_hour_has_60_minutes = refl

abbrev each : List ℕ → PeriodText
each digits = record { days = Some digits; time = Some (record { hours = Some digits; minutes = Some digits; seconds = Some digits }) }

one_of_each : IsPeriod (codes "P1DT1H1M1S") (each (codes "1"))
one_of_each = record { written = refl; days = refl; time = record { hours = refl; minutes = refl; seconds = refl; given = refl }; given = refl }

one_of_each_is_long : millis (each (codes "1")) ≡ 90061000
one_of_each_is_long = refl

most_of_each : IsPeriod (codes "P999999DT999999H999999M999999S") (each (codes "999999"))
most_of_each = record { written = refl; days = refl; time = record { hours = refl; minutes = refl; seconds = refl; given = refl }; given = refl }

most_of_each_is_longest : millis (each (codes "999999")) ≡ LONGEST_PERIOD
most_of_each_is_longest = refl

-- ---- histories, of a machine that adds and answers the sum

abbrev adds : ℕ → ℕ → ℕ → ℕ → Type 0
adds old event reply new = (reply ≡ old + event) × (new ≡ reply)

abbrev entry : ℕ → ℕ → ℕ → Entry ℕ ℕ ℕ
entry pass event sum = record { pass = pass; event = event; reply = sum; after = sum }

-- two passes by turns
abbrev by_turns : List (Entry ℕ ℕ ℕ)
by_turns = entry 1 5 15 ∷ entry 2 1 16 ∷ entry 1 4 20 ∷ []

legal : IsLegal adds 10 by_turns
legal = ((refl, refl), ((refl, refl), ((refl, refl), tt)))

ends_at_the_last : end_of 10 by_turns ≡ 20
ends_at_the_last = refl

of_one_pass : own 1 by_turns ≡ entry 1 5 15 ∷ entry 1 4 20 ∷ []
of_one_pass = refl

period_of_each : period_of (codes "P1DT2H3M4S") ≡ Some 93784000
period_of_each = refl

period_of_seconds : period_of (codes "PT10S") ≡ Some 10000
period_of_seconds = refl

period_of_a_day : period_of (codes "P01D") ≡ Some 86400000
period_of_a_day = refl

period_of_nothing : period_of (codes "P") ≡ None
period_of_nothing = refl

period_of_no_time : period_of (codes "P1DT") ≡ None
period_of_no_time = refl

period_without_mark : period_of (codes "P1H") ≡ None
period_without_mark = refl

period_in_another_order : period_of (codes "PT1S1M") ≡ None
period_in_another_order = refl

period_of_seven_digits : period_of (codes "PT1000000S") ≡ None
period_of_seven_digits = refl
