-- Worked examples of instants, and of texts that are none.
use Rattle.std.proofs.Common.{◌≡◌, ◌-◌, ◌*◌, codes, refl, arith}
use Rattle.std.proofs.lemmas.Int.{ints}
use Rattle.jiff_core.specs.Calendar.{days_from_civil, day_count, days_of_years, days_of_months}
use Rattle.ht_entries.specs.Instants.{InstantText, IsInstant, IsDay, IsTime, moment_of, day_number, time_of_day}
use Rattle.ht_entries.proofs.InstantTexts.{unmarked}

-- ---- an instant, and its moment

abbrev morning : InstantText
morning = record { year = codes "2026"; month = codes "03"; day = codes "02"; hour = codes "09"; minute = codes "00"; second = codes "00" }

a_day : IsDay (codes "2026") (codes "03") (codes "02")
a_day = record { year_digits = refl; month_digits = refl; day_digits = refl; since = omega arith; date = ((omega (arith, ints), omega (arith, ints)), (omega (arith, ints), omega (arith, ints)), (omega (arith, ints), omega (arith, ints))) }

a_time : IsTime (codes "09") (codes "00") (codes "00")
a_time = record { hour_digits = refl; minute_digits = refl; second_digits = refl; hours = omega arith; minutes = omega arith; seconds = omega arith }

a_morning : IsInstant (codes "2026-03-02T09:00:00Z") morning
a_morning = record { written = refl; lengths = record { year = refl; month = refl; day = refl; hour = refl; minute = refl; second = refl }; date = a_day; time = a_time }

its_moment : moment_of morning ≡ 1772442000000
unfolding days_from_civil day_count days_of_years days_of_months
its_moment = refl

-- ---- days and times

first_day : day_number (codes "1970") (codes "01") (codes "01") ≡ 0
unfolding days_from_civil day_count days_of_years days_of_months
first_day = refl

last_day : day_number (codes "9999") (codes "12") (codes "31") ≡ 2932896
unfolding days_from_civil day_count days_of_years days_of_months
last_day = refl

last_second : time_of_day (codes "23") (codes "59") (codes "59") ≡ 24 * 60 * 60 * 1000 - 1000
last_second = refl

leap_day_of_2000 : IsDay (codes "2000") (codes "02") (codes "29")
leap_day_of_2000 = record { year_digits = refl; month_digits = refl; day_digits = refl; since = omega arith; date = ((omega (arith, ints), omega (arith, ints)), (omega (arith, ints), omega (arith, ints)), (omega (arith, ints), omega (arith, ints))) }

leap_day_of_2024 : IsDay (codes "2024") (codes "02") (codes "29")
leap_day_of_2024 = record { year_digits = refl; month_digits = refl; day_digits = refl; since = omega arith; date = ((omega (arith, ints), omega (arith, ints)), (omega (arith, ints), omega (arith, ints)), (omega (arith, ints), omega (arith, ints))) }

no_leap_day_of_2023 : IsDay (codes "2023") (codes "02") (codes "29") → ⊥
no_leap_day_of_2023 is = let high = is.date.2.1 in omega (arith, ints, high)

no_leap_day_of_2100 : IsDay (codes "2100") (codes "02") (codes "29") → ⊥
no_leap_day_of_2100 is = let high = is.date.2.1 in omega (arith, ints, high)

no_year_before_1970 : IsDay (codes "1969") (codes "12") (codes "31") → ⊥
no_year_before_1970 is = let low = is.since in omega arith

no_hour_24 : IsTime (codes "24") (codes "00") (codes "00") → ⊥
no_hour_24 is = let high = is.hours in omega arith

no_minute_60 : IsTime (codes "09") (codes "60") (codes "00") → ⊥
no_minute_60 is = let high = is.minutes in omega arith

no_second_60 : IsTime (codes "09") (codes "00") (codes "60") → ⊥
no_second_60 is = let high = is.seconds in omega arith

-- ---- other texts

a_small_t : (i : InstantText) → IsInstant (codes "2026-03-02t09:00:00Z") i → ⊥
a_small_t i = unmarked (codes "2026-03-02t09:00:00Z") i refl

a_small_z : (i : InstantText) → IsInstant (codes "2026-03-02T09:00:00z") i → ⊥
a_small_z i = unmarked (codes "2026-03-02T09:00:00z") i refl

nineteen_bytes : (i : InstantText) → IsInstant (codes "2026-03-02T09:00:0Z") i → ⊥
nineteen_bytes i = unmarked (codes "2026-03-02T09:00:0Z") i refl

twenty_one_bytes : (i : InstantText) → IsInstant (codes "2026-03-02T09:00:00ZZ") i → ⊥
twenty_one_bytes i = unmarked (codes "2026-03-02T09:00:00ZZ") i refl
