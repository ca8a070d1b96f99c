-- Days of the calendar from 1970 on.
use Rattle.std.proofs.Common.{◌≡◌, ℕ, ◌<◌, ◌≤◌, ◌⊎◌, pos, ◌≤ℤ◌, unsigned_abs, refl, inl, inr, arith}
use Rattle.std.proofs.lemmas.Bool.{cases_lt}
use Rattle.std.proofs.lemmas.Int.{ints}
use Rattle.jiff_core.specs.Calendar.{IsDate, IsEpochDay, days_from_civil, day_count}
use Rattle.jiff_core.specs.Date.{IsYmd, epoch_day}
use Rattle.jiff_core.specs.declared.civil.date.Date.{Date}
use Rattle.jiff_core.proofs.CalendarLemmas.{day_count-epoch, days_from_civil-day_count, day_count-later_year, day_count-day_of_year}

pub same_day : (y m d : ℕ) (date : Date) → IsYmd (pos y) (pos m) (pos d) date → epoch_day date ≡ days_from_civil (pos y) m d
same_day y m d date is =
    let month : date.month ≡ m = cc in
    let day : date.day ≡ d = cc in
    rw (is.0, month, day) refl

first_of_year : (y : ℕ) → 1970 ≤ y → 4371953 ≤ day_count (pos y) 1 1
first_of_year y since = by (cases_lt 1970 y)
  where
    by : (1970 < y) ⊎ (y ≤ 1970) → 4371953 ≤ day_count (pos y) 1 1
    by (inl later) = let more = day_count-later_year (pos 1970) (pos y) (omega (arith, ints)) (omega (arith, ints)) in omega (arith, day_count-epoch, more)
    by (inr not_later) = let e : y ≡ 1970 = omega arith in rw e (omega (arith, day_count-epoch))

-- no day of a year from 1970 on has a number below 0
since_1970 : (y m d : ℕ) → 1970 ≤ y → 1 ≤ d → days_from_civil (pos y) m d ≡ pos (unsigned_abs (days_from_civil (pos y) m d))
since_1970 y m d since some =
    let first = first_of_year y since in
    let count = day_count-day_of_year (pos y) m d some in
    let number = days_from_civil-day_count (pos y) m d in
    omega (arith, ints, first, count, number)

some_day : (y m d : ℕ) → IsDate (pos y) (pos m) (pos d) → 1 ≤ d
some_day y m d is = let low = is.2.0 in omega (arith, ints, low)

-- and the last of the calendar has the greatest
pub few_days : (y m d : ℕ) (date : Date) → 1970 ≤ y → IsDate (pos y) (pos m) (pos d) → IsYmd (pos y) (pos m) (pos d) date → IsEpochDay (epoch_day date)
    → unsigned_abs (epoch_day date) ≤ 2932896
few_days y m d date since is same within =
    let number : epoch_day date ≡ pos (unsigned_abs (epoch_day date)) = rw (same_day y m d date same) (since_1970 y m d since (some_day y m d is)) in
    let high : pos (unsigned_abs (epoch_day date)) ≤ℤ pos 2932896 = rw (← number) within.1 in
    omega (arith, ints, high)

pub counts : (y m d : ℕ) → 1970 ≤ y → IsDate (pos y) (pos m) (pos d) → days_from_civil (pos y) m d ≡ pos (unsigned_abs (days_from_civil (pos y) m d))
counts y m d since is = since_1970 y m d since (some_day y m d is)
