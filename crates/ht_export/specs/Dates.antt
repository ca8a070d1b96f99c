-- The dates of days (the proleptic Gregorian calendar of ISO 8601).
use Rattle.std.specs.Prelude.{ℕ, zero, suc, ◌+◌, ◌-◌, ◌/◌, nat_lt, pos, unsigned_abs, if◌then◌else◌}
use Rattle.jiff_core.specs.Calendar.{days_in_month, days_in_year}
use Rattle.jiff_core.specs.declared.civil.date.Date.{Date}

pub record DateOf : Type 0 where
  pub year : ℕ
  pub month : ℕ
  pub day : ℕ

-- months pass while a whole one is over, of at most so many
abbrev pub month_from : ℕ → ℕ → ℕ → ℕ → DateOf
month_from zero year month left = record { year = year; month = month; day = left + 1 }
month_from (suc n) year month left =
    if nat_lt left (days_in_month (pos year) month) then record { year = year; month = month; day = left + 1 }
    else month_from n year (month + 1) (left - days_in_month (pos year) month)

-- years pass while a whole one is over, of at most so many
abbrev pub year_from : ℕ → ℕ → ℕ → DateOf
year_from zero year left = month_from 11 year 1 left
year_from (suc n) year left =
    if nat_lt left (days_in_year (pos year)) then month_from 11 year 1 left
    else year_from n (year + 1) (left - days_in_year (pos year))

-- the date of the day of this number, which is 0 for 1970-01-01; a year has at least 365 days
unfoldable pub date_of : ℕ → DateOf
date_of day = year_from (day / 365) 1970 day

-- a date of the calendar, by its numbers
abbrev pub plain_date : Date → DateOf
plain_date d = record { year = unsigned_abs d.year; month = d.month; day = d.day }
