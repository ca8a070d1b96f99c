-- Instants as texts, for instance 2026-03-02T09:00:00Z: a date and a time of day, in UTC. A narrow
-- form of RFC 3339's.
use Rattle.std.specs.Prelude.{◌≡◌, ℕ, ◌+◌, ◌*◌, ◌≤◌, nat_le, Bool, ◌&&◌, ◌==◌, if◌then◌else◌, List, [], ◌∷◌, ◌++◌, length, slice_index, take, drop, Option, Some, None, pos, unsigned_abs}
use Rattle.std.specs.Str.Parse.{digits_value}
use Rattle.jiff_core.specs.Calendar.{IsDate, days_from_civil, days_in_month}
use Rattle.ht_base.specs.declared.moment.Moment.{Moment}
use Rattle.ht_base.specs.Numbers.{IsNumber, is_number}

-- the digits of each part
pub record InstantText : Type 0 where
  pub year : List ℕ
  pub month : List ℕ
  pub day : List ℕ
  pub hour : List ℕ
  pub minute : List ℕ
  pub second : List ℕ

-- ---- how it is written

-- the marks - and : and the letters T and Z
abbrev pub hyphen : ℕ
hyphen = 45

abbrev pub colon : ℕ
colon = 58

abbrev pub letter_t : ℕ
letter_t = 84

abbrev pub letter_z : ℕ
letter_z = 90

abbrev pub instant_text : InstantText → List ℕ
instant_text i =
    i.year ++ hyphen ∷ (i.month ++ hyphen ∷ (i.day ++ letter_t ∷ (i.hour ++ colon ∷ (i.minute ++ colon ∷ (i.second ++ letter_z ∷ [])))))

-- ---- which texts are instants

-- a date of the calendar, the year from 1970
pub record IsDay (year month day : List ℕ) : Type 0 where
  pub year_digits : IsNumber year
  pub month_digits : IsNumber month
  pub day_digits : IsNumber day
  pub since : 1970 ≤ digits_value 10 year
  pub date : IsDate (pos (digits_value 10 year)) (pos (digits_value 10 month)) (pos (digits_value 10 day))

-- a time from 00:00:00 to 23:59:59
pub record IsTime (hour minute second : List ℕ) : Type 0 where
  pub hour_digits : IsNumber hour
  pub minute_digits : IsNumber minute
  pub second_digits : IsNumber second
  pub hours : digits_value 10 hour ≤ 23
  pub minutes : digits_value 10 minute ≤ 59
  pub seconds : digits_value 10 second ≤ 59

-- each part has two digits, and the year four
pub record HasLengths (i : InstantText) : Type 0 where
  pub year : length i.year ≡ 4
  pub month : length i.month ≡ 2
  pub day : length i.day ≡ 2
  pub hour : length i.hour ≡ 2
  pub minute : length i.minute ≡ 2
  pub second : length i.second ≡ 2

pub record IsInstant (text : List ℕ) (i : InstantText) : Type 0 where
  pub written : text ≡ instant_text i
  pub lengths : HasLengths i
  pub date : IsDay i.year i.month i.day
  pub time : IsTime i.hour i.minute i.second

-- ---- its moment

-- the days from 1970-01-01 to the date, which is not before it
abbrev pub day_number : List ℕ → List ℕ → List ℕ → ℕ
day_number year month day = unsigned_abs (days_from_civil (pos (digits_value 10 year)) (digits_value 10 month) (digits_value 10 day))

-- the milliseconds of the day until then
abbrev pub time_of_day : List ℕ → List ℕ → List ℕ → ℕ
time_of_day hour minute second = digits_value 10 hour * 3600000 + digits_value 10 minute * 60000 + digits_value 10 second * 1000

abbrev pub moment_of : InstantText → ℕ
moment_of i = day_number i.year i.month i.day * 86400000 + time_of_day i.hour i.minute i.second

-- ---- how it is read

-- how long an instant's text is, and where its marks stand
abbrev pub is_marked : List ℕ → Bool
is_marked text =
    (length text == 20)
    && (slice_index text 4 == hyphen) && (slice_index text 7 == hyphen) && (slice_index text 10 == letter_t)
    && (slice_index text 13 == colon) && (slice_index text 16 == colon) && (slice_index text 19 == letter_z)

-- ---- the same as a function of the text

-- a text's parts, by their places
abbrev pub parts_of : List ℕ → InstantText
parts_of text = record {
  year = take 4 text;
  month = take 2 (drop 5 text);
  day = take 2 (drop 8 text);
  hour = take 2 (drop 11 text);
  minute = take 2 (drop 14 text);
  second = take 2 (drop 17 text);
}

abbrev pub is_date : ℕ → ℕ → ℕ → Bool
is_date year month day =
    nat_le 1970 year && nat_le year 9999 && nat_le 1 month && nat_le month 12
    && nat_le 1 day && nat_le day (days_in_month (pos year) month)

abbrev pub is_day : List ℕ → List ℕ → List ℕ → Bool
is_day year month day =
    is_number year && is_number month && is_number day
    && is_date (digits_value 10 year) (digits_value 10 month) (digits_value 10 day)

abbrev pub is_time : List ℕ → List ℕ → List ℕ → Bool
is_time hour minute second =
    is_number hour && is_number minute && is_number second
    && nat_le (digits_value 10 hour) 23 && nat_le (digits_value 10 minute) 59 && nat_le (digits_value 10 second) 59

abbrev pub are_parts : InstantText → Bool
are_parts i = is_day i.year i.month i.day && is_time i.hour i.minute i.second

-- the moment of an instant's text
abbrev pub moment : ℕ → Moment
moment at = record { 0 = at }

abbrev pub instant_of : List ℕ → Option Moment
instant_of text = if is_marked text && are_parts (parts_of text) then Some (moment (moment_of (parts_of text))) else None
