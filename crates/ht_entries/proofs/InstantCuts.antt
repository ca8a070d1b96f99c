-- The function that reads instants' texts reads just the instants.
use Rattle.std.proofs.Common.{◌≡◌, ℕ, ◌≤◌, Bool, true, false, ◌&&◌, List, Some, None, if◌then◌else◌, pos, refl, sym, ap, ◌∙◌, arith}
use Rattle.std.specs.Prelude.{nat_le}
use Rattle.std.specs.Str.Parse.{digits_value}
use Rattle.std.proofs.lemmas.Bool.{and_parts}
use Rattle.std.proofs.lemmas.Bool.Decides.{nat_tests}
use Rattle.std.proofs.lemmas.Int.{ints}
use Rattle.jiff_core.specs.Calendar.{IsDate, days_in_month}
use Rattle.ht_base.specs.declared.moment.Moment.{Moment}
use Rattle.ht_entries.specs.Instants.{IsDay, IsInstant, IsTime, are_parts, instant_of, is_date, is_day, is_marked, is_time, moment, moment_of, parts_of}
use Rattle.ht_entries.proofs.InstantTexts.{day_is_cut, instant_cuts, moment_is_cut, parts_are_instant, time_is_cut}

-- ---- tests of numbers

le_true : (a b : ℕ) → a ≤ b → nat_le a b ≡ true
le_true a b h = grind (arith, nat_tests)

true_le : (a b : ℕ) → nat_le a b ≡ true → a ≤ b
true_le a b h = grind (arith, nat_tests)

-- ---- dates and times

date_true : (y m d : ℕ) → 1970 ≤ y → IsDate (pos y) (pos m) (pos d) → is_date y m d ≡ true
date_true y m d since is =
    let year : y ≤ 9999 = let high = is.0.1 in omega (arith, ints, high) in
    let first : 1 ≤ m = let low = is.1.0 in omega (arith, ints, low) in
    let last : m ≤ 12 = let high = is.1.1 in omega (arith, ints, high) in
    let some : 1 ≤ d = let low = is.2.0 in omega (arith, ints, low) in
    let few : d ≤ days_in_month (pos y) m = let high = is.2.1 in omega (arith, ints, high) in
    rw (le_true 1970 y since, le_true y 9999 year, le_true 1 m first, le_true m 12 last, le_true 1 d some, le_true d (days_in_month (pos y) m) few) refl

true_date : (y m d : ℕ) → is_date y m d ≡ true → (1970 ≤ y) × IsDate (pos y) (pos m) (pos d)
true_date y m d e =
    let p6 = and_parts _ _ e in
    let p5 = and_parts _ _ p6.0 in
    let p4 = and_parts _ _ p5.0 in
    let p3 = and_parts _ _ p4.0 in
    let p2 = and_parts _ _ p3.0 in
    let since = true_le 1970 y p2.0 in
    let year = true_le y 9999 p2.1 in
    let first = true_le 1 m p3.1 in
    let last = true_le m 12 p4.1 in
    let some = true_le 1 d p5.1 in
    let few = true_le d (days_in_month (pos y) m) p6.1 in
    (since, ((omega (arith, ints), omega (arith, ints)), (omega (arith, ints), omega (arith, ints)), (omega (arith, ints), omega (arith, ints, few))))

day_true : (year month day : List ℕ) → IsDay year month day → is_day year month day ≡ true
day_true year month day is =
    rw (is.year_digits, is.month_digits, is.day_digits, date_true (digits_value 10 year) (digits_value 10 month) (digits_value 10 day) is.since is.date) refl

true_day : (year month day : List ℕ) → is_day year month day ≡ true → IsDay year month day
true_day year month day e =
    let p4 = and_parts _ _ e in
    let p3 = and_parts _ _ p4.0 in
    let p2 = and_parts _ _ p3.0 in
    let date = true_date (digits_value 10 year) (digits_value 10 month) (digits_value 10 day) p4.1 in
    record { year_digits = p2.0; month_digits = p2.1; day_digits = p3.1; since = date.0; date = date.1 }

time_true : (hour minute second : List ℕ) → IsTime hour minute second → is_time hour minute second ≡ true
time_true hour minute second is =
    rw (is.hour_digits, is.minute_digits, is.second_digits, le_true (digits_value 10 hour) 23 is.hours, le_true (digits_value 10 minute) 59 is.minutes, le_true (digits_value 10 second) 59 is.seconds) refl

true_time : (hour minute second : List ℕ) → is_time hour minute second ≡ true → IsTime hour minute second
true_time hour minute second e =
    let p6 = and_parts _ _ e in
    let p5 = and_parts _ _ p6.0 in
    let p4 = and_parts _ _ p5.0 in
    let p3 = and_parts _ _ p4.0 in
    let p2 = and_parts _ _ p3.0 in
    record {
      hour_digits = p2.0;
      minute_digits = p2.1;
      second_digits = p3.1;
      hours = true_le (digits_value 10 hour) 23 p4.1;
      minutes = true_le (digits_value 10 minute) 59 p5.1;
      seconds = true_le (digits_value 10 second) 59 p6.1;
    }

-- ---- each instant's text is read, and nothing else

pub instant_reads : (text : List ℕ) (at : Moment) → (i : _) → IsInstant text i → at ≡ moment (moment_of i) → Some at ≡ instant_of text
instant_reads text at i is same =
    let p = parts_of text in
    rw ((instant_cuts text i is).marked, day_true p.year p.month p.day (day_is_cut text i is), time_true p.hour p.minute p.second (time_is_cut text i is))
    (ap Some (same ∙ ap moment (sym (moment_is_cut text i is))))

pub instant_exact : (text : List ℕ) (at : Moment) → instant_of text ≡ Some at → IsInstant text (parts_of text)
instant_exact text at e = by (is_marked text) (are_parts (parts_of text)) refl refl e
  where
    by : (marked parts : Bool) → is_marked text ≡ marked → are_parts (parts_of text) ≡ parts
        → (if marked && parts then Some (moment (moment_of (parts_of text))) else None) ≡ Some at → IsInstant text (parts_of text)
    by false parts marked_is parts_is e = absurd cc
    by true false marked_is parts_is e = absurd cc
    by true true marked_is parts_is e =
        let p = parts_of text in
        let both = and_parts _ _ parts_is in
        parts_are_instant text marked_is (true_day p.year p.month p.day both.0) (true_time p.hour p.minute p.second both.1)
