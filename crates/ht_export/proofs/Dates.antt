-- The date of a day number is the one that the calendar gives it.
use Rattle.std.proofs.Common.{inl, inr, unsigned_abs, ◌≡◌, ℕ, ℤ, zero, suc, ◌+◌, ◌-◌, ◌*◌, ◌/◌, ◌<◌, ◌≤◌, Bool, true, false, cond, ltb, pos, negsuc, ◌⊎◌, refl, sym, ap, subst, ◌∙◌, arith}
use Rattle.std.proofs.lemmas.Bool.{cases_lt, ltb-false, ltb-true}
use Rattle.std.proofs.lemmas.Int.{ints}
use Rattle.jiff_core.specs.Calendar.{IsCivilDate, day_count, day_of_year, days_from_civil, days_in_month, days_in_year, days_of_months}
use Rattle.jiff_core.proofs.CalendarLemmas.{day_count-day_of_year, day_count-epoch, day_count-later_year, day_count-next_year, day_count-lt_year, day_of_year_bound, days_from_civil-day_count, days_in_year_bounds, days_of_months-zero, days_of_months_more, days_of_months_mono}
use Rattle.jiff_core.specs.Date.{epoch_day}
use Rattle.jiff_core.specs.declared.civil.date.Date.{Date}
use Rattle.jiff_core.proofs.DateLemmas.{civil}
use Rattle.ht_export.specs.Dates.{DateOf, date_of, month_from, plain_date, year_from}

the_date : ℕ → ℕ → ℕ → DateOf
the_date year month day = record { year = year; month = month; day = day }

-- so many days of the year are over on the first of a month
module _ (y m d : ℕ) (low : 1 ≤ d) (high : d ≤ days_in_month (pos y) m) where
  month_is : (n at left : ℕ) → 1 ≤ at → at ≤ m → m ≤ at + n → days_of_months (pos y) (at - 1) + left + 1 ≡ day_of_year (pos y) m d → month_from n y at left ≡ the_date y m d
  unfolding the_date
  month_is zero at left l a b e =
      let same : at ≡ m = omega arith in
      let f : days_of_months (pos y) (at - 1) ≡ days_of_months (pos y) (m - 1) = ap (λ k. days_of_months (pos y) (k - 1)) same in
      let g : left + 1 ≡ d = omega arith in
      λ i. record { year = y; month = same i; day = g i }
  month_is (suc n) at left l a b e = go (ltb left (days_in_month (pos y) at)) refl
      (λ l a b e. month_is n (at + 1) (left - days_in_month (pos y) at) l a b e)
    where
      more : days_of_months (pos y) at ≡ days_of_months (pos y) (at - 1) + days_in_month (pos y) at
      more = days_of_months_more (pos y) at l

      go : (t : Bool) → ltb left (days_in_month (pos y) at) ≡ t
          → (1 ≤ at + 1 → at + 1 ≤ m → m ≤ (at + 1) + n → days_of_months (pos y) ((at + 1) - 1) + (left - days_in_month (pos y) at) + 1 ≡ day_of_year (pos y) m d → month_from n y (at + 1) (left - days_in_month (pos y) at) ≡ the_date y m d)
          → cond t (the_date y at (left + 1)) (month_from n y (at + 1) (left - days_in_month (pos y) at)) ≡ the_date y m d
      go true t next =
          let short : left < days_in_month (pos y) at = ltb-true left (days_in_month (pos y) at) t in
          let same : at ≡ m = elim (cases_lt at m) [
            | inl lower ↦ absurd (let far : days_of_months (pos y) at ≤ days_of_months (pos y) (m - 1) = days_of_months_mono (pos y) at (m - 1) (omega arith) in omega (arith, more))
            | inr upper ↦ omega arith
          ] in
          let f : days_of_months (pos y) (at - 1) ≡ days_of_months (pos y) (m - 1) = ap (λ k. days_of_months (pos y) (k - 1)) same in
          let g : left + 1 ≡ d = omega arith in
          λ i. record { year = y; month = same i; day = g i }
      go false t next =
          let long : days_in_month (pos y) at ≤ left = ltb-false left (days_in_month (pos y) at) t in
          let other : at ≡ m → ⊥ = λ same. let f : days_of_months (pos y) (at - 1) ≡ days_of_months (pos y) (m - 1) = ap (λ k. days_of_months (pos y) (k - 1)) same in let g : days_in_month (pos y) at ≡ days_in_month (pos y) m = ap (days_in_month (pos y)) same in omega arith in
          let back : (at + 1) - 1 ≡ at = omega arith in
          let f : days_of_months (pos y) ((at + 1) - 1) ≡ days_of_months (pos y) at = ap (days_of_months (pos y)) back in
          next (omega arith) (omega arith) (omega arith) (omega (arith, more))

next_year : (at : ℕ) → day_count (pos (at + 1)) 1 1 ≡ day_count (pos at) 1 1 + days_in_year (pos at)
next_year at = day_count-next_year (pos at) (pos (at + 1)) (omega (arith, ints)) (omega (arith, ints))

far_year : (k : ℕ) → day_count (pos 1970) 1 1 + 365 * k ≤ day_count (pos (1970 + k)) 1 1
far_year zero = omega arith
far_year (suc k) =
    let e : 1970 + suc k ≡ (1970 + k) + 1 = omega arith in
    let rest = far_year k in
    let next = next_year (1970 + k) in
    let long = (days_in_year_bounds (pos (1970 + k))).1 in
    rw e (omega arith)

-- so many days are over on the first of its year
module _ (y m d : ℕ) (is : IsCivilDate (pos y) m d) where
  year_here : (at left : ℕ) → at ≡ y → day_count (pos at) 1 1 + left ≡ day_count (pos y) m d → month_from 11 at 1 left ≡ the_date y m d
  year_here at left same e =
      let count = day_count-day_of_year (pos y) m d is.2.0 in
      let begin : day_count (pos at) 1 1 ≡ day_count (pos y) 1 1 = ap (λ k. day_count (pos k) 1 1) same in
      let none : days_of_months (pos y) (1 - 1) ≡ 0 = days_of_months-zero (pos y) in
      let high = is.1.1 in
      ap (λ k. month_from 11 k 1 left) same ∙ month_is y m d is.2.0 is.2.1 11 1 left (omega arith) is.1.0 (omega arith) (omega arith)

  year_is : (n at left : ℕ) → at ≤ y → y ≤ at + n → day_count (pos at) 1 1 + left ≡ day_count (pos y) m d → year_from n at left ≡ the_date y m d
  year_is zero at left a b e = year_here at left (omega arith) e
  year_is (suc n) at left a b e = go (ltb left (days_in_year (pos at))) refl (λ a b e. year_is n (at + 1) (left - days_in_year (pos at)) a b e) (λ same. year_here at left same e)
    where
      go : (t : Bool) → ltb left (days_in_year (pos at)) ≡ t
          → (at + 1 ≤ y → y ≤ (at + 1) + n → day_count (pos (at + 1)) 1 1 + (left - days_in_year (pos at)) ≡ day_count (pos y) m d → year_from n (at + 1) (left - days_in_year (pos at)) ≡ the_date y m d)
          → (at ≡ y → month_from 11 at 1 left ≡ the_date y m d)
          → cond t (month_from 11 at 1 left) (year_from n (at + 1) (left - days_in_year (pos at))) ≡ the_date y m d
      go true t next here =
          let short : left < days_in_year (pos at) = ltb-true left (days_in_year (pos at)) t in
          let count = day_count-day_of_year (pos y) m d is.2.0 in
          here (elim (cases_lt at y) [
            | inl lower ↦ absurd (let far = day_count-later_year (pos at) (pos y) (omega (arith, ints)) (omega (arith, ints)) in omega arith)
            | inr upper ↦ omega arith
          ])
      go false t next here =
          let long : days_in_year (pos at) ≤ left = ltb-false left (days_in_year (pos at)) t in
          let count = day_count-day_of_year (pos y) m d is.2.0 in
          let bound = day_of_year_bound (pos y) m d is in
          let other : at ≡ y → ⊥ = λ same. let f : day_count (pos at) 1 1 ≡ day_count (pos y) 1 1 = ap (λ k. day_count (pos k) 1 1) same in let g : days_in_year (pos at) ≡ days_in_year (pos y) = ap (λ k. days_in_year (pos k)) same in omega arith in
          let more = next_year at in
          next (omega arith) (omega arith) (omega arith)

-- of a year from 1970 on
counted : (y m d day : ℕ) → IsCivilDate (pos y) m d → 1970 ≤ y → days_from_civil (pos y) m d ≡ pos day → date_of day ≡ the_date y m d
unfolding date_of
counted y m d day is since e =
    let number = days_from_civil-day_count (pos y) m d in
    let count = day_count-day_of_year (pos y) m d is.2.0 in
    let total : day_count (pos 1970) 1 1 + day ≡ day_count (pos y) m d = omega (arith, ints, day_count-epoch, number, e) in
    let k = y - 1970 in
    let is_y : 1970 + k ≡ y = omega arith in
    let far : day_count (pos 1970) 1 1 + 365 * k ≤ day_count (pos y) 1 1 = subst (λ (z : ℕ). day_count (pos 1970) 1 1 + 365 * k ≤ day_count (pos z) 1 1) is_y (far_year k) in
    let few : 365 * k ≤ day = omega arith in
    year_is y m d is (day / 365) 1970 day since (omega arith) total

since : (y : ℤ) (m d day : ℕ) → IsCivilDate y m d → days_from_civil y m d ≡ pos day → (n : ℕ) × (y ≡ pos n) × (1970 ≤ n)
since y m d day is e = elim (cases_sign y) [
  | inl p ↦ elim (cases_lt p.0 1970) [
    | inl early ↦ absurd (let before = day_count-lt_year y m d (pos 1970) 1 1 is (omega arith) (rw p.1 (omega (arith, ints))) in let number = days_from_civil-day_count y m d in omega (arith, ints, day_count-epoch, number, e))
    | inr late ↦ (p.0, p.1, late)
  ]
  | inr q ↦ absurd (let before = day_count-lt_year y m d (pos 1970) 1 1 is (omega arith) (rw q.1 (omega (arith, ints))) in let number = days_from_civil-day_count y m d in omega (arith, ints, day_count-epoch, number, e))
]
  where
    cases_sign : (z : ℤ) → ((n : ℕ) × (z ≡ pos n)) ⊎ ((n : ℕ) × (z ≡ negsuc n))
    cases_sign (pos n) = inl (n, refl)
    cases_sign (negsuc n) = inr (n, refl)

pub date_is : (date : Date) (day : ℕ) → epoch_day date ≡ pos day → plain_date date ≡ date_of day
unfolding the_date
date_is date day e =
    let s = since date.year date.month date.day day (civil date) e in
    let is : IsCivilDate (pos s.0) date.month date.day = subst (λ (z : ℤ). IsCivilDate z date.month date.day) s.1 (civil date) in
    let f : days_from_civil (pos s.0) date.month date.day ≡ pos day = subst (λ (z : ℤ). days_from_civil z date.month date.day ≡ pos day) s.1 e in
    let y : unsigned_abs date.year ≡ s.0 = ap unsigned_abs s.1 in
    (λ i. record { year = y i; month = date.month; day = date.day }) ∙ sym (counted s.0 date.month date.day day is s.2 f)
