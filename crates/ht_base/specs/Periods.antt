-- Periods of time as texts, for instance P1DT2H: `P` and days, and behind `T` hours, minutes and
-- seconds, in this order, of which any may be missing. A narrow form of ISO 8601's.
use Rattle.std.specs.Prelude.{◌≡◌, ℕ, ◌+◌, ◌*◌, ◌||◌, ◌==◌, not, if◌then◌else◌, List, [], ◌∷◌, ◌++◌, length, take, drop, position, IsTrue, Option, Some, None, is_some, IfSome, option_map}
use Rattle.std.specs.Str.Parse.{digits_value}
use Rattle.ht_base.specs.Numbers.{IsNumber, is_number}

-- the digits of each amount, where it is given
pub record TimeText : Type 0 where
  pub hours : Option (List ℕ)
  pub minutes : Option (List ℕ)
  pub seconds : Option (List ℕ)

pub record PeriodText : Type 0 where
  pub days : Option (List ℕ)
  pub time : Option TimeText

-- ---- how it is written

-- the letters D, H, M, P, S and T
abbrev pub letter_d : ℕ
letter_d = 68

abbrev pub letter_h : ℕ
letter_h = 72

abbrev pub letter_m : ℕ
letter_m = 77

abbrev pub letter_p : ℕ
letter_p = 80

abbrev pub letter_s : ℕ
letter_s = 83

abbrev pub letter_t : ℕ
letter_t = 84

-- an amount's digits, and its letter behind them
abbrev pub amount_text : ℕ → Option (List ℕ) → List ℕ
amount_text letter None = []
amount_text letter (Some digits) = digits ++ letter ∷ []

abbrev pub time_text : TimeText → List ℕ
time_text t = amount_text letter_h t.hours ++ (amount_text letter_m t.minutes ++ amount_text letter_s t.seconds)

-- `T` stands just where a time stands behind it
abbrev pub marked_time : Option TimeText → List ℕ
marked_time None = []
marked_time (Some t) = letter_t ∷ time_text t

abbrev pub period_text : PeriodText → List ℕ
period_text p = letter_p ∷ (amount_text letter_d p.days ++ marked_time p.time)

-- ---- which texts are periods

-- an amount that is given has one to six digits
abbrev pub IsAmount : Option (List ℕ) → Type 0
IsAmount amount = IfSome amount IsNumber

-- hours, minutes or seconds are given
pub record IsTime (t : TimeText) : Type 0 where
  pub hours : IsAmount t.hours
  pub minutes : IsAmount t.minutes
  pub seconds : IsAmount t.seconds
  pub given : IsTrue (is_some t.hours || is_some t.minutes || is_some t.seconds)

-- the text is that of this period: days are given, or a time
pub record IsPeriod (text : List ℕ) (p : PeriodText) : Type 0 where
  pub written : text ≡ period_text p
  pub days : IsAmount p.days
  pub time : IfSome p.time IsTime
  pub given : IsTrue (is_some p.days || is_some p.time)

-- ---- how long it is, in milliseconds

abbrev pub amount : Option (List ℕ) → ℕ
amount None = 0
amount (Some digits) = digits_value 10 digits

abbrev pub time_millis : TimeText → ℕ
time_millis t = amount t.hours * 3600000 + amount t.minutes * 60000 + amount t.seconds * 1000

abbrev pub marked_time_millis : Option TimeText → ℕ
marked_time_millis None = 0
marked_time_millis (Some t) = time_millis t

-- a day has 24 hours
abbrev pub millis : PeriodText → ℕ
millis p = amount p.days * (24 * 3600000) + marked_time_millis p.time

-- ---- how it is read, part by part

-- the bytes begin with an amount of this letter, which is read, and the rest is left; or with none, and all are left
pub record Begins (letter : ℕ) (bytes : List ℕ) (value : ℕ) (rest : List ℕ) : Type 0 where
  pub read : Option (List ℕ)
  pub is : IsAmount read
  pub split : bytes ≡ amount_text letter read ++ rest
  pub value_is : value ≡ amount read
  pub all : (digits behind : List ℕ) → IsNumber digits → bytes ≡ digits ++ letter ∷ behind → read ≡ Some digits

-- ---- the same as a function of the text

-- the digits of the amount of this letter that the bytes begin with, and the rest; or none, and all
abbrev pub cut_at : List ℕ → Option ℕ → Option (List ℕ) × List ℕ
cut_at bytes None = (None, bytes)
cut_at bytes (Some end) = if is_number (take end bytes) then (Some (take end bytes), drop (end + 1) bytes) else (None, bytes)

abbrev pub cut : ℕ → List ℕ → Option (List ℕ) × List ℕ
cut letter bytes = cut_at bytes (position (λ b. b == letter) bytes)

-- hours, minutes and seconds, of which one is there, and nothing behind them
abbrev pub time_of : List ℕ → Option TimeText
time_of bytes =
    let h = cut letter_h bytes in
    let m = cut letter_m h.1 in
    let s = cut letter_s m.1 in
    if (length bytes == 0) || not (length s.1 == 0) then None else Some (record { hours = h.0; minutes = m.0; seconds = s.0 })

abbrev pub marked_time_of : List ℕ → Option (Option TimeText)
marked_time_of [] = Some None
marked_time_of (b ∷ bytes) = if b == letter_t then option_map Some (time_of bytes) else None

-- days and a time, of which one is there
abbrev pub parts_of : List ℕ → Option PeriodText
parts_of bytes =
    let d = cut letter_d bytes in
    if length bytes == 0 then None else option_map (λ time. record { days = d.0; time = time }) (marked_time_of d.1)

abbrev pub period_text_of : List ℕ → Option PeriodText
period_text_of [] = None
period_text_of (b ∷ bytes) = if b == letter_p then parts_of bytes else None

-- the milliseconds of a period's text
abbrev pub period_of : List ℕ → Option ℕ
period_of text = option_map millis (period_text_of text)
