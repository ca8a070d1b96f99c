-- Moments as texts, for instance 2026-03-02T09:00:00.250Z: a date and a time of day with milliseconds,
-- in UTC. A narrow form of RFC 3339's.
use Rattle.std.specs.Prelude.{ℕ, ◌+◌, ◌/◌, ◌%◌, List, [], ◌∷◌, ◌++◌}
use Rattle.ht_entries.specs.Instants.{colon, hyphen, letter_t, letter_z}
use Rattle.ht_export.specs.Dates.{DateOf, date_of}

-- ---- digits

-- the last digit of a number
abbrev pub digit : ℕ → ℕ
digit n = 48 + n % 10

abbrev pub two_digits : ℕ → List ℕ
two_digits n = digit (n / 10) ∷ digit n ∷ []

abbrev pub three_digits : ℕ → List ℕ
three_digits n = digit (n / 100) ∷ two_digits n

abbrev pub four_digits : ℕ → List ℕ
four_digits n = digit (n / 1000) ∷ three_digits n

-- ---- dates, times and moments

abbrev full_stop : ℕ
full_stop = 46

abbrev pub date_text : DateOf → List ℕ
date_text d = four_digits d.year ++ hyphen ∷ (two_digits d.month ++ hyphen ∷ two_digits d.day)

-- the milliseconds of a day as hours, minutes, seconds and milliseconds
abbrev pub time_text : ℕ → List ℕ
time_text n =
    two_digits (n / 3600000) ++ colon ∷ (two_digits (n / 60000 % 60) ++ colon ∷ (two_digits (n / 1000 % 60) ++ full_stop ∷ three_digits (n % 1000)))

-- of a moment in milliseconds since the beginning of 1970-01-01
abbrev pub moment_text : ℕ → List ℕ
moment_text at = date_text (date_of (at / 86400000)) ++ letter_t ∷ (time_text (at % 86400000) ++ letter_z ∷ [])
