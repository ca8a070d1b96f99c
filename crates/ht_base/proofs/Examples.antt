-- Worked examples of texts that are no period.
use Rattle.std.proofs.Common.{◌≡◌, ◌≢◌, ℕ, List, [], ◌∷◌, Option, Some, None, IfSome, codes, refl, sym, ap, get_or, drop, arith, true≢false}
use Rattle.ht_base.specs.Periods.{TimeText, PeriodText, IsTime, IsPeriod, Begins, marked_time, letter_d, letter_p, letter_t}
use Rattle.ht_base.proofs.Amounts.{reads_amount, reads_none, reads_no_number}
use Rattle.ht_base.proofs.PeriodTexts.{days_are_read, some_text}

-- days, read of the bytes behind `P`, and what is behind them
behind_days : (p : PeriodText) (parts : List ℕ) (days : ℕ) (rest : List ℕ) → Begins letter_d parts days rest → IsPeriod (letter_p ∷ parts) p → rest ≡ marked_time p.time
behind_days p parts days rest read is = (days_are_read p (letter_p ∷ parts) parts days rest refl read is).behind

no_mark : (b : ℕ) (bs : List ℕ) (t : Option TimeText) → b ≢ letter_t → b ∷ bs ≡ marked_time t → ⊥
no_mark b bs None other e = absurd cc
no_mark b bs (Some t) other e = other (ap (λ l. get_or l 0 0) e)

no_time : (t : Option TimeText) → IfSome t IsTime → codes "T" ≡ marked_time t → ⊥
no_time None is e = absurd cc
no_time (Some t) is e = some_text t.hours t.minutes t.seconds is.given (sym (ap (drop 1) e))

nothing_given : (p : PeriodText) → IsPeriod (codes "P") p → ⊥
nothing_given p is = (days_are_read p (codes "P") [] 0 [] refl (reads_none letter_d [] (omega arith) refl) is).some refl

nothing_behind_t : (p : PeriodText) → IsPeriod (codes "PT") p → ⊥
nothing_behind_t p is = no_time p.time is.time (behind_days p (codes "T") 0 (codes "T") (reads_none letter_d (codes "T") (omega arith) refl) is)

nothing_behind_days_and_t : (p : PeriodText) → IsPeriod (codes "P1DT") p → ⊥
nothing_behind_days_and_t p is = no_time p.time is.time (behind_days p (codes "1DT") 1 (codes "T") (reads_amount letter_d (codes "1DT") 1 1 (omega arith) refl (refl, refl)) is)

hours_without_t : (p : PeriodText) → IsPeriod (codes "P1H") p → ⊥
hours_without_t p is = no_mark 49 (codes "H") p.time (λ e. omega arith) (behind_days p (codes "1H") 0 (codes "1H") (reads_none letter_d (codes "1H") (omega arith) refl) is)

seven_digits : (p : PeriodText) → IsPeriod (codes "P1234567D") p → ⊥
seven_digits p is = no_mark 49 (codes "234567D") p.time (λ e. omega arith) (behind_days p (codes "1234567D") 0 (codes "1234567D") (reads_no_number letter_d (codes "1234567D") 7 (omega arith) refl (λ e. true≢false (sym e))) is)

a_blank_behind : (p : PeriodText) → IsPeriod (codes "P1D ") p → ⊥
a_blank_behind p is = no_mark 32 [] p.time (λ e. omega arith) (behind_days p (codes "1D ") 1 (codes " ") (reads_amount letter_d (codes "1D ") 1 1 (omega arith) refl (refl, refl)) is)

other_letter : (b : ℕ) (bs : List ℕ) (p : PeriodText) → b ≢ letter_p → IsPeriod (b ∷ bs) p → ⊥
other_letter b bs p other is = other (ap (λ l. get_or l 0 0) is.written)

a_small_letter : (p : PeriodText) → IsPeriod (codes "p1d") p → ⊥
a_small_letter p is = other_letter 112 (codes "1d") p (λ e. omega arith) is
