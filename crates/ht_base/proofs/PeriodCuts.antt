-- The function that reads periods' texts reads just the periods.
use Rattle.std.proofs.Common.{◌≡◌, ℕ, ◌+◌, ◌≤◌, Bool, true, false, not, ◌||◌, ◌==◌, length, List, [], ◌∷◌, take, drop, position, Option, Some, None, IfSome, option_map, if◌then◌else◌, refl, sym, ap, ◌∙◌, arith, eqb-true, ne_eqb}
use Rattle.ht_base.specs.Numbers.{is_number}
use Rattle.ht_base.specs.Periods.{TimeText, PeriodText, IsTime, IsPeriod, Begins, amount, time_text, marked_time, time_millis, marked_time_millis, millis, letter_d, letter_h, letter_m, letter_p, letter_s, letter_t, cut_at, cut, time_of, marked_time_of, period_of}
use Rattle.ht_base.proofs.Amounts.{reads_to_end, reads_none, reads_no_number}
use Rattle.ht_base.proofs.PeriodTexts.{is_nil, not_nil, time_is_read, read_is_time, days_are_read, read_is_period}

-- an amount is cut off as it is read
abbrev cut_if : List ℕ → ℕ → Bool → Option (List ℕ) × List ℕ
cut_if bytes end number = if number then (Some (take end bytes), drop (end + 1) bytes) else (None, bytes)

cut_begins : (letter : ℕ) (bytes : List ℕ) → 58 ≤ letter → Begins letter bytes (amount (cut letter bytes).0) (cut letter bytes).1
cut_begins letter bytes high = at (position (λ b. b == letter) bytes) refl
  where
    digits : (end : ℕ) (number : Bool) → position (λ b. b == letter) bytes ≡ Some end → is_number (take end bytes) ≡ number
        → Begins letter bytes (amount (cut_if bytes end number).0) (cut_if bytes end number).1
    digits end true found is = reads_to_end letter bytes end _ high found (is, refl)
    digits end false found is = reads_no_number letter bytes end high found (λ n. absurd cc)

    at : (place : Option ℕ) → position (λ b. b == letter) bytes ≡ place → Begins letter bytes (amount (cut_at bytes place).0) (cut_at bytes place).1
    at None found = reads_none letter bytes high found
    at (Some end) found = digits end (is_number (take end bytes)) found refl

-- a list is empty, or not
empty : (xs : List ℕ) → xs ≡ [] → (length xs == 0) ≡ true
empty xs e = rw e refl

some_long : (xs : List ℕ) → (xs ≡ [] → ⊥) → (length xs == 0) ≡ false
some_long [] some = absurd (some refl)
some_long (x ∷ xs) some = ne_eqb (length (x ∷ xs)) 0 (λ e. omega arith)

-- ---- each period's text is read

time_reads : (t : TimeText) → IsTime t → (read : TimeText) × (time_of (time_text t) ≡ Some read) × (time_millis read ≡ time_millis t)
time_reads t is =
    let bytes = time_text t in
    let h = cut letter_h bytes in
    let m = cut letter_m h.1 in
    let s = cut letter_s m.1 in
    let found = time_is_read t bytes (amount h.0) h.1 (amount m.0) m.1 (amount s.0) s.1
    (cut_begins letter_h bytes (omega arith)) (cut_begins letter_m h.1 (omega arith)) (cut_begins letter_s m.1 (omega arith)) is refl in
    (record { hours = h.0; minutes = m.0; seconds = s.0 }, rw (some_long bytes found.some, empty s.1 found.whole) refl, found.value)

marked_reads : (t : Option TimeText) → IfSome t IsTime → (read : Option TimeText) × (marked_time_of (marked_time t) ≡ Some read) × (marked_time_millis read ≡ marked_time_millis t)
marked_reads None is = (None, refl, refl)
marked_reads (Some t) is =
    let found = time_reads t is in
    (Some found.0, ap (option_map Some) found.1, found.2)

pub period_reads : (text : List ℕ) (p : PeriodText) → IsPeriod text p → period_of text ≡ Some (millis p)
period_reads [] p is = absurd (let e = is.written in cc)
period_reads (b ∷ parts) p is =
    let first : b ≡ letter_p = let e = is.written in cc in
    let begun : b ∷ parts ≡ letter_p ∷ parts = ap (λ c. c ∷ parts) first in
    let d = cut letter_d parts in
    let found = days_are_read p (b ∷ parts) parts (amount d.0) d.1 begun (cut_begins letter_d parts (omega arith)) is in
    let time = marked_reads p.time is.time in
    let read : marked_time_of d.1 ≡ Some time.0 = ap marked_time_of found.behind ∙ time.1 in
    rw (first, some_long parts found.some, read) (ap Some (rw (found.value, time.2) refl))

-- ---- and nothing else

time_exact : (bytes : List ℕ) (t : TimeText) → time_of bytes ≡ Some t → (is : TimeText) × IsTime is × (bytes ≡ time_text is) × (time_millis t ≡ time_millis is)
time_exact bytes t e = by (length bytes == 0) (length (cut letter_s (cut letter_m (cut letter_h bytes).1).1).1 == 0) refl refl e
  where
    by : (none whole : Bool) → (length bytes == 0) ≡ none → (length (cut letter_s (cut letter_m (cut letter_h bytes).1).1).1 == 0) ≡ whole
        → (if none || not whole then None else Some (record { hours = (cut letter_h bytes).0; minutes = (cut letter_m (cut letter_h bytes).1).0; seconds = (cut letter_s (cut letter_m (cut letter_h bytes).1).1).0 })) ≡ Some t
        → (is : TimeText) × IsTime is × (bytes ≡ time_text is) × (time_millis t ≡ time_millis is)
    by true whole none_is whole_is e = absurd cc
    by false false none_is whole_is e = absurd cc
    by false true none_is whole_is e =
        let h = cut letter_h bytes in
        let m = cut letter_m h.1 in
        let s = cut letter_s m.1 in
        let end : s.1 ≡ [] = is_nil s.1 (sym whole_is) in
        let third : Begins letter_s m.1 (amount s.0) [] = rw (← end) (cut_begins letter_s m.1 (omega arith)) in
        let found = read_is_time bytes (amount h.0) h.1 (amount m.0) m.1 (amount s.0)
        (cut_begins letter_h bytes (omega arith)) (cut_begins letter_m h.1 (omega arith)) third (not_nil bytes (sym none_is)) in
        let same : record { hours = h.0; minutes = m.0; seconds = s.0 } ≡ t = cc in
        (found.0, found.1, found.2, rw (← same) found.3)

marked_exactly : (bytes : List ℕ) (t : Option TimeText) → marked_time_of bytes ≡ Some t → (is : Option TimeText) × IfSome is IsTime × (bytes ≡ marked_time is) × (marked_time_millis t ≡ marked_time_millis is)
marked_exactly [] t e = let none : None ≡ t = cc in (None, tt, refl, rw (← none) refl)
marked_exactly (b ∷ bytes) t e = by (b == letter_t) (time_of bytes) refl refl e
  where
    by : (marked : Bool) (read : Option TimeText) → (b == letter_t) ≡ marked → time_of bytes ≡ read → (if marked then option_map Some read else None) ≡ Some t
        → (is : Option TimeText) × IfSome is IsTime × (b ∷ bytes ≡ marked_time is) × (marked_time_millis t ≡ marked_time_millis is)
    by false read marked_is read_is e = absurd cc
    by true None marked_is read_is e = absurd cc
    by true (Some time) marked_is read_is e =
        let found = time_exact bytes time read_is in
        let first : b ≡ letter_t = eqb-true b letter_t marked_is in
        let same : Some time ≡ t = cc in
        (Some found.0, found.1, rw (first, ← found.2) refl, rw (← same) found.3)

pub period_exact : (text : List ℕ) (ms : ℕ) → period_of text ≡ Some ms → (p : PeriodText) × IsPeriod text p × (ms ≡ millis p)
period_exact [] ms e = absurd cc
period_exact (b ∷ parts) ms e = by (b == letter_p) (length parts == 0) (marked_time_of (cut letter_d parts).1) refl refl refl e
  where
    by : (marked none : Bool) (time : Option (Option TimeText)) → (b == letter_p) ≡ marked → (length parts == 0) ≡ none → marked_time_of (cut letter_d parts).1 ≡ time
        → option_map millis (if marked then (if none then None else option_map (λ time. record { days = (cut letter_d parts).0; time = time }) time) else None) ≡ Some ms
        → (p : PeriodText) × IsPeriod (b ∷ parts) p × (ms ≡ millis p)
    by false none time marked_is none_is time_is e = absurd cc
    by true true time marked_is none_is time_is e = absurd cc
    by true false None marked_is none_is time_is e = absurd cc
    by true false (Some t) marked_is none_is time_is e =
        let d = cut letter_d parts in
        let found = marked_exactly d.1 t time_is in
        let begun : b ∷ parts ≡ letter_p ∷ parts = ap (λ c. c ∷ parts) (eqb-true b letter_p marked_is) in
        let read = read_is_period (b ∷ parts) parts (amount d.0) d.1 (marked_time_millis t) begun (not_nil parts (sym none_is)) (cut_begins letter_d parts (omega arith)) found in
        let same : millis (record { days = d.0; time = t }) ≡ ms = cc in
        (read.0, read.1, sym same ∙ read.2)
