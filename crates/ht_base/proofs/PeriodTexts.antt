-- How the texts of periods are read: part by part, to their ends.
use Rattle.std.proofs.Common.{◌≡◌, ◌≢◌, ℕ, ◌+◌, ◌*◌, ◌≤◌, true, false, ◌||◌, List, [], ◌∷◌, ◌++◌, length, Option, Some, None, is_some, IfSome, refl, sym, ap, ◌∙◌, append-nil, length-append, arith, eqb-true, true≢false, ◌==◌, drop}
use Rattle.ht_base.specs.Periods.{TimeText, PeriodText, IsTime, IsPeriod, Begins, IsAmount, amount, amount_text, time_text, marked_time, time_millis, marked_time_millis, millis, letter_d, letter_h, letter_m, letter_p, letter_s, letter_t}
use Rattle.ht_base.proofs.Amounts.{mark, passes, mark_nothing, mark_letter, is_read, small}

pub is_nil : (xs : List ℕ) → true ≡ (length xs == 0) → xs ≡ []
is_nil [] e = refl
is_nil (x ∷ xs) e = absurd (let zero_long = eqb-true (length (x ∷ xs)) 0 (sym e) in omega arith)

pub not_nil : (xs : List ℕ) → false ≡ (length xs == 0) → xs ≡ [] → ⊥
not_nil xs e nil = true≢false (sym (e ∙ ap (λ l. length l == 0) nil))

last_passes : (letter other : ℕ) (a : Option (List ℕ)) → IsAmount a → 58 ≤ letter → 58 ≤ other → other ≢ letter → mark (amount_text other a) ≢ letter
last_passes letter other a is high higher differ =
    rw (← append-nil (amount_text other a)) (passes letter other a [] is higher differ (mark_nothing letter high))

-- ---- hours, minutes and seconds

nothing_given : (h m s : Option (List ℕ)) → (amount_text letter_h h ++ (amount_text letter_m m ++ amount_text letter_s s) ≡ [] → ⊥)
    → (is_some h || is_some m || is_some s) ≡ true
nothing_given (Some h) m s some = refl
nothing_given None (Some m) s some = refl
nothing_given None None (Some s) some = refl
nothing_given None None None some = absurd (some refl)

no_text : (letter : ℕ) (digits tail : List ℕ) → (digits ++ letter ∷ []) ++ tail ≡ [] → ⊥
no_text letter digits tail e =
    let long : length ((digits ++ letter ∷ []) ++ tail) ≡ length digits + 1 + length tail = omega (arith, length-append {A = ℕ}) in
    let none : length ((digits ++ letter ∷ []) ++ tail) ≡ 0 = ap length e in
    omega arith

pub some_text : (h m s : Option (List ℕ)) → (is_some h || is_some m || is_some s) ≡ true
    → amount_text letter_h h ++ (amount_text letter_m m ++ amount_text letter_s s) ≡ [] → ⊥
some_text (Some h) m s given e = no_text letter_h h (amount_text letter_m m ++ amount_text letter_s s) e
some_text None (Some m) s given e = no_text letter_m m (amount_text letter_s s) e
some_text None None (Some s) given e = no_text letter_s s [] (append-nil (s ++ letter_s ∷ []) ∙ e)
some_text None None None given e = absurd cc

pub record IsTimeRead (t : TimeText) (bytes : List ℕ) (hours minutes seconds : ℕ) (rest : List ℕ) : Type 0 where
  pub some : bytes ≡ [] → ⊥
  pub whole : rest ≡ []
  pub value : hours * 3600000 + minutes * 60000 + seconds * 1000 ≡ time_millis t

-- the text of a time is read to its end
pub time_is_read : (t : TimeText) (bytes : List ℕ) (hours : ℕ) (behind_hours : List ℕ) (minutes : ℕ) (behind_minutes : List ℕ) (seconds : ℕ) (rest : List ℕ)
    → Begins letter_h bytes hours behind_hours → Begins letter_m behind_hours minutes behind_minutes → Begins letter_s behind_minutes seconds rest
    → IsTime t → bytes ≡ time_text t → IsTimeRead t bytes hours minutes seconds rest
time_is_read t bytes hours behind_hours minutes behind_minutes seconds rest first second third is text =
    let s_text = amount_text letter_s t.seconds in
    let m_text = amount_text letter_m t.minutes ++ s_text in
    let no_minutes : mark s_text ≢ letter_m = last_passes letter_m letter_s t.seconds is.seconds (omega arith) (omega arith) (λ e. omega arith) in
    let no_hours : mark m_text ≢ letter_h = passes letter_h letter_m t.minutes s_text is.minutes (omega arith) (λ e. omega arith) (last_passes letter_h letter_s t.seconds is.seconds (omega arith) (omega arith) (λ e. omega arith)) in
    let h = is_read letter_h bytes hours behind_hours t.hours m_text (omega arith) first is.hours text (λ e. no_hours) in
    let m = is_read letter_m behind_hours minutes behind_minutes t.minutes s_text (omega arith) second is.minutes h.0 (λ e. no_minutes) in
    let s = is_read letter_s behind_minutes seconds rest t.seconds [] (omega arith) third is.seconds (m.0 ∙ sym (append-nil s_text)) (λ e. mark_nothing letter_s (omega arith)) in
    record {
      some = λ e. some_text t.hours t.minutes t.seconds is.given (sym text ∙ e);
      whole = s.0;
      value = rw (h.1, m.1, s.1) refl;
    }

-- what is read to its end is a time's text
pub read_is_time : (bytes : List ℕ) (hours : ℕ) (behind_hours : List ℕ) (minutes : ℕ) (behind_minutes : List ℕ) (seconds : ℕ)
    → Begins letter_h bytes hours behind_hours → Begins letter_m behind_hours minutes behind_minutes → Begins letter_s behind_minutes seconds [] → (bytes ≡ [] → ⊥)
    → (t : TimeText) × IsTime t × (bytes ≡ time_text t) × (hours * 3600000 + minutes * 60000 + seconds * 1000 ≡ time_millis t)
read_is_time bytes hours behind_hours minutes behind_minutes seconds h m s some =
    let text : bytes ≡ amount_text letter_h h.read ++ (amount_text letter_m m.read ++ amount_text letter_s s.read) =
    h.split ∙ ap (λ l. amount_text letter_h h.read ++ l) (m.split ∙ ap (λ l. amount_text letter_m m.read ++ l) (s.split ∙ append-nil (amount_text letter_s s.read))) in (
      record { hours = h.read; minutes = m.read; seconds = s.read },
      record { hours = h.is; minutes = m.is; seconds = s.is; given = nothing_given h.read m.read s.read (λ e. some (text ∙ e)) },
      text,
      rw (h.value_is, m.value_is, s.value_is) refl,
    )

pub time_small : (bytes : List ℕ) (hours : ℕ) (behind_hours : List ℕ) (minutes : ℕ) (behind_minutes : List ℕ) (seconds : ℕ) (rest : List ℕ)
    → Begins letter_h bytes hours behind_hours → Begins letter_m behind_hours minutes behind_minutes → Begins letter_s behind_minutes seconds rest
    → hours * 3600000 + minutes * 60000 + seconds * 1000 ≤ 3660996339000
time_small bytes hours behind_hours minutes behind_minutes seconds rest first second third =
    let h = small letter_h bytes hours behind_hours first in
    let m = small letter_m behind_hours minutes behind_minutes second in
    let s = small letter_s behind_minutes seconds rest third in
    omega arith

-- ---- behind the days

pub marked_exact : (bytes behind : List ℕ) (result : Option ℕ) → bytes ≡ letter_t ∷ behind
    → IfSome result (λ ms. (t : TimeText) × IsTime t × (behind ≡ time_text t) × (ms ≡ time_millis t))
    → IfSome result (λ ms. (t : Option TimeText) × IfSome t IsTime × (bytes ≡ marked_time t) × (ms ≡ marked_time_millis t))
marked_exact bytes behind None e read = tt
marked_exact bytes behind (Some ms) e read = (Some read.0, read.1, e ∙ ap (λ l. letter_t ∷ l) read.2, read.3)

-- ---- the whole period

mark_time : (t : Option TimeText) → mark (marked_time t) ≢ letter_d
mark_time None = mark_nothing letter_d (omega arith)
mark_time (Some t) = mark_letter letter_d letter_t (time_text t) (omega arith) (λ e. omega arith)

pub record IsDaysRead (p : PeriodText) (parts : List ℕ) (days : ℕ) (rest : List ℕ) : Type 0 where
  pub some : parts ≡ [] → ⊥
  pub behind : rest ≡ marked_time p.time
  pub value : days ≡ amount p.days

some_parts : (d : Option (List ℕ)) (t : Option TimeText) → (is_some d || is_some t) ≡ true → amount_text letter_d d ++ marked_time t ≡ [] → ⊥
some_parts (Some d) t given e = no_text letter_d d (marked_time t) e
some_parts None (Some t) given e = absurd cc
some_parts None None given e = absurd cc

pub days_are_read : (p : PeriodText) (text parts : List ℕ) (days : ℕ) (rest : List ℕ) → text ≡ letter_p ∷ parts → Begins letter_d parts days rest → IsPeriod text p
    → IsDaysRead p parts days rest
days_are_read p text parts days rest begun read is =
    let behind : parts ≡ amount_text letter_d p.days ++ marked_time p.time = ap (drop 1) (sym begun ∙ is.written) in
    let found = is_read letter_d parts days rest p.days (marked_time p.time) (omega arith) read is.days behind (λ e. mark_time p.time) in
    record {
      some = λ e. some_parts p.days p.time is.given (sym behind ∙ e);
      behind = found.0;
      value = found.1;
    }

given_parts : (d : Option (List ℕ)) (t : Option TimeText) → (amount_text letter_d d ++ marked_time t ≡ [] → ⊥) → (is_some d || is_some t) ≡ true
given_parts (Some d) t some = refl
given_parts None (Some t) some = refl
given_parts None None some = absurd (some refl)

pub read_is_period : (text parts : List ℕ) (days : ℕ) (rest : List ℕ) (time : ℕ) → text ≡ letter_p ∷ parts → (parts ≡ [] → ⊥) → Begins letter_d parts days rest
    → (t : Option TimeText) × IfSome t IsTime × (rest ≡ marked_time t) × (time ≡ marked_time_millis t)
    → (p : PeriodText) × IsPeriod text p × (days * 86400000 + time ≡ millis p)
read_is_period text parts days rest time begun some read t =
    let behind : parts ≡ amount_text letter_d read.read ++ marked_time t.0 = read.split ∙ ap (λ l. amount_text letter_d read.read ++ l) t.2 in (
      record { days = read.read; time = t.0 },
      record {
        written = begun ∙ ap (λ l. letter_p ∷ l) behind;
        days = read.is;
        time = t.1;
        given = given_parts read.read t.0 (λ e. some (behind ∙ e));
      },
      rw (read.value_is, t.3) refl,
    )
