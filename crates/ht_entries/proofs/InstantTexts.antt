-- How the text of an instant is cut into its parts.
use Rattle.std.proofs.Common.{◌≡◌, ℕ, ◌+◌, ◌<◌, ◌≤◌, true, false, true≢false, List, [], ◌∷◌, ◌++◌, length, get_or, take, drop, refl, sym, ap, ◌∙◌, arith, add-one, length-drop, length-take-le, drop_of_length-le, get_or-drop, drop-drop, eqb-true}
use Rattle.std.proofs.Math.Seq.{split_at}
use Rattle.std.proofs.lemmas.Bool.{and_parts}
use Rattle.ht_entries.specs.Instants.{InstantText, instant_text, HasLengths, IsInstant, IsDay, IsTime, moment_of, is_marked, parts_of, hyphen, colon, letter_t, letter_z}

-- ---- a text that is written of parts is cut into them

two : (ds : List ℕ) → length ds ≡ 2 → (a : ℕ) × (b : ℕ) × (ds ≡ a ∷ b ∷ [])
two [] e = absurd (omega arith)
two (a ∷ []) e = absurd (omega arith)
two (a ∷ b ∷ []) e = (a, b, refl)
two (a ∷ b ∷ c ∷ ds) e = absurd (omega arith)

four : (ds : List ℕ) → length ds ≡ 4 → (a : ℕ) × (b : ℕ) × (c : ℕ) × (d : ℕ) × (ds ≡ a ∷ b ∷ c ∷ d ∷ [])
four [] e = absurd (omega arith)
four (a ∷ []) e = absurd (omega arith)
four (a ∷ b ∷ []) e = absurd (omega arith)
four (a ∷ b ∷ c ∷ []) e = absurd (omega arith)
four (a ∷ b ∷ c ∷ d ∷ []) e = (a, b, c, d, refl)
four (a ∷ b ∷ c ∷ d ∷ f ∷ ds) e = absurd (omega arith)

-- where each part of a text stands
pub record Cuts (text year month day hour minute second : List ℕ) : Type 0 where
  pub marked : is_marked text ≡ true
  pub year_at : take 4 text ≡ year
  pub month_at : take 2 (drop 5 text) ≡ month
  pub day_at : take 2 (drop 8 text) ≡ day
  pub hour_at : take 2 (drop 11 text) ≡ hour
  pub minute_at : take 2 (drop 14 text) ≡ minute
  pub second_at : take 2 (drop 17 text) ≡ second

cuts : (year month day hour minute second : List ℕ) → length year ≡ 4 → length month ≡ 2 → length day ≡ 2 → length hour ≡ 2 → length minute ≡ 2 → length second ≡ 2
    → Cuts (year ++ hyphen ∷ (month ++ hyphen ∷ (day ++ letter_t ∷ (hour ++ colon ∷ (minute ++ colon ∷ (second ++ letter_z ∷ [])))))) year month day hour minute second
cuts year month day hour minute second y m d h n s =
    rw ((four year y).4, (two month m).2, (two day d).2, (two hour h).2, (two minute n).2, (two second s).2)
    (record { marked = refl; year_at = refl; month_at = refl; day_at = refl; hour_at = refl; minute_at = refl; second_at = refl })

pub instant_cuts : (text : List ℕ) (i : InstantText) → IsInstant text i → Cuts text i.year i.month i.day i.hour i.minute i.second
instant_cuts text i is =
    let l = is.lengths in
    rw is.written (cuts i.year i.month i.day i.hour i.minute i.second l.year l.month l.day l.hour l.minute l.second)

-- ---- a marked text is written of the parts into which it is cut

record IsMarked (text : List ℕ) : Type 0 where
  size : length text ≡ 20
  at_4 : get_or text 4 0 ≡ hyphen
  at_7 : get_or text 7 0 ≡ hyphen
  at_10 : get_or text 10 0 ≡ letter_t
  at_13 : get_or text 13 0 ≡ colon
  at_16 : get_or text 16 0 ≡ colon
  at_19 : get_or text 19 0 ≡ letter_z

marks : (text : List ℕ) → is_marked text ≡ true → IsMarked text
marks text e =
    let p19 = and_parts _ _ e in
    let p16 = and_parts _ _ p19.0 in
    let p13 = and_parts _ _ p16.0 in
    let p10 = and_parts _ _ p13.0 in
    let p7 = and_parts _ _ p10.0 in
    let p4 = and_parts _ _ p7.0 in
    record {
      size = eqb-true (length text) 20 p4.0;
      at_4 = eqb-true (get_or text 4 0) hyphen p4.1;
      at_7 = eqb-true (get_or text 7 0) hyphen p7.1;
      at_10 = eqb-true (get_or text 10 0) letter_t p10.1;
      at_13 = eqb-true (get_or text 13 0) colon p13.1;
      at_16 = eqb-true (get_or text 16 0) colon p16.1;
      at_19 = eqb-true (get_or text 19 0) letter_z p19.1;
    }

part : (text : List ℕ) (at n next mark : ℕ) → at + n < length text → at + (n + 1) ≡ next → get_or text (at + n) 0 ≡ mark
    → drop at text ≡ take n (drop at text) ++ mark ∷ drop next text
part text at n next mark within behind is =
    let inside : n < length (drop at text) = omega (arith, length-drop {A = ℕ}) in
    let split = split_at (drop at text) n 0 inside in
    let found : get_or (drop at text) n 0 ≡ mark = get_or-drop at text n 0 ∙ is in
    let rest : drop (n + 1) (drop at text) ≡ drop next text = drop-drop (n + 1) at text ∙ ap (λ k. drop k text) behind in
    rw (← found, ← rest, add-one) split

pub marked_text : (text : List ℕ) → is_marked text ≡ true → text ≡ instant_text (parts_of text)
marked_text text e =
    let m = marks text e in
    let size = m.size in
    let end : drop 20 text ≡ [] = drop_of_length-le text {i = 20} (omega arith) in
    let second = part text 17 2 20 letter_z (omega arith) refl m.at_19 ∙ ap (λ l. take 2 (drop 17 text) ++ letter_z ∷ l) end in
    let minute = part text 14 2 17 colon (omega arith) refl m.at_16 ∙ ap (λ l. take 2 (drop 14 text) ++ colon ∷ l) second in
    let hour = part text 11 2 14 colon (omega arith) refl m.at_13 ∙ ap (λ l. take 2 (drop 11 text) ++ colon ∷ l) minute in
    let day = part text 8 2 11 letter_t (omega arith) refl m.at_10 ∙ ap (λ l. take 2 (drop 8 text) ++ letter_t ∷ l) hour in
    let month = part text 5 2 8 hyphen (omega arith) refl m.at_7 ∙ ap (λ l. take 2 (drop 5 text) ++ hyphen ∷ l) day in
    let year : text ≡ take 4 text ++ hyphen ∷ drop 5 text = rw (← m.at_4) (split_at text 4 0 (omega arith)) in
    year ∙ ap (λ l. take 4 text ++ hyphen ∷ l) month

long : (text : List ℕ) (at n : ℕ) → at + n ≤ length text → length (take n (drop at text)) ≡ n
long text at n within = length-take-le n (drop at text) (omega (arith, length-drop {A = ℕ}))

pub marked_lengths : (text : List ℕ) → is_marked text ≡ true → HasLengths (parts_of text)
marked_lengths text e =
    let size = (marks text e).size in
    record {
      year = length-take-le 4 text (omega arith);
      month = long text 5 2 (omega arith);
      day = long text 8 2 (omega arith);
      hour = long text 11 2 (omega arith);
      minute = long text 14 2 (omega arith);
      second = long text 17 2 (omega arith);
    }

-- ---- what is read of the parts

-- a text that is cut without its marks is no instant
pub unmarked : (text : List ℕ) (i : InstantText) → false ≡ is_marked text → IsInstant text i → ⊥
unmarked text i none is = true≢false (sym (none ∙ (instant_cuts text i is).marked))

pub day_is_cut : (text : List ℕ) (i : InstantText) → IsInstant text i → IsDay (take 4 text) (take 2 (drop 5 text)) (take 2 (drop 8 text))
day_is_cut text i is =
    let cut = instant_cuts text i is in
    rw (cut.year_at, cut.month_at, cut.day_at) is.date

pub time_is_cut : (text : List ℕ) (i : InstantText) → IsInstant text i → IsTime (take 2 (drop 11 text)) (take 2 (drop 14 text)) (take 2 (drop 17 text))
time_is_cut text i is =
    let cut = instant_cuts text i is in
    rw (cut.hour_at, cut.minute_at, cut.second_at) is.time

pub moment_is_cut : (text : List ℕ) (i : InstantText) → IsInstant text i → moment_of (parts_of text) ≡ moment_of i
moment_is_cut text i is =
    let cut = instant_cuts text i is in
    rw (cut.year_at, cut.month_at, cut.day_at, cut.hour_at, cut.minute_at, cut.second_at) refl

pub parts_are_instant : (text : List ℕ) → is_marked text ≡ true → IsDay (take 4 text) (take 2 (drop 5 text)) (take 2 (drop 8 text))
    → IsTime (take 2 (drop 11 text)) (take 2 (drop 14 text)) (take 2 (drop 17 text)) → IsInstant text (parts_of text)
parts_are_instant text marked day time = record { written = marked_text text marked; lengths = marked_lengths text marked; date = day; time = time }
