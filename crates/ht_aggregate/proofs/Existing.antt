-- Each aggregate has a result.
use Rattle.std.proofs.Common.{◌≡◌, ◌*◌, zero, suc, ◌<◌, ◌≤◌, ℕ, ℤ, pos, Bool, true, false, max, min, List, [], ◌∷◌, length, fold, take, drop, Option, Some, None, MatchOption, refl, sym, ap, ◌∙◌, subst, ◌⊎◌, inl, inr, arith, length-take, take-append-drop}
use Rattle.std.specs.Prelude.{unwrap_or}
use Rattle.std.specs.Int.{int_div_euclid}
use Rattle.std.specs.List.{reduce}
use Rattle.std.specs.Str.{IsUtf8, is_utf8}
use Rattle.std.proofs.lemmas.Bool.{cases_Bool, cases_eq, cases_lt, both_ways, false≢true}
use Rattle.std.proofs.lemmas.List.Prefix.{front_fits}
use Rattle.std.proofs.lemmas.Str.{IsUtf8-from_is_utf8, IsUtf8-nil, is_utf8-from_IsUtf8}
use Rattle.ht_base.specs.Integers.{clamped}
use Rattle.ht_base.specs.declared.limits.TheConstants.{LONGEST_TEXT}
use Rattle.ht_base.specs.declared.how.How.{How}
use Rattle.ht_base.specs.declared.how.How.TheVariants as how
use Rattle.ht_base.specs.declared.value.Value.{Value}
use Rattle.ht_base.specs.declared.value.Value.TheVariants.{Text, Int, Truth}
use Rattle.ht_aggregate.specs.Aggregates.{IsAggregate, IsNumberOf, IsText, IsTruth}
use Rattle.ht_aggregate.specs.Frequencies.{IsElected, IsLeastFrequent, IsMostFrequent, IsOneOrEmpty, times}
use Rattle.ht_aggregate.specs.Given.{numbers, texts, truths}
use Rattle.ht_aggregate.specs.Joining.{Begins, IsCut, joined}
use Rattle.ht_aggregate.specs.Numbers.{IsAverage, IsGreatest, IsLeast, total}
use Rattle.ht_aggregate.specs.Searching.{IsOneOrNone, OccursAlone, counts}
use Rattle.ht_aggregate.specs.Truths.{AreAllTrue, AreForTrue, IsAnyTrue, falses, trues}
use Rattle.ht_aggregate.proofs.Averages.{average_of}
use Rattle.ht_aggregate.proofs.Counted.{all_counted, counted_all, counted_true, true_counted}
use Rattle.ht_aggregate.proofs.Cuts.{front_is}
use Rattle.ht_aggregate.proofs.Extremes.{greater, greatest_of, least_of, lesser}
use Rattle.ht_aggregate.proofs.Ranked.{IsOneOrNone-like, alone_is_least, alone_is_most, elected_by, least_is_alone, most_is_alone, not_elected}
use Rattle.ht_aggregate.proofs.Results.{one_or_empty}
use Rattle.ht_aggregate.proofs.Sought.{IsSought, is_other, sought_all, sought_first, sought_found, sought_past, sought_two}

-- ---- texts that are joined

-- the longest beginning, where none that is longer than so many bytes is within the most
cut_within : (most : ℕ) (whole : List ℕ) (n : ℕ) → n ≤ most
    → ((longer : List ℕ) → Begins whole longer → IsUtf8 longer → n < length longer → most < length longer)
    → (t : List ℕ) × IsCut most whole t
cut_within most whole zero within beyond = (
  [],
  record {
    begins = (whole, refl);
    characters = IsUtf8-nil;
    within = within;
    longest = beyond;
  },
)
cut_within most whole (suc n) within beyond =
    let front = take (suc n) whole in
    let size : length front ≡ min (suc n) (length whole) = length-take (suc n) whole in
    elim (cases_Bool (is_utf8 front)) [
      | inl characters ↦ (
        front,
        record {
          begins = (drop (suc n) whole, sym (take-append-drop (suc n) whole));
          characters = IsUtf8-from_is_utf8 front characters;
          within = omega (arith, size);
          longest = λ longer starts utf8 more.
              let room = front_fits whole longer starts.0 starts.1 in
              beyond longer starts utf8 (omega (arith, size));
        },
      )
      | inr broken ↦ cut_within most whole n (omega arith) (λ longer starts utf8 more.
          elim (cases_eq (length longer) (suc n)) [
            | inl same ↦
                let is : front ≡ longer = ap (λ k. take k whole) (sym same) ∙ front_is whole longer starts.0 starts.1 in
                absurd (both_ways (is_utf8 front) broken (is_utf8-from_IsUtf8 front (subst IsUtf8 (sym is) utf8)))
            | inr other ↦ beyond longer starts utf8 (omega arith)
          ])
    ]

cut_exists : (most : ℕ) (whole : List ℕ) → (t : List ℕ) × IsCut most whole t
cut_exists most whole = cut_within most whole most (omega arith) (λ longer starts utf8 more. more)

text_of_cut : (whole : List ℕ) → (r : Option Value) × IsText (IsCut LONGEST_TEXT whole) r
text_of_cut whole = let cut = cut_exists LONGEST_TEXT whole in (Some (Text cut.0), cut.1)

-- ---- texts that are found

sought_exists : (all : List (List ℕ)) (count : ℕ) (found : Option (List ℕ)) (rest : List (List ℕ)) → IsSought all count found rest
    → (o : Option (List ℕ)) × IsOneOrNone (OccursAlone all count) o
sought_exists all count found [] h = (found, sought_all all count found h)
sought_exists all count found (y ∷ rest) h =
    elim (cases_eq (times y all) count) [
      | inl counts ↦ elim (cases_Bool (is_other found y)) [
        | inl other ↦ (None, sought_two all count found y rest h counts other)
        | inr none ↦ sought_exists all count (Some y) rest (sought_found all count found y rest h counts none)
      ]
      | inr apart ↦ sought_exists all count found rest (sought_past all count found y rest h apart)
    ]

alone_exists : (ts : List (List ℕ)) (count : ℕ) → (o : Option (List ℕ)) × IsOneOrNone (OccursAlone ts count) o
alone_exists ts count = sought_exists ts count None ts (sought_first ts count)

most_exists : (ts : List (List ℕ)) → (o : Option (List ℕ)) × IsOneOrNone (IsMostFrequent ts) o
most_exists ts =
    let count = fold max 0 (counts ts) in
    let found = alone_exists ts count in
    (found.0, IsOneOrNone-like (OccursAlone ts count) (IsMostFrequent ts) (alone_is_most ts) (most_is_alone ts) found.0 found.1)

least_exists : (ts : List (List ℕ)) → (o : Option (List ℕ)) × IsOneOrNone (IsLeastFrequent ts) o
least_exists ts =
    let count = fold min (length ts) (counts ts) in
    let found = alone_exists ts count in
    (found.0, IsOneOrNone-like (OccursAlone ts count) (IsLeastFrequent ts) (alone_is_least ts (length ts)) (λ t. least_is_alone ts (length ts) t (omega arith)) found.0 found.1)

elected_among : (percent : ℕ) (ts : List (List ℕ)) (o : Option (List ℕ)) → IsOneOrNone (IsMostFrequent ts) o → (e : Option (List ℕ)) × IsOneOrNone (IsElected percent ts) e
elected_among percent ts None none = (None, λ t h. none t h.most)
elected_among percent ts (Some t) most =
    elim (cases_lt (percent * length ts) (100 * times t ts)) [
      | inl enough ↦ (Some t, elected_by percent (length ts) (times t ts) ts t refl refl most enough)
      | inr few ↦ (None, not_elected percent (length ts) (times t ts) ts t refl refl most (λ enough. omega arith))
    ]

elected_exists : (percent : ℕ) (ts : List (List ℕ)) → (o : Option (List ℕ)) × IsOneOrNone (IsElected percent ts) o
elected_exists percent ts = let most = most_exists ts in elected_among percent ts most.0 most.1

text_of_found : (P : List ℕ → Type 0) → (o : Option (List ℕ)) × IsOneOrNone P o → (r : Option Value) × IsText (IsOneOrEmpty P) r
text_of_found P found = (Some (Text (unwrap_or found.0 [])), one_or_empty P found.0 found.1 (unwrap_or found.0 []) refl)

-- ---- truth values

truth_of : (fact : Type 0) → fact ⊎ (fact → ⊥) → (r : Option Value) × IsTruth fact r
truth_of fact (inl holds) = (Some (Truth true), (λ _. holds, λ _. refl))
truth_of fact (inr fails) = (Some (Truth false), (λ e. absurd (false≢true e), λ h. absurd (fails h)))

any_or_not : (ts : List Bool) → IsAnyTrue ts ⊎ (IsAnyTrue ts → ⊥)
any_or_not ts = elim (cases_lt 0 (trues ts)) [ inl some ↦ inl (counted_true ts some) | inr none ↦ inr (λ h. omega (arith, true_counted ts h)) ]

all_or_not : (ts : List Bool) → AreAllTrue ts ⊎ (AreAllTrue ts → ⊥)
all_or_not ts =
    elim (cases_lt 0 (trues ts)) [
      | inl some ↦ elim (cases_eq (falses ts) 0) [ inl none ↦ inl (all_counted ts some none) | inr one ↦ inr (λ h. one (counted_all ts h).1) ]
      | inr none ↦ inr (λ h. omega (arith, (counted_all ts h).0))
    ]

for_or_not : (percent : ℕ) (ts : List Bool) → AreForTrue percent ts ⊎ (AreForTrue percent ts → ⊥)
for_or_not percent ts =
    elim (cases_lt (falses ts) (trues ts)) [
      | inl more ↦ elim (cases_lt (percent * length ts) (100 * trues ts)) [
        | inl enough ↦ inl (record { most = more; enough = enough })
        | inr few ↦ inr (λ h. omega (arith, h.enough))
      ]
      | inr fewer ↦ inr (λ h. omega (arith, h.most))
    ]

-- ---- numbers

number_of : (P : List ℤ → ℤ → Type 0) (ns : List ℤ) (o : Option ℤ) → MatchOption o (ns ≡ []) (P ns) → (r : Option Value) × IsNumberOf P ns r
number_of P ns None none = (None, none)
number_of P ns (Some n) one = (Some (Int n), one)

average_exists : (ns : List ℤ) → (r : Option Value) × IsNumberOf IsAverage ns r
average_exists [] = (None, refl)
average_exists (n ∷ ns) =
    let all = n ∷ ns in
    let quotient = int_div_euclid (total all) (pos (length all)) in
    (Some (Int quotient), average_of all (total all) quotient (length all) refl refl (omega arith) refl)

-- ---- all of them

pub some_result : (h : How) (vs : List Value) → (r : Option Value) × IsAggregate h vs r
some_result how.Concat vs = text_of_cut (joined [] (texts vs))
some_result (how.ConcatWithDelimiter d) vs = text_of_cut (joined d (texts vs))
some_result how.MostFrequent vs = text_of_found (IsMostFrequent (texts vs)) (most_exists (texts vs))
some_result how.LeastFrequent vs = text_of_found (IsLeastFrequent (texts vs)) (least_exists (texts vs))
some_result (how.VoteOnString percent) vs = text_of_found (IsElected percent (texts vs)) (elected_exists percent (texts vs))
some_result how.And vs = truth_of (AreAllTrue (truths vs)) (all_or_not (truths vs))
some_result how.Or vs = truth_of (IsAnyTrue (truths vs)) (any_or_not (truths vs))
some_result (how.Vote percent) vs = truth_of (AreForTrue percent (truths vs)) (for_or_not percent (truths vs))
some_result how.Min vs = number_of IsLeast (numbers vs) (reduce lesser (numbers vs)) (least_of (numbers vs) _ refl)
some_result how.Max vs = number_of IsGreatest (numbers vs) (reduce greater (numbers vs)) (greatest_of (numbers vs) _ refl)
some_result how.Sum vs = (Some (Int (clamped (total (numbers vs)))), refl)
some_result how.Avg vs = average_exists (numbers vs)
