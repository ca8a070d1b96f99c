-- What the result of an aggregate is: of its kind, and no longer than a text may be.
use Rattle.std.proofs.Common.{◌≡◌, ◌≤◌, ℕ, ℤ, List, [], Some, refl, ap, length, inl, inr, arith}
use Rattle.std.specs.List.{All, Contains}
use Rattle.std.proofs.lemmas.List.Elements.{All-contains}
use Rattle.ht_base.specs.Integers.{clamped}
use Rattle.ht_base.specs.Kinds.{kind_of_how, kind_of_value}
use Rattle.ht_base.specs.declared.limits.TheConstants.{LONGEST_TEXT}
use Rattle.ht_base.specs.declared.how.How.{How}
use Rattle.ht_base.specs.declared.how.How.TheVariants as how
use Rattle.ht_base.specs.declared.kind.Kind.TheVariants as kind
use Rattle.ht_base.specs.declared.value.Value.{Value}
use Rattle.ht_base.specs.declared.value.Value.TheVariants.{Text, Int, Truth}
use Rattle.ht_aggregate.specs.Aggregates.{IsAggregate, IsNumber, IsNumberOf, IsText, IsTruth}
use Rattle.ht_aggregate.specs.Frequencies.{IsElected, IsLeastFrequent, IsMostFrequent, IsOneOrEmpty}
use Rattle.ht_aggregate.specs.Given.{numbers, texts, truths}
use Rattle.ht_aggregate.specs.Joining.{IsCut, joined}
use Rattle.ht_aggregate.specs.Numbers.{IsAverage, IsGreatest, IsLeast, total}
use Rattle.ht_aggregate.specs.Truths.{AreAllTrue, AreForTrue, IsAnyTrue}

text_kind : (P : List ℕ → Type 0) (v : Value) → IsText P (Some v) → kind_of_value v ≡ kind.Text
text_kind P (Text t) h = refl
text_kind P _ h = absurd h

truth_kind : (fact : Type 0) (v : Value) → IsTruth fact (Some v) → kind_of_value v ≡ kind.Truth
truth_kind fact (Truth t) h = refl
truth_kind fact _ h = absurd h

sum_kind : (exact : ℤ) (v : Value) → IsNumber exact (Some v) → kind_of_value v ≡ kind.Int
sum_kind exact (Int n) h = refl
sum_kind exact _ h = absurd h

number_kind : (P : List ℤ → ℤ → Type 0) (ns : List ℤ) (v : Value) → IsNumberOf P ns (Some v) → kind_of_value v ≡ kind.Int
number_kind P ns (Int n) h = refl
number_kind P ns _ h = absurd h

pub result_kind : (h : How) (vs : List Value) (v : Value) → IsAggregate h vs (Some v) → kind_of_value v ≡ kind_of_how h
result_kind how.Concat vs v h = text_kind (IsCut LONGEST_TEXT (joined [] (texts vs))) v h
result_kind (how.ConcatWithDelimiter d) vs v h = text_kind (IsCut LONGEST_TEXT (joined d (texts vs))) v h
result_kind how.MostFrequent vs v h = text_kind (IsOneOrEmpty (IsMostFrequent (texts vs))) v h
result_kind how.LeastFrequent vs v h = text_kind (IsOneOrEmpty (IsLeastFrequent (texts vs))) v h
result_kind (how.VoteOnString percent) vs v h = text_kind (IsOneOrEmpty (IsElected percent (texts vs))) v h
result_kind how.And vs v h = truth_kind (AreAllTrue (truths vs)) v h
result_kind how.Or vs v h = truth_kind (IsAnyTrue (truths vs)) v h
result_kind (how.Vote percent) vs v h = truth_kind (AreForTrue percent (truths vs)) v h
result_kind how.Min vs v h = number_kind IsLeast (numbers vs) v h
result_kind how.Max vs v h = number_kind IsGreatest (numbers vs) v h
result_kind how.Sum vs v h = sum_kind (clamped (total (numbers vs))) v h
result_kind how.Avg vs v h = number_kind IsAverage (numbers vs) v h

-- ---- how long a text is

abbrev AreShort : List (List ℕ) → Type 0
AreShort ts = All (λ t. length t ≤ LONGEST_TEXT) ts

one_short : (P : List ℕ → Type 0) (ts : List (List ℕ)) → AreShort ts → ((t : List ℕ) → P t → Contains ts t) → (t : List ℕ) → IsOneOrEmpty P t → length t ≤ LONGEST_TEXT
one_short P ts short among t (inl one) = All-contains (λ x. length x ≤ LONGEST_TEXT) ts t short (among t one)
one_short P ts short among t (inr none) = omega (arith, ap length none.1)

pub result_short : (h : How) (vs : List Value) (t : List ℕ) → AreShort (texts vs) → IsAggregate h vs (Some (Text t)) → length t ≤ LONGEST_TEXT
result_short how.Concat vs t short h = h.within
result_short (how.ConcatWithDelimiter d) vs t short h = h.within
result_short how.MostFrequent vs t short h = one_short (IsMostFrequent (texts vs)) (texts vs) short (λ x one. one.occurs) t h
result_short how.LeastFrequent vs t short h = one_short (IsLeastFrequent (texts vs)) (texts vs) short (λ x one. one.occurs) t h
result_short (how.VoteOnString percent) vs t short h = one_short (IsElected percent (texts vs)) (texts vs) short (λ x one. one.most.occurs) t h
result_short how.And vs t short h = absurd h
result_short how.Or vs t short h = absurd h
result_short (how.Vote percent) vs t short h = absurd h
result_short how.Min vs t short h = absurd h
result_short how.Max vs t short h = absurd h
result_short how.Sum vs t short h = absurd h
result_short how.Avg vs t short h = absurd h
