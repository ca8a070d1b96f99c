-- What becomes of the values of sub tasks, for each aggregate (WS-HumanTask 1.1, 4.8).
use Rattle.std.specs.Prelude.{◌≡◌, ◌↔◌, ℕ, ℤ, List, [], Option, Some, None, IsTrue}
use Rattle.ht_base.specs.Integers.{clamped}
use Rattle.ht_base.specs.declared.limits.TheConstants.{LONGEST_TEXT}
use Rattle.ht_base.specs.declared.how.How.{How}
use Rattle.ht_base.specs.declared.how.How.TheVariants as how
use Rattle.ht_base.specs.declared.value.Value.{Value}
use Rattle.ht_base.specs.declared.value.Value.TheVariants.{Text, Int, Truth}
use Rattle.ht_aggregate.specs.Frequencies.{IsElected, IsLeastFrequent, IsMostFrequent, IsOneOrEmpty}
use Rattle.ht_aggregate.specs.Given.{numbers, texts, truths}
use Rattle.ht_aggregate.specs.Joining.{IsCut, joined}
use Rattle.ht_aggregate.specs.Numbers.{IsAverage, IsGreatest, IsLeast, total}
use Rattle.ht_aggregate.specs.Truths.{AreAllTrue, AreForTrue, IsAnyTrue}

-- a text with this property
abbrev pub IsText : (List ℕ → Type 0) → Option Value → Type 0
IsText Holds (Some (Text text)) = Holds text
IsText Holds _ = ⊥

-- the truth of this fact
abbrev pub IsTruth : Type 0 → Option Value → Type 0
IsTruth fact (Some (Truth truth)) = IsTrue truth ↔ fact
IsTruth fact _ = ⊥

abbrev pub IsNumber : ℤ → Option Value → Type 0
IsNumber exact (Some (Int number)) = number ≡ exact
IsNumber exact _ = ⊥

-- a number with this property among these; of no numbers it is none
abbrev pub IsNumberOf : (List ℤ → ℤ → Type 0) → List ℤ → Option Value → Type 0
IsNumberOf Holds numbers (Some (Int number)) = Holds numbers number
IsNumberOf Holds numbers None = numbers ≡ []
IsNumberOf Holds numbers _ = ⊥

abbrev pub IsAggregate : How → List Value → Option Value → Type 0
IsAggregate how.Concat values result = IsText (IsCut LONGEST_TEXT (joined [] (texts values))) result
IsAggregate (how.ConcatWithDelimiter delimiter) values result = IsText (IsCut LONGEST_TEXT (joined delimiter (texts values))) result
IsAggregate how.MostFrequent values result = IsText (IsOneOrEmpty (IsMostFrequent (texts values))) result
IsAggregate how.LeastFrequent values result = IsText (IsOneOrEmpty (IsLeastFrequent (texts values))) result
IsAggregate (how.VoteOnString percent) values result = IsText (IsOneOrEmpty (IsElected percent (texts values))) result
IsAggregate how.And values result = IsTruth (AreAllTrue (truths values)) result
IsAggregate how.Or values result = IsTruth (IsAnyTrue (truths values)) result
IsAggregate (how.Vote percent) values result = IsTruth (AreForTrue percent (truths values)) result
IsAggregate how.Min values result = IsNumberOf IsLeast (numbers values) result
IsAggregate how.Max values result = IsNumberOf IsGreatest (numbers values) result
IsAggregate how.Sum values result = IsNumber (clamped (total (numbers values))) result
IsAggregate how.Avg values result = IsNumberOf IsAverage (numbers values) result

-- it gives nothing of no values
abbrev pub NeedsValues : How → Type 0
NeedsValues how.Min = Unit {0}
NeedsValues how.Max = Unit {0}
NeedsValues how.Avg = Unit {0}
NeedsValues _ = ⊥
