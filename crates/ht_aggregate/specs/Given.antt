-- The values of one kind in a list of values, in its order.
use Rattle.std.specs.Prelude.{ℕ, ℤ, Bool, List, Option, Some, None}
use Rattle.std.specs.List.{filter_map}
use Rattle.ht_base.specs.declared.value.Value.{Value}
use Rattle.ht_base.specs.declared.value.Value.TheVariants.{Text, Int, Truth}

abbrev pub text_in : Value → Option (List ℕ)
text_in (Text text) = Some text
text_in _ = None

abbrev pub truth_in : Value → Option Bool
truth_in (Truth truth) = Some truth
truth_in _ = None

abbrev pub number_in : Value → Option ℤ
number_in (Int number) = Some number
number_in _ = None

abbrev pub texts : List Value → List (List ℕ)
texts values = filter_map text_in values

abbrev pub truths : List Value → List Bool
truths values = filter_map truth_in values

abbrev pub numbers : List Value → List ℤ
numbers values = filter_map number_in values
