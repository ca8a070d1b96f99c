-- Of which kind a value is, and which values the results of sub tasks are made of (WS-HumanTask 1.1, 4.8).
use Rattle.ht_base.specs.declared.how.How.{How}
use Rattle.ht_base.specs.declared.how.How.TheVariants as how
use Rattle.ht_base.specs.declared.kind.Kind.{Kind}
use Rattle.ht_base.specs.declared.kind.Kind.TheVariants as kind
use Rattle.ht_base.specs.declared.value.Value.{Value}
use Rattle.ht_base.specs.declared.value.Value.TheVariants as values

abbrev pub kind_of_value : Value → Kind
kind_of_value (values.Text text) = kind.Text
kind_of_value (values.Int number) = kind.Int
kind_of_value (values.Truth truth) = kind.Truth
kind_of_value (values.Person person) = kind.Person
kind_of_value (values.Instant moment) = kind.Instant

-- the kind of the values that an aggregate takes, and of its result
abbrev pub kind_of_how : How → Kind
kind_of_how how.Concat = kind.Text
kind_of_how (how.ConcatWithDelimiter text) = kind.Text
kind_of_how how.MostFrequent = kind.Text
kind_of_how how.LeastFrequent = kind.Text
kind_of_how (how.VoteOnString percent) = kind.Text
kind_of_how how.And = kind.Truth
kind_of_how how.Or = kind.Truth
kind_of_how (how.Vote percent) = kind.Truth
kind_of_how how.Min = kind.Int
kind_of_how how.Max = kind.Int
kind_of_how how.Sum = kind.Int
kind_of_how how.Avg = kind.Int
