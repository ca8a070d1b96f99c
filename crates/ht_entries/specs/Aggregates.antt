-- How the results of sub tasks become one value (WS-HumanTask 1.1, 4.8), by the word that names
-- it and what is given beside it.
use Rattle.std.specs.Prelude.{ℕ, nat_le, List, [], ◌∷◌, length, Option, Some, None, codes, option_map, if◌then◌else◌}
use Rattle.std.specs.Option.{option_and_then}
use Rattle.toml.specs.Data.{Data, as_str}
use Rattle.ht_base.specs.declared.limits.TheConstants.{LONGEST_DELIMITER}
use Rattle.ht_toml.specs.Values.{meaning, whole_of}
use Rattle.ht_base.specs.declared.how.How.{How}
use Rattle.ht_base.specs.declared.how.How.TheVariants as how

-- ---- what is given beside it

-- a percent is a whole number from 0 to 100
abbrev pub percent_of : Data → Option ℕ
percent_of d = whole_of 0 100 d

-- a delimiter is a short text
abbrev pub delimiter : List ℕ → Option (List ℕ)
delimiter text = if nat_le (length text) LONGEST_DELIMITER then Some text else None

abbrev pub delimiter_of : Data → Option (List ℕ)
delimiter_of d = option_and_then delimiter (as_str d)

-- ---- the words

-- with nothing beside it
abbrev pub alone : List (List ℕ × How)
alone =
    (codes "concat", how.Concat) ∷ (codes "mostFrequent", how.MostFrequent) ∷ (codes "leastFrequent", how.LeastFrequent)
    ∷ (codes "and", how.And) ∷ (codes "or", how.Or)
    ∷ (codes "min", how.Min) ∷ (codes "max", how.Max) ∷ (codes "sum", how.Sum) ∷ (codes "avg", how.Avg) ∷ []

-- with the percent that must be passed
abbrev pub by_percent : List (List ℕ × (ℕ → How))
by_percent = (codes "vote", how.Vote) ∷ (codes "voteOnString", how.VoteOnString) ∷ []

-- with the text between two others
abbrev pub by_delimiter : List (List ℕ × (List ℕ → How))
by_delimiter = (codes "concatWithDelimiter", how.ConcatWithDelimiter) ∷ []

-- percent is given exactly with vote and voteOnString, a delimiter exactly with concatWithDelimiter
abbrev pub how_of : List ℕ → Option ℕ → Option (List ℕ) → Option How
how_of word None None = meaning alone word
how_of word (Some percent) None = option_map (λ h. h percent) (meaning by_percent word)
how_of word None (Some text) = option_map (λ h. h text) (meaning by_delimiter word)
how_of word (Some percent) (Some text) = None
