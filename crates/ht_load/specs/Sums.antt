-- How a load is told.
use Rattle.std.specs.Prelude.{ℕ, List, ◌++◌, codes, decimal}
use Rattle.ht_load.specs.declared.sums.Sums.{Sums}

abbrev pub sums_line : Sums → List ℕ
sums_line sums =
    codes "requests " ++ decimal sums.requests ++ codes " accepted " ++ decimal sums.accepted ++ codes " refused " ++ decimal sums.refused
    ++ codes " tasks " ++ decimal sums.tasks ++ codes "\n"
