-- What is due by a later moment may be taken in two turns.
use Rattle.std.proofs.Common.{◌≡◌, ◌≤◌, ℕ, List, [], ◌∷◌, ◌++◌, Some, arith}
use Rattle.ht_due.specs.declared.due.Due.{Due}
use Rattle.ht_machine.specs.Turning.{IsTurn, Takings}
use Rattle.ht_machine.specs.Turning.Takings.{end, on}
use Rattle.ht_machine.proofs.Filtered.{first_by, is_first_by}
use Rattle.ht_tree.specs.RowDues.{all_dues, first_due}
use Rattle.ht_tree.specs.Tables.{TablesOf}
use Rattle.ht_tree.proofs.PublicLaws.{all_dues_ascend}

first_later : (u : TablesOf) (m n : ℕ) (due : Due) → m ≤ n → first_due u m ≡ Some due → first_due u n ≡ Some due
first_later u m n due up first =
    let is = is_first_by m (all_dues u) due (all_dues_ascend u) first in
    let by = is.by in
    first_by n (all_dues u) due is.first (omega arith)

takings_later : (m n : ℕ) (u v : TablesOf) (ds : List Due) → m ≤ n → Takings m u ds v → Takings n u ds v
takings_later m n u v [] up end = end
takings_later m n u v (d ∷ ds) up (on {v = w} first takes rest) = on (first_later u m n d up first) takes (takings_later m n w v ds up rest)

takings_then : (n : ℕ) (u v w : TablesOf) (ds es : List Due) → Takings n u ds v → Takings n v es w → Takings n u (ds ++ es) w
takings_then n u v w [] es end more = more
takings_then n u v w (d ∷ ds) es (on {v = x} first takes rest) more = on first takes (takings_then n x v w ds es rest more)

pub turn_then : (m n : ℕ) (u v w : TablesOf) (ds es : List Due) → m ≤ n → IsTurn m u ds v → IsTurn n v es w → IsTurn n u (ds ++ es) w
turn_then m n u v w ds es up a b = record { takings = takings_then n u v w ds es (takings_later m n u v ds up a.takings) b.takings; ended = b.ended }
