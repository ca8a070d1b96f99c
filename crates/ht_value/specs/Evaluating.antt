-- What the functions that evaluate hold, and what a contract sees of it.
use Rattle.ht_value.specs.declared.evaluating.Held.{Held}
use Rattle.ht_value.specs.declared.evaluating.Held.TheVariants as held
use Rattle.ht_value.specs.Values.{Outcome, a_text, a_number, a_truth, a_person, a_moment, nothing}

abbrev pub outcome : Held → Outcome
outcome (held.Text x) = a_text x.now
outcome (held.Number n) = a_number n
outcome (held.Truth b) = a_truth b
outcome (held.Person p) = a_person p
outcome (held.Instant m) = a_moment m.0
outcome held.Nothing = nothing
