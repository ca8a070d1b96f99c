-- Values that say how long, or when.
use Rattle.std.specs.Prelude.{ℕ, Option}
use Rattle.std.specs.Option.{option_and_then}
use Rattle.toml.specs.Data.{Data, as_str}
use Rattle.ht_base.specs.declared.moment.Moment.{Moment}
use Rattle.ht_base.specs.Periods as periods
use Rattle.ht_entries.specs.Instants as instants

-- the milliseconds of a period's text
abbrev pub period_of : Data → Option ℕ
period_of d = option_and_then periods.period_of (as_str d)

-- the moment of an instant's text
abbrev pub instant_of : Data → Option Moment
instant_of d = option_and_then instants.instant_of (as_str d)
