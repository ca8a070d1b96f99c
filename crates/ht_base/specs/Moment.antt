-- Moments, in whole milliseconds since 1970-01-01T00:00:00Z.
use Rattle.std.specs.Prelude.{ℕ, ◌+◌, min}
use Rattle.ht_base.specs.declared.moment.Moment.{Moment}
use Rattle.ht_base.specs.declared.moment.TheConstants.{LAST}

-- the last moment there is, 9999-12-31T23:59:59.999Z
abbrev pub last_moment : ℕ
last_moment = LAST

-- so long after a moment, and at most the last moment
abbrev pub later_by : Moment → ℕ → Moment
later_by at period = record { 0 = min (at.0 + period) last_moment }
