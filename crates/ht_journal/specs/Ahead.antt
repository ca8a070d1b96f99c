-- How far a file is lengthened before a body is written, so that the writes of the next ones stay within it.
use Rattle.std.specs.Prelude.{ℕ, ◌+◌, min, nat_le, Option, Some, None, if◌then◌else◌}
use Rattle.ht_journal.specs.declared.limits.TheConstants.{AHEAD}

-- Where a file is lengthened ahead, and was so far: how far it is lengthened for what ends at a place. Not at all where it
-- reaches to there, and never past the limit
abbrev pub far : Option ℕ → ℕ → ℕ → ℕ
far None limit end = 0
far (Some reach) limit end = if nat_le end reach then 0 else min (end + AHEAD) limit

-- how far it was lengthened then
abbrev pub reached : Option ℕ → ℕ → ℕ → Option ℕ
reached None limit end = None
reached (Some reach) limit end = if nat_le end reach then Some reach else Some (min (end + AHEAD) limit)
