-- A failure has a cause: the object's count of faults rose in the call that failed.
use Rattle.std.specs.Prelude.{ℕ, ◌+◌, ◌-◌, ◌^◌, ◌≤◌, min, Result, OnErr}

-- one more, up to the greatest number of 64 bits, where a count stops
abbrev pub next_count : ℕ → ℕ
next_count n = min (n + 1) (2 ^ 64 - 1)

-- the count rose, or stands where it stops
abbrev pub Rose : ℕ → ℕ → Type 0
Rose before now = next_count before ≤ now

-- a count never falls, and it rose where this holds of the call
pub record RoseWhere (Failed : Type 0) (before now : ℕ) : Type 0 where
  pub later : before ≤ now
  pub failed : Failed → Rose before now

-- a count never falls, and it rose where the call failed
pub record HasCause {T E : Type 0} (before now : ℕ) (result : Result T E) : Type 0 where
  pub later : before ≤ now
  pub failed : OnErr result (Rose before now)

-- The faults of two objects together: their sum, which stops where one count does. So it rose where one of the two counts
-- rose, and stands where it stops where one of them does
abbrev pub together : ℕ → ℕ → ℕ
together first second = min (first + second) (2 ^ 64 - 1)
