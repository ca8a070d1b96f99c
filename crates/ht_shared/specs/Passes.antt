-- What a client sees of a turn lock and its passes.
use Rattle.std.specs.Prelude.{◌≡◌, ◌⊎◌, ℕ, ◌-◌, ◌^◌, ◌≤◌, max, List, [], ◌∷◌, ◌++◌, Option, Some, Contains}
use mathlib.Core.List.{IsPrefix}
use Rattle.atomic_table.specs.Seated.{TableId}
use Rattle.ht_base.specs.History.{Entry, IsLegal, own}
use Rattle.ht_shared.specs.Plays.{made}

-- a turn lock: which one it is, and the machine at the beginning
pub record SharedOf (S : Type 0) : Type 0 where
  pub table : TableId
  pub start : S

pub record PassOf (S E R : Type 0) : Type 0 where
  -- the turn lock that it is of, and the machine at its beginning
  pub table : TableId
  pub start : Option S
  pub number : ℕ
  -- the history up to the last call of this pass, or of a pass that was joined into it
  pub seen : List (Entry S E R)
  -- the numbers of the passes that were joined into it
  pub ended : List ℕ
  -- how many tickets were drawn, and how many calls were entered, as it found them where no ticket
  -- was left
  pub drawn : ℕ
  pub found : ℕ
  -- how many passes were given, the first one included, which the first pass alone knows
  pub given : ℕ

module _ {S E R : Type 0} where
  -- the pass is of this turn lock
  abbrev pub IsOf : SharedOf S → PassOf S E R → Type 0
  IsOf shared pass = (pass.table ≡ shared.table) × (pass.start ≡ Some shared.start)

  -- what no call changes
  pub record IsSamePass (old new : PassOf S E R) : Type 0 where
    pub table : new.table ≡ old.table
    pub start : new.start ≡ old.start
    pub number : new.number ≡ old.number
    pub ended : new.ended ≡ old.ended
    pub given : new.given ≡ old.given

  -- one call was made
  pub record Called (relates : S → E → R → S → Type 0) (start : S) (old : PassOf S E R) (event : E) (reply : R) (new : PassOf S E R) : Type 0 where
    -- the machine behind it, and the calls of others since what the pass had seen
    pub after : S
    pub between : List (Entry S E R)
    -- what is seen goes on from what was seen, and ends with this call
    pub seen : new.seen ≡ (old.seen ++ between) ++ made old.number event reply after ∷ []
    -- it is a legal history from the beginning
    pub legal : IsLegal relates start new.seen
    -- the pass has made this one call more
    pub mine : own old.number new.seen ≡ own old.number old.seen ++ made old.number event reply after ∷ []
    -- and the passes that were joined into it none
    pub theirs : (n : ℕ) → Contains old.ended n → own n new.seen ≡ own n old.seen
    pub same : new ≡ record old { seen = new.seen }

  -- no ticket is left: 2^63 were drawn, and all calls were entered but those that still wait
  pub record IsSpent (old new : PassOf S E R) : Type 0 where
    pub drawn : 2 ^ 63 ≤ new.drawn
    pub found : 2 ^ 63 - 2 ^ 32 ≤ new.found
    pub same : new ≡ record old { drawn = new.drawn; found = new.found }

  -- the first pass of a turn lock, which has seen nothing
  abbrev pub first_of : SharedOf S → PassOf S E R
  first_of shared = record { table = shared.table; start = Some shared.start; number = 0; seen = []; ended = []; drawn = 0; found = 0; given = 1 }

  -- the pass that is given next: its number is how many were given, and it has seen what the first
  -- pass has
  abbrev pub given_by : PassOf S E R → PassOf S E R
  given_by first = record { table = first.table; start = first.start; number = first.given; seen = first.seen; ended = []; drawn = 0; found = 0; given = 0 }

  -- the other pass was joined into the old one
  pub record Joined (old other new : PassOf S E R) : Type 0 where
    -- what is seen is what one of the two had seen, and goes on from what both had
    pub seen : (new.seen ≡ old.seen) ⊎ (new.seen ≡ other.seen)
    pub begins : IsPrefix old.seen new.seen
    pub continues : IsPrefix other.seen new.seen
    -- of the calls of their numbers there is none more
    pub mine : (n : ℕ) → Contains (old.number ∷ old.ended) n → own n new.seen ≡ own n old.seen
    pub theirs : (n : ℕ) → Contains (other.number ∷ other.ended) n → own n new.seen ≡ own n other.seen
    pub same : new ≡ record old { seen = new.seen; ended = old.ended ++ (other.number ∷ other.ended); drawn = max old.drawn other.drawn; found = max old.found other.found }
