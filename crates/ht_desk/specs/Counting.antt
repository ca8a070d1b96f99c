-- Counts, which stop at 18446744073709551615.
use Rattle.std.specs.Prelude.{ℕ, ◌+◌, ◌-◌, ◌^◌, min, Bool, true, false}
use Rattle.ht_base.specs.declared.event.Event.{Event}
use Rattle.ht_base.specs.declared.event.Event.TheVariants.{Ask, Read, Turn}
use Rattle.ht_desk.specs.declared.counts.Counts.{Counts}

abbrev pub no_counts : Counts
no_counts = record { turns = 0; accepted = 0; taken = 0 }

abbrev pub capped : ℕ → ℕ
capped n = min n (2 ^ 64 - 1)

-- a record joins the others, which is one of a command
abbrev pub with_joined : Counts → Bool → Counts
with_joined c true = record c { accepted = capped (c.accepted + 1) }
with_joined c false = c

-- so many timed actions were taken
abbrev pub with_taken : Counts → ℕ → Counts
with_taken c n = record c { taken = capped (c.taken + n) }

-- an event was replied to, before which so many were taken
abbrev pub replied : Counts → Event → ℕ → Counts
replied c (Turn at) n = record (with_taken c n) { turns = capped (c.turns + 1) }
replied c (Ask at caller retry task command) n = with_taken c n
replied c (Read caller what) n = with_taken c n
