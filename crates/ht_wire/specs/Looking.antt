-- What a look at the bytes so far says of them.
use Rattle.std.specs.Prelude.{◌⊎◌, ℕ, ◌≤◌, List, length}
use Rattle.httparse.specs.declared.spans.HeaderSpan.{HeaderSpan}
use Rattle.httparse.specs.Grammar.{RequestHead, HasNoRequest, NeverHasRequest, MayBecomeRequest}
use Rattle.httparse.specs.Spans.{IsRequestAt, IsRequestWithin, RequestExceeds, RequestOverflows}
use Rattle.ht_wire.specs.declared.limits.TheConstants.{LONGEST_HEAD, MOST_FIELDS}
use Rattle.ht_wire.specs.declared.looking.Sight.{Sight}
use Rattle.ht_wire.specs.declared.looking.Sight.TheVariants.{Head, TooLong, NoHead, Blank, Partial}
use Rattle.ht_wire.specs.Heads.{IsBegun, IsEnd}

abbrev pub Sees : List ℕ → List HeaderSpan → Sight → Type 0
Sees bytes headers (Head r) = (IsEnd bytes → ⊥) × IsRequestWithin bytes headers r × ((h : RequestHead) × IsRequestAt bytes headers r h × (length h.fields ≤ MOST_FIELDS))
Sees bytes headers TooLong =
    (IsEnd bytes → ⊥)
    × ((RequestExceeds MOST_FIELDS bytes × RequestOverflows MOST_FIELDS bytes) ⊎ ((LONGEST_HEAD ≤ length bytes) × HasNoRequest bytes × MayBecomeRequest bytes))
Sees bytes headers NoHead = (IsEnd bytes → ⊥) × NeverHasRequest bytes
Sees bytes headers Blank = IsEnd bytes
Sees bytes headers Partial = (IsEnd bytes → ⊥) × IsBegun bytes
