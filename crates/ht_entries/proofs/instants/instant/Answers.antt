use Rattle.std.proofs.Common.{◌≡◌, ◌+◌, ◌*◌, ◌∙◌, sym, ap, Some, refl}
use Rattle.ht_entries.specs.Instants.{IsInstant, moment_of, parts_of}
use Rattle.ht_entries.proofs.InstantTexts.{unmarked, day_is_cut, time_is_cut, moment_is_cut, parts_are_instant}
use Rattle.ht_entries.proofs.Days.{counts}
use Rattle.ht_entries.proofs.instants.instant.Goals as goal

pub returns-then-not-is_marked-clause-reads : goal.returns-then-not-is_marked-clause-reads
returns-then-not-is_marked-clause-reads c = λ i is.
    let here : IsInstant c.as_bytes-bytes.result.now i = rw c.as_bytes-bytes.ensures.value is in
    absurd (unmarked _ i c.if-not-is_marked.ensures here)

pub returns-in_err-day-clause-reads : goal.returns-in_err-day-clause-reads
returns-in_err-day-clause-reads c = λ i is.
    let here : IsInstant c.as_bytes-bytes.result.now i = rw c.as_bytes-bytes.ensures.value is in
    absurd (c.in_err-day.ensures.exact (day_is_cut _ i here))

pub returns-in_err-time-clause-reads : goal.returns-in_err-time-clause-reads
returns-in_err-time-clause-reads c = λ i is.
    let here : IsInstant c.as_bytes-bytes.result.now i = rw c.as_bytes-bytes.ensures.value is in
    absurd (c.in_err-time.ensures.exact (time_is_cut _ i here))

pub returns-clause-reads : goal.returns-clause-reads
returns-clause-reads c = λ i is.
    let here : IsInstant c.as_bytes-bytes.result.now i = rw c.as_bytes-bytes.ensures.value is in
    let parts : c.from.result * 86400000 + c.in_ok-time.time ≡ moment_of (parts_of c.as_bytes-bytes.result.now) =
    rw (c.from.ensures, c.in_ok-day.ensures.exact.1, c.in_ok-time.ensures.exact.1) refl in
    ap (λ n. Some (record { 0 = n })) (parts ∙ moment_is_cut _ i here)

pub returns-clause-exact : goal.returns-clause-exact
returns-clause-exact c =
    let bytes = c.as_bytes-bytes.result.now in
    let here = parts_are_instant bytes (sym c.if-not-is_marked.ensures) c.in_ok-day.ensures.exact.0 c.in_ok-time.ensures.exact.0 in
    let is : IsInstant c.args.text.now (parts_of bytes) = rw (← c.as_bytes-bytes.ensures.value) here in
    (parts_of bytes, is, rw (c.from.ensures, c.in_ok-day.ensures.exact.1, c.in_ok-time.ensures.exact.1) refl)

pub returns-clause-since_1970 : goal.returns-clause-since_1970
returns-clause-since_1970 c = λ i is. counts _ _ _ is.date.since is.date.date
