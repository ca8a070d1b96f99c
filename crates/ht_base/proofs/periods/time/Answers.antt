use Rattle.std.proofs.Common.{[], ap, Some}
use Rattle.ht_base.specs.Periods.{Begins, letter_s}
use Rattle.ht_base.proofs.PeriodTexts.{is_nil, not_nil, time_is_read, read_is_time, time_small}
use Rattle.ht_base.proofs.periods.time.Goals as goal
use Rattle.ht_base.proofs.periods.time.Goals.{then-is_empty-via-then-is_empty, then-is_empty-via-else-is_empty+then-not-is_empty}

pub returns-then-is_empty-clause-reads : goal.returns-then-is_empty-clause-reads
returns-then-is_empty-clause-reads c = λ t is text.
    let read = time_is_read t _ _ _ _ _ _ _ c.amount-hours.ensures c.amount-minutes.ensures c.amount-seconds.ensures is text in
    elim c.then-is_empty.branch [
      | then-is_empty-via-then-is_empty w ↦ absurd (read.some (is_nil c.args.bytes.now w.if-is_empty.ensures))
      | then-is_empty-via-else-is_empty+then-not-is_empty w ↦ absurd (not_nil c.amount-seconds.result.1.now w.if-not-is_empty.ensures read.whole)
    ]

pub returns-clause-reads : goal.returns-clause-reads
returns-clause-reads c = λ t is text.
    rw (c.from.ensures, c.from-2.ensures, c.from-3.ensures)
    (ap Some (time_is_read t _ _ _ _ _ _ _ c.amount-hours.ensures c.amount-minutes.ensures c.amount-seconds.ensures is text).value)

pub returns-clause-exact : goal.returns-clause-exact
returns-clause-exact c =
    let end = is_nil c.amount-seconds.result.1.now c.if-not-is_empty.ensures in
    let third : Begins letter_s c.amount-minutes.result.1.now c.amount-seconds.result.0 [] = rw end at c.amount-seconds.ensures in
    rw (c.from.ensures, c.from-2.ensures, c.from-3.ensures)
    (read_is_time _ _ _ _ _ _ c.amount-hours.ensures c.amount-minutes.ensures third (not_nil c.args.bytes.now c.if-is_empty.ensures))

pub returns-clause-most : goal.returns-clause-most
returns-clause-most c =
    rw (c.from.ensures, c.from-2.ensures, c.from-3.ensures)
    (time_small _ _ _ _ _ _ _ c.amount-hours.ensures c.amount-minutes.ensures c.amount-seconds.ensures)
