use Rattle.std.proofs.Common.{◌∙◌, sym, arith}
use Rattle.ht_base.specs.Periods.{letter_d}
use Rattle.ht_base.proofs.Amounts.{small}
use Rattle.ht_base.proofs.PeriodTexts.{not_nil, days_are_read, read_is_period}
use Rattle.ht_base.proofs.periods.period.Goals as goal

pub returns-in_err-time-clause-reads : goal.returns-in_err-time-clause-reads
returns-in_err-time-clause-reads c = λ p is.
    let read = days_are_read p c.args.text.now _ _ _ (sym c.as_bytes.ensures.value ∙ c.in_ok-parts.ensures) c.amount-days.ensures is in
    absurd (cc (c.in_err-time.ensures.reads p.time is.time read.behind))

pub returns-clause-reads : goal.returns-clause-reads
returns-clause-reads c = λ p is.
    let read = days_are_read p c.args.text.now _ _ _ (sym c.as_bytes.ensures.value ∙ c.in_ok-parts.ensures) c.amount-days.ensures is in
    let time = c.in_ok-time.ensures.reads p.time is.time read.behind in
    rw (c.from.ensures, read.value) cc

pub returns-clause-exact : goal.returns-clause-exact
returns-clause-exact c =
    rw (c.from.ensures)
    (read_is_period c.args.text.now _ _ _ _ (sym c.as_bytes.ensures.value ∙ c.in_ok-parts.ensures) (not_nil _ c.if-is_empty.ensures) c.amount-days.ensures c.in_ok-time.ensures.exact)

pub returns-clause-most : goal.returns-clause-most
returns-clause-most c =
    let few = small letter_d _ _ _ c.amount-days.ensures in
    let most = c.in_ok-time.ensures.most in
    let days = c.from.ensures in
    omega (arith, few, most, days)
