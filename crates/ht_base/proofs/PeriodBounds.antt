-- No text of a period gives more than the longest.
use Rattle.std.proofs.Common.{◌≡◌, ℕ, ◌≤◌, List, Option, Some, None, arith}
use Rattle.std.specs.Prelude.{IfSome}
use Rattle.ht_base.proofs.Amounts.{amount_small}
use Rattle.ht_base.proofs.PeriodCuts.{period_exact}
use Rattle.ht_base.specs.declared.limits.TheConstants.{LONGEST_PERIOD}
use Rattle.ht_base.specs.Periods.{IsTime, TimeText, marked_time_millis, period_of}

time_short : (t : Option TimeText) → IfSome t IsTime → marked_time_millis t ≤ 3660996339000
time_short None h = omega arith
time_short (Some t) h = omega (arith, amount_small t.hours h.hours, amount_small t.minutes h.minutes, amount_small t.seconds h.seconds)

pub period_short : (text : List ℕ) (ms : ℕ) → period_of text ≡ Some ms → ms ≤ LONGEST_PERIOD
period_short text ms e =
    let p = period_exact text ms e in
    omega (arith, p.2, amount_small p.0.days p.1.days, time_short p.0.time p.1.time)
