use Rattle.ht_base.proofs.PeriodTexts.{marked_exact}
use Rattle.ht_base.proofs.periods.marked_time.Goals as goal

pub returns-clause-exact : goal.returns-clause-exact
returns-clause-exact c = marked_exact c.args.bytes.now c.in_ok-behind.field-0.now c.time.result c.in_ok-behind.ensures c.time.ensures.exact
