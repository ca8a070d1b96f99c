use Rattle.ht_entries.proofs.Days.{few_days}
use Rattle.ht_entries.proofs.instants.day_of.Goals as goal

pub returns-clause-few : goal.returns-clause-few
returns-clause-few c =
    let date = c.in_ok-date.ensures in
    rw c.days_to.ensures.exact (few_days _ _ _ c.in_ok-date.date date.0 date.1 date.2 c.days_to.ensures.few)
