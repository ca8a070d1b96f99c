use Rattle.ht_due.proofs.Places.{found_clause, missed_clause}
use Rattle.ht_due.proofs.finding.find.Goals as goal

pub returns-clause-found : goal.returns-clause-found
returns-clause-found c = found_clause c.args.dues.now c.args.due c.binary_search.result c.requires c.binary_search.ensures.bound c.binary_search.ensures.position

pub returns-clause-missed : goal.returns-clause-missed
returns-clause-missed c = missed_clause c.args.dues.now c.args.due c.binary_search.result c.requires c.binary_search.ensures.bound c.binary_search.ensures.position
