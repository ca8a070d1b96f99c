use Rattle.ht_rules.proofs.laws.tables_agree.Goals as goal
use Rattle.ht_rules.proofs.Tables.{agree}

pub returns : goal.returns
returns c = agree
