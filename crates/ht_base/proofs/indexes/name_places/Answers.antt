use Rattle.ht_base.proofs.Indexing.{names_indexed}
use Rattle.ht_base.proofs.indexes.name_places.Goals as goal

pub returns-clause-ok : goal.returns-clause-ok
returns-clause-ok c = names_indexed c.index.result c.args.names.now c.index.ensures.ok
