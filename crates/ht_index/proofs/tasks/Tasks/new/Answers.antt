use Rattle.std.proofs.Common.{ap, ◌∙◌}
use Rattle.ht_index.proofs.Gathered.{made_of, none_made}
use Rattle.ht_index.proofs.tasks.Tasks.new.Goals as goal

pub returns : goal.returns
returns c = ap made_of c.new.ensures.items ∙ none_made
