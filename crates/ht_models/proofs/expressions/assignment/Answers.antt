use Rattle.ht_models.proofs.Spellings.{assigns_read, no_assignment_read}
use Rattle.ht_models.proofs.expressions.assignment.Goals as goal

pub returns-clause-refused : goal.returns-clause-refused
returns-clause-refused c = no_assignment_read c.args.kinds.now c.args.text.now c.read.result (rw c.as_str.ensures at c.read.ensures.exact)

pub returns-clause-kinds : goal.returns-clause-kinds
returns-clause-kinds c = assigns_read c.args.kinds.now c.args.text.now c.read.result (rw c.as_str.ensures at c.read.ensures.reads) c.read.ensures.kinds
