use Rattle.ht_machine.proofs.OneOutcome.{same}
use Rattle.ht_machine.proofs.laws.one_outcome.Goals as goal

pub returns-clause-left : goal.returns-clause-left
returns-clause-left c = λ t e k l r s u v a b. (same t e k l r s u v a b).left

pub returns-clause-reply : goal.returns-clause-reply
returns-clause-reply c = λ t e k l r s u v a b. (same t e k l r s u v a b).reply

pub returns-clause-after : goal.returns-clause-after
returns-clause-after c = λ t e k l r s u v a b. (same t e k l r s u v a b).after
