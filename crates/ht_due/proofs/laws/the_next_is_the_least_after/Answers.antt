use Rattle.ht_due.proofs.Leasts.{next_none, next_some}
use Rattle.ht_due.proofs.laws.the_next_is_the_least_after.Goals as goal

pub returns : goal.returns
returns c = record {
  there = λ dues due next up is. (next_some dues due next up is).there;
  after = λ dues due next up is. (next_some dues due next up is).after;
  least = λ dues due next other up is h less. (next_some dues due next up is).least other h less;
  none = next_none;
}
