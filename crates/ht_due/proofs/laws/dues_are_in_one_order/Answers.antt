use Rattle.ht_due.proofs.Order.{due_order, exact}
use Rattle.ht_due.proofs.laws.dues_are_in_one_order.Goals as goal

pub returns : goal.returns
returns c = record { total = due_order; exact = exact }
