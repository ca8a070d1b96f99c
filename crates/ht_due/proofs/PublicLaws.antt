-- Laws of dues in order, for the proofs of crates above: what an ascending list has once dues came
-- and went, and that what it has determines it.
pub use Rattle.ht_due.proofs.Order.{due_order, exact, itself}
pub use Rattle.ht_due.proofs.Ascending.{has_put, same_dues}
pub use Rattle.ht_due.proofs.InOrder.{has_append, has_in_order, in_order_ascends, ordered}
pub use Rattle.ht_due.proofs.Leasts.{least_none, least_some, next_none, next_some}
pub use Rattle.ht_due.proofs.OfTwo.{IsLeast, first_is_least, least_append, lesser_then, one_least}
pub use Rattle.ht_due.proofs.Members.{ascends_all_put, ascends_merged, has_all_without, has_merged}
