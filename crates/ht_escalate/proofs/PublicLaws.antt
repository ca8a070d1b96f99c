-- Laws of deadlines that are taken, for the proofs of crates above.
pub use Rattle.ht_escalate.proofs.OpenDues.{due_of_first, open_of_due}
pub use Rattle.ht_escalate.proofs.TakenRows.{taken_has_it, taken_has_more, taken_is_kept, taken_stays_so}
pub use Rattle.ht_escalate.proofs.TakenTables.{one_taking, takes_at_moment}
