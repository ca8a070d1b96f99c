-- Laws of decisions, for the proofs of crates above.
pub use Rattle.ht_machine.proofs.Left.{IsOfItsMoment, applied_once, applies_again, its_event_is_valid, nothing_changes, of_its_moment}
pub use Rattle.ht_machine.proofs.OneOutcome.{IsOne, same}
pub use Rattle.ht_machine.proofs.RefusingItself.{answers_itself}
