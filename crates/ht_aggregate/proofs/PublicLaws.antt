-- Laws of results, for the proofs of crates above.
pub use Rattle.ht_aggregate.proofs.Existing.{some_result}
pub use Rattle.ht_aggregate.proofs.Fitting.{result_kind, result_short}
pub use Rattle.ht_aggregate.proofs.Unique.{one_result}
