-- What crates above cite of this crate's proofs.
pub use Rattle.ht_pool.proofs.Whole.{from_before, not_begun}
