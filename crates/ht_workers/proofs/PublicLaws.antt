-- What crates above cite of this crate's proofs.
pub use Rattle.ht_workers.proofs.Links.{works_as}
