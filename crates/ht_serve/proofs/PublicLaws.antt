-- Laws of the definitions, for the proofs of crates above: requests stay where the stream goes on, what is
-- said of the calls of a connection follows what its caller's calls are, and its ending says how its input
-- ended.
pub use Rattle.ht_serve.proofs.Standing.{still}
pub use Rattle.ht_serve.proofs.Continuing.{served_for}
pub use Rattle.ht_serve.proofs.InputEndings.{ending_of_input, over_later}
