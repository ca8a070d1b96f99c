-- A law of chains, for the proofs of crates above: where there is no long chain, what is reached at
-- all is near.
pub use Rattle.ht_graph.proofs.Chains.{near_reached}
