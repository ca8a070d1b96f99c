-- Laws of the definitions, for the proofs of crates above: what a text is read to, where its tokens
-- spell a tree; and that it is written as one tree.
pub use Rattle.ht_expr.proofs.Answering.{one_written}
pub use Rattle.ht_expr.proofs.Walking.{IsAnswer, spelled_row, tree_row}
