-- Laws of models that were read, for the proofs of crates above: where the model of an entry is found,
-- and what its tree counts; that each declared part has its own kind; and what a finish may set.
pub use Rattle.ht_models.proofs.FittingParts.{sets_outputs}
pub use Rattle.ht_models.proofs.OwnParts.{own_input, own_output}
pub use Rattle.ht_models.proofs.TreeLaws.{entry_counted, entry_found, entry_smaller, model_found}
