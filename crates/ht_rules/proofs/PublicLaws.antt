-- Laws of the two tables, for the proofs of crates above: to whom a task goes by an operation.
pub use Rattle.ht_rules.proofs.Tables.{IsCaller, IsNamed, agree, caller_is_potential, named_is_delegate}
