-- Laws of lists, for the proofs of crates above: which list there is once tasks have moved, what stands in one
-- as a task comes or goes, and that its tasks determine an ascending one.
pub use Rattle.ht_index.proofs.Members.{filter_ascends, front_ascends, has_append, has_filter, has_with, last_once, one_list}
pub use Rattle.ht_index.proofs.Settling.{OthersStand, SayWhether, made}
