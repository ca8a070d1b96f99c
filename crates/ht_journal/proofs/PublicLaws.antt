-- Laws of the definitions, for the proofs of crates above: how long a journal is, what a run of calls leaves at every
-- moment, and what is told of a file after a step.
pub use Rattle.ht_journal.proofs.Frames.{contents_rests, contents_short, front_length}
pub use Rattle.ht_journal.proofs.InParts.{part_reads}
pub use Rattle.ht_journal.proofs.Moments.{started, goes_on, runs_on, weaker, both_told, told_same, told_weaker}
pub use Rattle.ht_journal.proofs.Quiet.{quiet_call, quiet_on}
