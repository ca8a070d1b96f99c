-- Laws of the definitions, for the proofs of crates above: how an office is kept on two disks over which it was opened, why
-- it wasn't opened where they weren't attached, what each status of a run says, and that words are read in one way.
pub use Rattle.ht_program.proofs.Ended.{attached, kept_on, none_kept_on, not_attached, stands}
pub use Rattle.ht_program.proofs.OpenedOffices.{not_at_fault, not_wrong}
pub use Rattle.ht_program.proofs.Options.{bytes_of}
pub use Rattle.ht_program.proofs.Said.{no_names, one_reading}
pub use Rattle.ht_program.proofs.Statuses.{answered, broke, in_memory, not_two, store}
pub use Rattle.ht_program.proofs.TextStatuses.{as_said, built_in, journal, wrong}
pub use Rattle.ht_program.proofs.Unnamed.{without_journal}
