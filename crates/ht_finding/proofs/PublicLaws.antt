-- Laws of the persons whom assignments find, for the proofs of crates above.
pub use Rattle.ht_finding.proofs.Excluding.{none_excluded}
pub use Rattle.ht_finding.proofs.Plain.{resolved_same}
pub use Rattle.ht_finding.proofs.Selecting.{below_has, below_is, either_of, first_of_two, has_selected, if_ok, joined_by, rest_below, selected, selected_apart, selected_ascends}
