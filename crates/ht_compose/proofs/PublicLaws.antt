-- Laws of what is done on composite tasks, and of rows that are changed in their places, for the proofs
-- of crates above.
pub use Rattle.ht_compose.proofs.AgingRows.{activated_ages, freed_ages, was_due}
pub use Rattle.ht_compose.proofs.AgingTables.{all_age, all_age_freed, all_age_further, all_age_itself, numbered_still, put_ages}
pub use Rattle.ht_compose.proofs.AlwaysEnding.{end_reached}
pub use Rattle.ht_compose.proofs.AlwaysFollowing.{always_frees, always_gathers, always_holds, always_resumes, sub_task_there}
pub use Rattle.ht_compose.proofs.Ending.{one_end}
pub use Rattle.ht_compose.proofs.Determined.{determined}
pub use Rattle.ht_compose.proofs.EntriesByHand.{is_to_make}
pub use Rattle.ht_compose.proofs.InOrder.{AreInOrder, IsInOrder, StayInOrder, put_in_order, same_in_order}
pub use Rattle.ht_compose.proofs.Keeping.{Fit, NoMore, changed}
pub use Rattle.ht_compose.proofs.LeftToTake.{activated_less, escalated_less, left, resumed_less, taken_fewer}
pub use Rattle.ht_compose.proofs.Moments.{ends_at_moment, frees_at_moment}
pub use Rattle.ht_compose.proofs.RowsAlone.{ends_rows, frees_rows, gathers_rows, one_gathered}
