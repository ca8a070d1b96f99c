-- Laws of rows, of planned tables and of sound ones, for the proofs of crates above.
pub use Rattle.ht_tree.proofs.Activation.{by_people}
pub use Rattle.ht_tree.proofs.Again.{IsPutAgain, filed_of, lent_file, put_again_of}
pub use Rattle.ht_tree.proofs.DueRows.{HasRow, IsOfDeadline, IsOfRow, all_dues_ascend, changed_there, due_of_row, kept_or_changed, means_due, row_of_due}
pub use Rattle.ht_tree.proofs.DuesInStep.{changed_ascend, has_planned, of_changed}
pub use Rattle.ht_tree.proofs.HeldGiven.{given_held, given_output_held, updated_held}
pub use Rattle.ht_tree.proofs.Filing.{file_of}
pub use Rattle.ht_tree.proofs.Fitting.{all_selected, sound_row_fits}
pub use Rattle.ht_tree.proofs.Families.{Alike, alike_put, behind_is, in_less, in_push, new_small, of_itself, of_less, parent_alike, standing, there_alike, to_come_alike}
pub use Rattle.ht_tree.proofs.ListsInStep.{has_ids, ids_ascend}
pub use Rattle.ht_tree.proofs.Mapped.{map_alike, mapped_from, mapped_sound, row_at-map}
pub use Rattle.ht_tree.proofs.Passed.{taken_ascends, taken_below}
pub use Rattle.ht_tree.proofs.Putting.{length-put_in, put_new, put_old, row_at-put_in}
pub use Rattle.ht_tree.proofs.Rows.{some_at}
pub use Rattle.ht_tree.proofs.Seeing.{row_seen}
pub use Rattle.ht_tree.proofs.Slots.{new_slot_found, other_slot_found, slot_is, slots_with_ascend}
pub use Rattle.ht_tree.proofs.Sounding.{notice_sound, slot_sound, sound_at, within}
pub use Rattle.ht_tree.proofs.SubTasks.{lower, no_sub_task}
pub use Rattle.ht_tree.proofs.Steps.{committed_sound, goes_on, goes_then, keeping_fits, keeping_planned, no_plan_fits, planned_nothing, put_again, stays}
