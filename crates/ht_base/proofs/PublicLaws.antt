-- Laws of lists, for the proofs of crates above: what stands in the front of a list, where a name is
-- found, and the least place at which something holds.
pub use Rattle.ht_base.proofs.Finding.{found_there, found_within, own_place}
pub use Rattle.ht_base.proofs.Indexing.{front_has, in_front_of}
pub use Rattle.ht_base.proofs.Leasts.{least_behind, least_here, least_in_front, neither}
-- Laws of periods: the function that reads their texts reads each, and nothing else; and no text gives
-- more than the longest.
pub use Rattle.ht_base.proofs.PeriodBounds.{period_short}
pub use Rattle.ht_base.proofs.PeriodCuts.{period_exact, period_reads}
-- Laws of lists in the order of keys: where a binary search finds a key, and that a list with another
-- element in its place is in order, and has it there.
pub use Rattle.ht_base.proofs.Ordered.{IsGap, IsThere, ascend_placed, each_placed, found_placed, other_found, searched_by}
