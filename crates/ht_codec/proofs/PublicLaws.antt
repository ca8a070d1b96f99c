-- Laws of spellings, for the proofs of crates above: which records have one, that none begins
-- another, how long each is, and why other bytes are refused, where.
pub use Rattle.ht_codec.proofs.Holding.{fits_holds, valid_fits}
pub use Rattle.ht_codec.proofs.Places.{refusal_inside}
pub use Rattle.ht_codec.proofs.Ranges.{fits_is_valid}
pub use Rattle.ht_codec.proofs.Sizes.{first_byte, spelling_is_short}
pub use Rattle.ht_codec.proofs.Spellings.{cut_is_short, not_memory, not_refused, one_record, one_refusal, some_answer, then_trailing}
