-- Laws of the definitions, for the proofs of crates above: a request stands in a stream that goes
-- on, one stream has one front and, but in a corner, one refusal, and the codes of refusals are four.
pub use Rattle.ht_wire.proofs.Lengths.{reason_code}
pub use Rattle.ht_wire.proofs.Outcomes.{request_on}
pub use Rattle.ht_wire.proofs.Uniqueness.{one_reason, one_request, request_or_end, request_or_refused, request_or_unfinished}
