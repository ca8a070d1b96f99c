-- Laws of the definitions, for the proofs of crates above: where every entry was read, none has
-- another shape; what a pass tells of what a text is, is told of the text; and a text is read to one
-- answer.
pub use Rattle.ht_toml.proofs.ReadEntries.{all_there, first_misshapen, misshapen_least}
pub use Rattle.ht_toml.proofs.Refusing.{first_holds, first_of_text, least_of, none_holds, nothing_of_text, nowhere_of, one_answer, one_document, one_saying, told_of}
