use Rattle.ht_program.proofs.Opened.{no_memory, read_failed, read_long}
use Rattle.ht_program.proofs.reading.text_of.Goals as goal

pub returns-in-Err-Failed-clause-text : goal.returns-in-Err-Failed-clause-text
returns-in-Err-Failed-clause-text g c = read_failed c.args.which _ _

pub returns-in-Err-TooLong-clause-text : goal.returns-in-Err-TooLong-clause-text
returns-in-Err-TooLong-clause-text g c = read_long c.args.which _ _ (rw c.in-Err-TooLong.field-0-is at c.in-Err-TooLong.ensures.text)

pub returns-in-Err-Memory-clause-text : goal.returns-in-Err-Memory-clause-text
returns-in-Err-Memory-clause-text g c = no_memory c.args.which _ _
