-- A text that is written in pieces: what is gathered of it, and what is already written.
use Rattle.std.specs.Prelude.{◌≡◌, ℕ, false, List, ◌++◌, Option}
use Rattle.csv.specs.Writing.{default_writer, fields_written, has_written, writer_pending, writer_setup, writer_under}
use Rattle.ht_export.specs.declared.lines.Lines.{Lines}
use Rattle.ht_outside.specs.Tells.{Grows}

-- the lines that aren't written yet
abbrev pub gathered : Lines → List ℕ
gathered lines = (writer_under lines.writer).items ++ writer_pending lines.writer

-- no line is begun
pub record IsBetween (lines : Lines) : Type 0 where
  pub setup : writer_setup lines.writer ≡ default_writer
  pub fields : fields_written lines.writer ≡ 0
  pub wrote : has_written lines.writer ≡ false

-- of a text all is written but the last piece
pub record Leaves (old new : Option (List ℕ)) (text piece : List ℕ) : Type 0 where
  pub done : List ℕ
  pub wrote : Grows old new done
  pub is : text ≡ done ++ piece
