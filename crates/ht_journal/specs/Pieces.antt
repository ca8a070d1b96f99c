-- What a journal knows of its file from the last readings: a piece of its bytes, and the place of a gate.
use Rattle.std.specs.Prelude.{◌≡◌, ℕ, List, length, take, drop}
use Rattle.ht_journal.specs.Files.{front}
use Rattle.ht_journal.specs.declared.state.Reader.{Reader}

-- the bytes that are held of a piece are those of the file from its place on
abbrev pub IsPiece : Reader → List ℕ → Type 0
IsPiece reader file = take reader.held reader.bytes.items ≡ take reader.held (drop reader.from file)

-- the piece is one of the file, and the gate is the one behind the bodies that were passed
pub record IsRead (bodies : List (List ℕ)) (reader : Reader) (file : List ℕ) : Type 0 where
  pub piece : IsPiece reader file
  pub gate : reader.gate ≡ length (front (take reader.passed bodies))
