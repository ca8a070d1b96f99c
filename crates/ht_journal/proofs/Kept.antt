-- A journal whose disk was only read is kept.
use Rattle.std.proofs.Common.{◌≡◌, ℕ, IsTrue, List, Option, Some, None, IfSome, sym, ◌∙◌, ap, subst, arith}
use Rattle.ht_outside.specs.declared.disk.Disk.{Ghosts}
use Rattle.ht_journal.specs.declared.state.JournalState.{JournalState}
use Rattle.ht_journal.specs.declared.state.Reader.{Reader}
use Rattle.ht_journal.specs.Keeping.{IsKept, behind, doubt_of}
use Rattle.ht_journal.specs.Parts.{Stands}
use Rattle.ht_journal.specs.Pieces.{IsPiece, IsRead}
use Rattle.ht_journal.specs.Quiet.{IsQuiet}
use Rattle.ht_journal.proofs.Moments.{told_same}

-- another piece, and the same gate
pub told_piece : (o : Option (List ℕ)) (bodies : List (List ℕ)) (reader other : Reader) → other.gate ≡ reader.gate → other.passed ≡ reader.passed → IfSome o (IsPiece other) → IfSome o (IsRead bodies reader) → IfSome o (IsRead bodies other)
told_piece None bodies reader other gate passed piece read = tt
told_piece (Some f) bodies reader other gate passed piece read = record { piece = piece; gate = cc }

pub told_pieces : (o : Option (List ℕ)) (bodies : List (List ℕ)) (reader : Reader) → IfSome o (IsRead bodies reader) → IfSome o (IsPiece reader)
told_pieces None bodies reader read = tt
told_pieces (Some f) bodies reader read = read.piece

module _ {D : Type 0} (d : Ghosts D) where
  pub kept_on : (bodies : List (List ℕ)) (state other : JournalState) (old new : D) → IsQuiet d old new → d.shown new ≡ d.shown old → other.count ≡ state.count → other.length ≡ state.length → other.doubt ≡ state.doubt → doubt_of other ≡ doubt_of state
      → IfSome (d.gives old) (IsRead bodies other.reader) → IsKept d bodies state old → IsKept d bodies other new
  kept_on bodies state other old new quiet same count length doubt body read k = record {
    count = count ∙ k.count;
    place = length ∙ k.place;
    fit = k.fit;
    told = omega (arith, k.told, ap behind doubt);
    file = told_same (d.gives new) (d.gives old) _ (sym quiet.file) (subst (λ (doubt : Option (List ℕ)). IfSome (d.gives old) (Stands bodies doubt)) (sym body) k.file);
    images = λ tells image now.
        let before = subst IsTrue quiet.tells tells in
        subst (λ (doubt : Option (List ℕ)). Stands bodies doubt image) (sym body) (k.images before image (quiet.crash before image now));
    reading = told_same (d.gives new) (d.gives old) _ (sym quiet.file) read;
  }
