use Rattle.std.proofs.Common.{sym}
use Rattle.ht_expr.specs.Expected.{opening_of_word}
use Rattle.ht_expr.proofs.Keywords.{on_keyword, on_no_keyword}
use Rattle.ht_expr.proofs.expected.Opening.of.Goals as goal

pub returns-in_err-of-in-Word : goal.returns-in_err-of-in-Word
returns-in_err-of-in-Word c = rw (c.from_residual.ensures, c.in-Word.is) (sym (on_no_keyword c.in-Word.word.now opening_of_word c.in_err-of-in-Word.ensures.none))

pub returns-in_ok-of-in-Word : goal.returns-in_ok-of-in-Word
returns-in_ok-of-in-Word c =
    rw (c.of_word.ensures, c.in-Word.is) (sym (on_keyword c.in-Word.word.now c.in_ok-of-in-Word.field-0 opening_of_word c.in_ok-of-in-Word.ensures.some))
