use Rattle.std.proofs.Common.{◌≡◌, ◌++◌, List, ℕ, OnOk, ap, subst}
use Rattle.csv.specs.Records.{fields_of}
use Rattle.csv.specs.Writing.{default_writer, row_text}
use Rattle.ht_export.specs.Lines.{line}
use Rattle.ht_export.specs.Pieces.{gathered}
use Rattle.ht_export.proofs.lines.Lines.put.Goals as goal

pub returns-clause-line : goal.returns-clause-line
unfolding line
returns-clause-line c =
    let is : row_text default_writer (fields_of c.put_fields.new.fields) ≡ line c.args.tables.now.tables c.args.row.now = ap (row_text default_writer) c.in_ok-put_fields.ensures in
    subst (λ (l : List ℕ). OnOk c.put_line.result (gathered c.put_line.new.self ≡ gathered c.args.self.now ++ l)) is c.put_line.ensures.line
