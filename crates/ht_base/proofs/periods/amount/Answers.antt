use Rattle.std.proofs.Common.{sym}
use Rattle.ht_base.proofs.Amounts.{reads_amount, reads_none, reads_no_number}
use Rattle.ht_base.proofs.periods.amount.Goals as goal

pub returns-in_default : goal.returns-in_default
returns-in_default c = reads_none c.args.letter c.args.bytes.now c.requires (sym c.in_default.ensures)

pub returns-in-Some-number : goal.returns-in-Some-number
returns-in-Some-number c = reads_amount c.args.letter c.args.bytes.now c.in-Some.end c.in-Some-number.value c.requires (sym c.in-Some.ensures) c.in-Some-number.ensures

pub returns-in-None : goal.returns-in-None
returns-in-None c = reads_no_number c.args.letter c.args.bytes.now c.in-Some.end c.requires (sym c.in-Some.ensures) c.in-None.ensures
