use Rattle.std.proofs.Common.{sym}
use Rattle.ht_wire.proofs.Lengths.{digits_text}
use Rattle.ht_wire.proofs.bodies.length_in.Goals as goal

pub returns-in-Err : goal.returns-in-Err
returns-in-Err c = absurd (c.in-Err.ensures.cases.0 (digits_text c.args.value.now (sym c.if-not-are_digits.ensures)))
