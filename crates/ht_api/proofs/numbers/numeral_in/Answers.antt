use Rattle.std.proofs.Common.{◌∙◌, ap, sym}
use Rattle.ht_api.specs.Numbers.{is_numeral}
use Rattle.ht_api.proofs.Numerals.{reads, reads_none}
use Rattle.ht_api.proofs.numbers.numeral_in.Goals as goal

pub returns-in-Ok : goal.returns-in-Ok
returns-in-Ok c =
    reads c.args.text.now c.in-Ok.number (ap is_numeral (sym c.as_bytes.ensures.value) ∙ sym c.if-not-is_numeral.ensures) c.in-Ok.ensures.value.0.0.1 c.in-Ok.ensures.value.0.1

pub returns-in-Err : goal.returns-in-Err
returns-in-Err c = reads_none c.args.text.now (ap is_numeral (sym c.as_bytes.ensures.value) ∙ sym c.if-not-is_numeral.ensures) c.in-Err.ensures.value.0
