use Rattle.std.proofs.Common.{◌∙◌, sym}
use Rattle.ht_expr.proofs.Firsts.{unparsed}
use Rattle.ht_expr.proofs.scanning.value_of.Goals as goal

pub returns-in_err-number : goal.returns-in_err-number
returns-in_err-number c =
    rw c.from_residual.ensures (unparsed c.args.digits.now c.parse.result c.parse.ensures.value.0 c.requires (sym c.ok.ensures.value ∙ c.in_err-number.was))
