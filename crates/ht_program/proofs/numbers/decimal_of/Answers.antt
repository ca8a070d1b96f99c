use Rattle.std.proofs.Common.{ap, sym, ◌∙◌, decimal}
use Rattle.ht_program.proofs.Grammar.{no_number, that_number, other_text}
use Rattle.ht_program.proofs.numbers.decimal_of.Goals as goal

pub returns-in_err-n-clause-none : goal.returns-in_err-n-clause-none
returns-in_err-n-clause-none c = rw c.from_residual.ensures (λ n small is. no_number c.args.text.now c.parse.result n c.parse.ensures.value.0 (sym c.ok.ensures.value ∙ c.in_err-n.was) small is)

pub returns-else-eq-clause-none : goal.returns-else-eq-clause-none
returns-else-eq-clause-none c = λ n small is. other_text c.format.result.now c.args.text.now c.eq.result c.eq.ensures c.if-eq.false (c.format.ensures.text ∙ ap decimal (that_number c.args.text.now c.parse.result c.in_ok-n.n n c.parse.ensures.value.0 (sym c.ok.ensures.value ∙ c.in_ok-n.was) small is) ∙ sym is)
