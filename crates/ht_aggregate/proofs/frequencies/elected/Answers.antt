use Rattle.std.proofs.Common.{◌∙◌, sym}
use Rattle.std.proofs.lemmas.Bool.{true≢false}
use Rattle.ht_aggregate.specs.Given.{texts}
use Rattle.ht_aggregate.proofs.Ranked.{elected_by, not_elected}
use Rattle.ht_aggregate.proofs.OneKind.{length-texts}
use Rattle.ht_aggregate.proofs.frequencies.elected.Goals as goal

pub returns-then-is_enough : goal.returns-then-is_enough
returns-then-is_enough c =
    let vs = c.args.values.now in
    elected_by c.args.percent _ _ (texts vs) _ (length-texts vs c.requires) c.times.ensures c.in-Some.ensures (c.is_enough.ensures.0 c.if-is_enough.true)

pub returns-else-is_enough : goal.returns-else-is_enough
returns-else-is_enough c =
    let vs = c.args.values.now in
    not_elected c.args.percent _ _ (texts vs) _ (length-texts vs c.requires) c.times.ensures c.in-Some.ensures (λ enough. true≢false (sym (c.is_enough.ensures.1 enough) ∙ c.if-is_enough.false))

pub returns-in-None : goal.returns-in-None
returns-in-None c = λ t h. c.in-None.ensures t h.most
