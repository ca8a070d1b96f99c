use Rattle.std.proofs.Common.{rules, ◌≡◌, ◌<◌, pos, length, arith, w64, FitsSigned, to_z, of_z, ap, ◌∙◌, subst, sym}
use Rattle.std.proofs.lemmas.Int.{ints, to_z-of_z}
use Rattle.std.specs.Int.{int_div_euclid}
use mir.Syntax.{w128}
use Rattle.ht_aggregate.specs.Given.{numbers}
use Rattle.ht_aggregate.specs.Numbers.{IsAverage}
use Rattle.ht_aggregate.proofs.Averages.{average_of}
use Rattle.ht_aggregate.proofs.OneKind.{length-numbers}
use Rattle.ht_aggregate.proofs.numbers.average.Goals as goal

pub returns : goal.returns
returns c =
    let vs = c.args.values.now in
    let q = c.div_euclid.result in
    let fits : FitsSigned w64 q = search rules in
    let wide : FitsSigned w128 q = search rules in
    let sum : FitsSigned w128 c.total.result = search rules in
    let some : 0 < length vs = search rules in
    let same : to_z w64 (of_z w64 (to_z w128 (of_z w128 q))) ≡ q = simp to_z-of_z in
    let count : to_z w128 (length vs) ≡ pos (length vs) = omega (arith, ints) in
    let is : q ≡ int_div_euclid c.total.result (pos (length vs)) = simp to_z-of_z at c.div_euclid.ensures ∙ ap (int_div_euclid c.total.result) count in
    subst (IsAverage (numbers vs)) (sym same) (average_of (numbers vs) c.total.result q (length vs) c.total.ensures.sum (length-numbers vs c.requires) some is)
