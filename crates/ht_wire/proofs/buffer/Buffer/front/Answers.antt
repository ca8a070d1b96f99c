use Rattle.std.proofs.Common.{◌∙◌, arith, refl, sym}
use Rattle.std.proofs.lemmas.List.{length-take, take_all}
use Rattle.ht_wire.specs.declared.limits.TheConstants.{LONGEST_HEAD}
use Rattle.ht_wire.proofs.buffer.Buffer.front.Goals as goal

pub slice_bounds-result-end : goal.slice_bounds-result-end
slice_bounds-result-end c = let size = length-take LONGEST_HEAD c.pending-pending.result.now in let more = c.if-pending-gt-LONGEST_HEAD.true in omega (arith, size, more)

pub returns-then-pending-gt-LONGEST_HEAD-clause-short : goal.returns-then-pending-gt-LONGEST_HEAD-clause-short
returns-then-pending-gt-LONGEST_HEAD-clause-short c = let size = length-take LONGEST_HEAD c.pending-pending.result.now in omega (arith, size)

pub returns-clause-value : goal.returns-clause-value
returns-clause-value c = sym (take_all LONGEST_HEAD c.pending-pending.result.now (let few = c.if-pending-gt-LONGEST_HEAD.false in omega (arith, few))) ∙ rw c.pending-pending.ensures refl
