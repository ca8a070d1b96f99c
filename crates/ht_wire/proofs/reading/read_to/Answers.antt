use Rattle.std.proofs.Common.{arith, ◌∙◌}
use Rattle.ht_wire.proofs.Steps.{longer, took_more}
use Rattle.ht_wire.proofs.reading.read_to.Goals as goal

pub loop-buffer-preserved : goal.loop-buffer-preserved
loop-buffer-preserved g c =
    let was = c.loop-buffer.invariant in
    let short = rw c.pending.ensures at c.loop-buffer-test.true in
    let more = longer _ _ _ _ _ c.in-Ok.ensures.bytes in
    record {
      took = took_more _ _ _ _ _ _ _ _ was.took short c.in-Ok.ensures.last c.in-Ok.ensures.bytes;
      still = λ whole. absurd (let before = was.longer in omega (arith, whole, before, short));
      longer = (let before = was.longer in omega (arith, before, more));
      later = (let one = was.later in let two = c.in-Ok.ensures.cause.later in omega (arith, one, two));
      beside = c.in-Ok.ensures.beside ∙ was.beside;
      same = g.L.Link.same_on _ _ _ was.same c.in-Ok.ensures.same;
    }
