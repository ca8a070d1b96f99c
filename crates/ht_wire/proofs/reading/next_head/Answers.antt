use Rattle.std.proofs.Common.{arith, inr, ◌∙◌}
use Rattle.ht_wire.proofs.Finding.{needed_before, none_blank, none_partial, found_cut, found_end, found_fault, found_long, found_never, short_of}
use Rattle.ht_wire.proofs.Steps.{grew, took_more}
use Rattle.ht_wire.proofs.reading.next_head.Goals as goal
use Rattle.ht_wire.proofs.reading.next_head.Goals.{in-Blank+in-Ok, in-Partial+in-Ok-fill}

pub fill-requires : goal.fill-requires
fill-requires g c = short_of _ (rw c.front.ensures.value at c.in-Blank.ensures).short

pub fill-requires-in-Partial : goal.fill-requires-in-Partial
fill-requires-in-Partial g c = short_of _ ((rw c.front.ensures.value at c.in-Partial.ensures).1).short

pub returns-in-TooLong-clause-finds : goal.returns-in-TooLong-clause-finds
returns-in-TooLong-clause-finds g c = found_long _ _ _ _ c.loop.invariant.took (rw c.front.ensures.value at c.in-TooLong.ensures)

pub returns-in-NoHead-clause-finds : goal.returns-in-NoHead-clause-finds
returns-in-NoHead-clause-finds g c = found_never _ _ _ _ c.loop.invariant.took (rw c.front.ensures.value at c.in-NoHead.ensures)

pub returns-in-Ok-eq0-fill-clause-finds : goal.returns-in-Ok-eq0-fill-clause-finds
returns-in-Ok-eq0-fill-clause-finds g c = found_cut _ _ _ _ _ _ c.loop.invariant.took c.in-Ok-eq0-fill.ensures.last (rw c.in-Ok-eq0-fill.field-0-test at c.in-Ok-eq0-fill.ensures.bytes) (rw c.front.ensures.value at c.in-Partial.ensures)

pub returns-in-Ok-eq0-fill-clause-buffered : goal.returns-in-Ok-eq0-fill-clause-buffered
returns-in-Ok-eq0-fill-clause-buffered g c = inr (needed_before _ _ _ _ c.loop.invariant.buffered (none_partial _ (rw c.front.ensures.value at c.in-Partial.ensures)))

pub returns-in-Ok-eq0-clause-finds : goal.returns-in-Ok-eq0-clause-finds
returns-in-Ok-eq0-clause-finds g c = found_end _ _ _ _ _ _ c.loop.invariant.took c.in-Ok-eq0.ensures.last (rw c.in-Ok-eq0.field-0-test at c.in-Ok-eq0.ensures.bytes) (rw c.front.ensures.value at c.in-Blank.ensures)

pub returns-in-Ok-eq0-clause-buffered : goal.returns-in-Ok-eq0-clause-buffered
returns-in-Ok-eq0-clause-buffered g c = inr (needed_before _ _ _ _ c.loop.invariant.buffered (none_blank _ (rw c.front.ensures.value at c.in-Blank.ensures)))

pub returns-in-Err-clause-finds : goal.returns-in-Err-clause-finds
returns-in-Err-clause-finds g c = rw c.failed.ensures (found_fault _ _ _ _ _ _ c.in-Err.fault c.loop.invariant.took c.in-Err.ensures.last c.in-Err.ensures.bytes (none_blank _ (rw c.front.ensures.value at c.in-Blank.ensures)))

pub returns-in-Err-clause-buffered : goal.returns-in-Err-clause-buffered
returns-in-Err-clause-buffered g c = inr (needed_before _ _ _ _ c.loop.invariant.buffered (none_blank _ (rw c.front.ensures.value at c.in-Blank.ensures)))

pub returns-in-Err-fill-clause-finds : goal.returns-in-Err-fill-clause-finds
returns-in-Err-fill-clause-finds g c = rw c.failed-in-Err-fill.ensures (found_fault _ _ _ _ _ _ c.in-Err-fill.fault c.loop.invariant.took c.in-Err-fill.ensures.last c.in-Err-fill.ensures.bytes (none_partial _ (rw c.front.ensures.value at c.in-Partial.ensures)))

pub returns-in-Err-fill-clause-buffered : goal.returns-in-Err-fill-clause-buffered
returns-in-Err-fill-clause-buffered g c = inr (needed_before _ _ _ _ c.loop.invariant.buffered (none_partial _ (rw c.front.ensures.value at c.in-Partial.ensures)))

pub loop-preserved : goal.loop-preserved
loop-preserved g c =
    elim c.match-look.branch [
      | in-Blank+in-Ok w ↦ record {
        took = rw (w.link-is, w.buffer-is) (took_more _ _ _ _ _ _ _ _ c.loop.invariant.took (none_blank _ (rw c.front.ensures.value at w.in-Blank.ensures)) w.in-Ok.ensures.last w.in-Ok.ensures.bytes);
        buffered = inr (needed_before _ _ _ _ c.loop.invariant.buffered (none_blank _ (rw c.front.ensures.value at w.in-Blank.ensures)));
        grown = rw w.buffer-is (grew _ _ _ _ _ _ w.in-Ok.ensures.bytes w.in-Ok.field-0-test.1 c.loop.invariant.grown);
        few = (let short = short_of _ (rw c.front.ensures.value at w.in-Blank.ensures).short in let grown = c.loop.invariant.grown in omega (arith, short, grown));
        later = rw w.link-is (let one = c.loop.invariant.later in let two = w.in-Ok.ensures.cause.later in omega (arith, one, two));
        beside = rw w.link-is (w.in-Ok.ensures.beside ∙ c.loop.invariant.beside);
        same = rw w.link-is (g.L.Link.same_on _ _ _ c.loop.invariant.same w.in-Ok.ensures.same);
      }
      | in-Partial+in-Ok-fill w ↦ record {
        took = rw (w.link-is, w.buffer-is) (took_more _ _ _ _ _ _ _ _ c.loop.invariant.took (none_partial _ (rw c.front.ensures.value at w.in-Partial.ensures)) w.in-Ok-fill.ensures.last w.in-Ok-fill.ensures.bytes);
        buffered = inr (needed_before _ _ _ _ c.loop.invariant.buffered (none_partial _ (rw c.front.ensures.value at w.in-Partial.ensures)));
        grown = rw w.buffer-is (grew _ _ _ _ _ _ w.in-Ok-fill.ensures.bytes w.in-Ok-fill.field-0-test.1 c.loop.invariant.grown);
        few = (let short = short_of _ ((rw c.front.ensures.value at w.in-Partial.ensures).1).short in let grown = c.loop.invariant.grown in omega (arith, short, grown));
        later = rw w.link-is (let one = c.loop.invariant.later in let two = w.in-Ok-fill.ensures.cause.later in omega (arith, one, two));
        beside = rw w.link-is (w.in-Ok-fill.ensures.beside ∙ c.loop.invariant.beside);
        same = rw w.link-is (g.L.Link.same_on _ _ _ c.loop.invariant.same w.in-Ok-fill.ensures.same);
      }
    ]
