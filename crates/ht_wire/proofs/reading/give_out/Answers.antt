use Rattle.std.proofs.Common.{refl, ◌∙◌}
use Rattle.ht_wire.proofs.BodyRead.{all_there, carried, no_body, no_room, refused_now, short_body, whole_body}
use Rattle.ht_wire.proofs.Finding.{within_all}
use Rattle.ht_wire.proofs.reading.give_out.Goals as goal

pub returns-in-Err-clause-gives : goal.returns-in-Err-clause-gives
returns-in-Err-clause-gives g c = refused_now _ _ _ _ _ (rw c.front-front.ensures.value at c.in-Err.ensures.length)

pub consume-requires : goal.consume-requires
consume-requires g c = within_all _ _ c.requires.within.section.len_fits

pub returns-then-length-eq0-clause-gives : goal.returns-then-length-eq0-clause-gives
returns-then-length-eq0-clause-gives g c =
    no_body _ c.args.buffer.now c.args.headers.now c.args.head.now c.in-Ok.length (rw c.front-front.ensures.value at c.in-Ok.ensures.length) c.if-length-eq0.true _ _ c.new-body.ensures c.consume.ensures (carried _ _ _ _ _ _ c.said_in-said.result.close (rw c.front-front.ensures.value at (c.in-Ok-method_of.ensures ∙ c.of.ensures)) (rw c.front-front.ensures.value at (c.in-Ok-of.ensures ∙ c.of-2.ensures)) c.name_in-person.ensures (rw c.front-front.ensures.value at c.said_in-said.ensures.person) refl (rw c.front-front.ensures.value at c.said_in-said.ensures.close))

pub returns-in-Some-clause-gives : goal.returns-in-Some-clause-gives
returns-in-Some-clause-gives g c = short_body _ _ _ _ _ _ _ (rw c.front-front.ensures.value at c.in-Ok.ensures.length) (within_all _ _ c.requires.within.section.len_fits) _ c.in-Some.ensures.finds

pub returns-in-Some-clause-still : goal.returns-in-Some-clause-still
returns-in-Some-clause-still g c = λ done. c.in-Some.ensures.still (all_there c.args.buffer.now c.args.headers.now c.args.head.now c.in-Ok.length (rw c.front-front.ensures.value at c.in-Ok.ensures.length) (within_all _ _ c.requires.within.section.len_fits) done)

pub returns-in-Ok-of-2-clause-gives : goal.returns-in-Ok-of-2-clause-gives
returns-in-Ok-of-2-clause-gives g c =
    whole_body _ _ c.args.buffer.now _ c.args.headers.now c.args.head.now c.in-Ok.length (rw c.front-front.ensures.value at c.in-Ok.ensures.length) (within_all _ _ c.requires.within.section.len_fits) _ _ c.in_default-read_to.ensures.finds (rw c.pending.ensures at c.in-Ok-of-2.ensures) c.consume-in-Ok-of-2.ensures (carried _ _ _ _ _ _ c.said_in-said.result.close (rw c.front-front.ensures.value at (c.in-Ok-method_of.ensures ∙ c.of.ensures)) (rw c.front-front.ensures.value at (c.in-Ok-of.ensures ∙ c.of-2.ensures)) c.name_in-person.ensures (rw c.front-front.ensures.value at c.said_in-said.ensures.person) refl (rw c.front-front.ensures.value at c.said_in-said.ensures.close))

pub returns-in-Ok-of-2-clause-still : goal.returns-in-Ok-of-2-clause-still
returns-in-Ok-of-2-clause-still g c = λ done. c.in_default-read_to.ensures.still (all_there c.args.buffer.now c.args.headers.now c.args.head.now c.in-Ok.length (rw c.front-front.ensures.value at c.in-Ok.ensures.length) (within_all _ _ c.requires.within.section.len_fits) done)

pub returns-in-Err-of-clause-gives : goal.returns-in-Err-of-clause-gives
returns-in-Err-of-clause-gives g c = no_room _ _ _ _ _ _ _ (rw c.front-front.ensures.value at c.in-Ok.ensures.length) (within_all _ _ c.requires.within.section.len_fits) c.in_default-read_to.ensures.finds

pub returns-in-Err-of-clause-still : goal.returns-in-Err-of-clause-still
returns-in-Err-of-clause-still g c = λ done. c.in_default-read_to.ensures.still (all_there c.args.buffer.now c.args.headers.now c.args.head.now c.in-Ok.length (rw c.front-front.ensures.value at c.in-Ok.ensures.length) (within_all _ _ c.requires.within.section.len_fits) done)
