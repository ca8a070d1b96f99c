use Rattle.std.proofs.Common.{IsTrue, ap, sym, ◌∙◌, subst, refl}
use Rattle.ht_desk.specs.Counting.{replied}
use Rattle.ht_desk.specs.Records.{bodies_of}
use Rattle.ht_desk.specs.States.{State}
use Rattle.ht_desk.specs.Steps.{Steps, replied_to}
use Rattle.ht_desk.proofs.Finding.{reads_by}
use Rattle.ht_desk.proofs.desk_state.DeskState.step.Goals as goal

pub returns-clause-answers : goal.returns-clause-answers
returns-clause-answers g c = record {
  steps = λ beside texts s at.
      let e = c.args.event.now in
      let answer = c.answer-reply.result in
      let a = c.answer-reply.ensures.answers beside texts s at in
      let t : State = replied_to a.1 e answer in
      let p : Steps s e answer t = record { mid = a.0; acted = a.1; settles = a.2; acts = a.3; counted = refl } in (
        t,
        p,
        record {
          tables = a.4.tables;
          kept = a.4.kept;
          doubted = a.4.doubted;
          awaited = a.4.awaited;
          failures = a.4.failures;
          limited = a.4.limited;
          counted = ap (λ k. replied k e answer.taken) a.4.counted ∙ sym c.reply.ensures;
          spelled = a.4.spelled;
          sound = a.4.sound;
          office = a.4.office;
        },
        a.5,
        record {
          within = a.6;
          opens = a.7;
          end = λ tells image now. reads_by a.1.records a.1.doubt _ image a.4.doubted (c.reads.ensures.images (bodies_of a.1.records) a.4.kept (subst IsTrue (sym c.answer-reply.ensures.tells) tells) image now);
        },
      );
  limit = c.answer-reply.ensures.limit;
  room = c.answer-reply.ensures.room;
  in_room = c.answer-reply.ensures.in_room;
  faults = c.answer-reply.ensures.faults;
  still = c.answer-reply.ensures.still;
  store = c.answer-reply.ensures.store;
  tells = c.answer-reply.ensures.tells;
}

pub returns-clause-goes_on : goal.returns-clause-goes_on
returns-clause-goes_on g c =
    let q = c.requires.at in
    let answers = returns-clause-answers g c in
    let w = answers.steps q.0 q.1 q.2 q.3 in
    (q.0, q.1, w.0, w.2)
