use Rattle.std.proofs.Common.{◌≡◌, ◌∙◌, Some, None, arith, refl}
use Rattle.std.proofs.lemmas.Result.{err_from_is_err_and}
use Rattle.ht_journal.specs.declared.faults.JournalFault.TheVariants.{Memory, Store}
use Rattle.ht_journal.proofs.Begun.{at_refusal, nothing_done, other_err}
use Rattle.ht_journal.proofs.Frames.{count_front}
use Rattle.ht_journal.proofs.Passed.{told_start}
use Rattle.ht_journal.proofs.opening.open.Goals as goal

pub invariant_of-result : goal.invariant_of-result
invariant_of-result g c =
    let p = c.in_ok-gate.ensures.found in
    let r = p.3.reach in
    let m = c.in_ok-reader.ensures in
    let q = c.find.ensures.gate in
    record {
      sized = c.in_ok-buffer.ensures;
      limited = c.requires;
      reach = omega (arith, p.2);
      counted = omega (arith, p.1, p.2, count_front p.0);
      doubted = λ n (e : None ≡ Some n). absurd (cc);
      passed = omega (arith, m.2, q.1);
      before = omega (arith, m.1, q.0, p.2);
    }

pub returns-in_err-buffer : goal.returns-in_err-buffer
returns-in_err-buffer g c =
    let disk = c.args.disk.now in
    let p = err_from_is_err_and c.from_residual.result c.from_residual.ensures.1 in
    at_refusal g.D.Disk c.args.limit disk disk c.from_residual.result Memory p (nothing_done g.D.Disk c.args.limit disk (λ tells image left. g.met.D.Disk.only_now disk image tells left))

pub returns-in_err-reader : goal.returns-in_err-reader
returns-in_err-reader g c =
    let disk = c.args.disk.now in
    let p = err_from_is_err_and c.from_residual-in_err-reader.result c.from_residual-in_err-reader.ensures.1 in
    at_refusal g.D.Disk c.args.limit disk disk c.from_residual-in_err-reader.result Memory p (nothing_done g.D.Disk c.args.limit disk (λ tells image left. g.met.D.Disk.only_now disk image tells left))

pub returns-in_err-gate : goal.returns-in_err-gate
returns-in_err-gate g c =
    let e = c.find.ensures in
    let fault = c.in_err-gate.field-0.0 in
    let p = err_from_is_err_and c.from_residual-in_err-gate.result c.from_residual-in_err-gate.ensures.1 in
    at_refusal g.D.Disk c.args.limit c.args.disk.now c.find.new.disk c.from_residual-in_err-gate.result fault p (record {
      found = tt;
      fresh = tt;
      written = tt;
      refused = c.in_err-gate.ensures.refused;
      any_moment = e.any_moment;
      same = e.same;
      room = e.room;
      in_room = λ roomy. other_err fault Store (c.in_err-gate.ensures.in_room roomy);
      faults = e.faults;
      still = tt;
      tells = e.tells;
    })

pub returns : goal.returns
returns g c =
    let p = c.in_ok-gate.ensures.found in
    let m = c.in_ok-reader.ensures in
    let e = c.find.ensures in
    let q = e.gate in
    record {
      found = (
        p.0,
        record {
          count = p.1;
          place = omega (arith, p.2);
          fit = p.3;
          told = omega (arith, p.4);
          file = p.5;
          images = p.6;
          reading = told_start (g.D.Disk.gives c.find.new.disk) p.0 _ refl (q.0 ∙ m.1) (q.1 ∙ m.2);
        },
        p.7,
      );
      fresh = (refl, refl);
      written = c.in_ok-gate.ensures.written;
      refused = tt;
      any_moment = e.any_moment;
      same = e.same;
      room = e.room;
      in_room = λ roomy is. absurd (cc);
      faults = e.faults;
      still = c.in_ok-gate.ensures.still;
      tells = e.tells;
    }
