use Rattle.std.proofs.Common.{◌≡◌, ◌+◌, ◌-◌, ◌++◌, ◌∷◌, [], length, take, Err, OnErr, Result, IsTrue, subst, sym, ap, ◌∙◌, arith, refl}
use Rattle.std.proofs.lemmas.List.{length_push}
use Rattle.std.proofs.lemmas.Result.{err_from_is_err_and}
use Rattle.ht_journal.specs.Files.{front, Rests, Doubts}
use Rattle.ht_journal.proofs.Frames.{length-front_push}
use Rattle.ht_journal.proofs.InParts.{first_parts, last_parts}
use Rattle.ht_journal.proofs.Moments.{told_weaker}
use Rattle.ht_journal.proofs.Passed.{told_forgets, told_forgets_twice, told_grows}
use Rattle.ht_journal.proofs.Writes.{put, from_certain, to_certain, at_err, file_behind, images_behind, file_staged, file_gate, images_gate, file_opened, images_told, fit_push, framed, buffered, length-staged, in_doubt}
use Rattle.ht_journal.proofs.state.JournalState.put.Goals as goal

pub returns-in_err-stored-clause-err : goal.returns-in_err-stored-clause-err
returns-in_err-stored-clause-err g c =
    at_err c.from_residual.result (λ bodies k.
    let disk = c.args.disk.now in
    let body = c.args.body.now in
    let told = told_weaker (g.D.Disk.gives disk) _ (Rests bodies) (from_certain _ _ c.requires.certain bodies) k.file in
    let n = length body in
    let items = buffered c.args.self.now.buffer.len c.stage.new.buffer c.args.self.now.buffer.items c.deref.result.now c.deref.ensures.value (omega arith) in
    let is = ap (take (n + 5)) items ∙ c.stage.ensures in
    let file = file_behind bodies body _ _ k.place is _ _ _ told c.in_err-stored.ensures.torn in
    record {
      count = k.count;
      place = k.place;
      fit = k.fit;
      told = omega (arith, k.told, c.stored.ensures.shown.0);
      file = told_weaker (g.D.Disk.gives c.stored.new.disk) (Rests bodies) _ (to_certain _ _ c.requires.certain bodies) file;
      images = λ tells f now.
          let before = subst IsTrue c.stored.ensures.tells tells in
          to_certain _ _ c.requires.certain bodies f (images_behind bodies body _ _ k.place is _ _ _ (λ d was. from_certain _ _ c.requires.certain bodies d (k.images before d was)) (c.stored.ensures.crash before) f now);
      reading = told_forgets _ (g.D.Disk.gives disk) (g.D.Disk.gives c.stored.new.disk) bodies c.args.self.now.reader _ refl refl refl c.in_err-stored.ensures.torn k.reading;
    })

pub returns-in_err-stored-clause-any_part : goal.returns-in_err-stored-clause-any_part
returns-in_err-stored-clause-any_part g c bodies k tells =
    first_parts g.D.Disk bodies c.args.body.now k.fit c.args.disk.now c.stored.new.disk _ _ k.place (λ image now. from_certain _ _ c.requires.certain bodies image (k.images tells image now)) (c.stored.ensures.any_moment tells)

pub returns-in_err-stored-2-clause-any_part : goal.returns-in_err-stored-2-clause-any_part
returns-in_err-stored-2-clause-any_part g c bodies k tells =
    let disk = c.args.disk.now in
    let mid = c.stored.new.disk in
    let body = c.args.body.now in
    let told = told_weaker (g.D.Disk.gives disk) _ (Rests bodies) (from_certain _ _ c.requires.certain bodies) k.file in
    let items = buffered c.args.self.now.buffer.len c.stage.new.buffer c.args.self.now.buffer.items c.deref.result.now c.deref.ensures.value (omega arith) in
    let is = ap (take (length body + 5)) items ∙ c.stage.ensures in
    let staged = file_staged bodies body _ _ k.place is _ _ told c.in_ok-stored.ensures.written in
    let still = subst IsTrue (sym c.stored.ensures.tells) tells in
    let doubts = images_told (g.D.Disk.gives mid) (g.D.Disk.may_leave mid) (Doubts bodies body []) (g.met.D.Disk.now_is mid still) (c.in_ok-stored.ensures.durable tells) staged in
    let first = first_parts g.D.Disk bodies body k.fit disk mid _ _ k.place (λ image now. from_certain _ _ c.requires.certain bodies image (k.images tells image now)) (c.stored.ensures.any_moment tells) in
    last_parts g.D.Disk bodies body k.fit disk mid c.stored-2.new.disk _ (fit_push bodies body k.fit (omega arith) (omega (arith, k.place))) (omega (arith, k.place)) first doubts (c.stored-2.ensures.any_moment still)

pub returns-clause-any_part : goal.returns-clause-any_part
returns-clause-any_part g c bodies k tells =
    let disk = c.args.disk.now in
    let mid = c.stored.new.disk in
    let body = c.args.body.now in
    let told = told_weaker (g.D.Disk.gives disk) _ (Rests bodies) (from_certain _ _ c.requires.certain bodies) k.file in
    let items = buffered c.args.self.now.buffer.len c.stage.new.buffer c.args.self.now.buffer.items c.deref.result.now c.deref.ensures.value (omega arith) in
    let is = ap (take (length body + 5)) items ∙ c.stage.ensures in
    let staged = file_staged bodies body _ _ k.place is _ _ told c.in_ok-stored.ensures.written in
    let still = subst IsTrue (sym c.stored.ensures.tells) tells in
    let doubts = images_told (g.D.Disk.gives mid) (g.D.Disk.may_leave mid) (Doubts bodies body []) (g.met.D.Disk.now_is mid still) (c.in_ok-stored.ensures.durable tells) staged in
    let first = first_parts g.D.Disk bodies body k.fit disk mid _ _ k.place (λ image now. from_certain _ _ c.requires.certain bodies image (k.images tells image now)) (c.stored.ensures.any_moment tells) in
    last_parts g.D.Disk bodies body k.fit disk mid c.stored-2.new.disk _ (fit_push bodies body k.fit (omega arith) (omega (arith, k.place))) (omega (arith, k.place)) first doubts (c.stored-2.ensures.any_moment still)

pub returns-in_err-stored-2-clause-doubt : goal.returns-in_err-stored-2-clause-doubt
returns-in_err-stored-2-clause-doubt g c =
    let p = err_from_is_err_and c.from_residual-in_err-stored-2.result c.from_residual-in_err-stored-2.ensures.1 in
    let n = length c.args.body.now in
    let items = buffered c.args.self.now.buffer.len c.stage.new.buffer c.args.self.now.buffer.items _ refl (omega arith) in
    (framed c.args.body.now _ (ap (take (n + 5)) items ∙ c.stage.ensures), p.1 ∙ ap Err p.2)

pub returns-in_err-stored-2-clause-err : goal.returns-in_err-stored-2-clause-err
returns-in_err-stored-2-clause-err g c =
    at_err c.from_residual-in_err-stored-2.result (λ bodies k.
    let disk = c.args.disk.now in
    let body = c.args.body.now in
    let told = told_weaker (g.D.Disk.gives disk) _ (Rests bodies) (from_certain _ _ c.requires.certain bodies) k.file in
    let n = length body in
    let items = buffered c.args.self.now.buffer.len c.stage.new.buffer c.args.self.now.buffer.items c.deref.result.now c.deref.ensures.value (omega arith) in
    let is = ap (take (n + 5)) items ∙ c.stage.ensures in
    let staged = file_staged bodies body _ _ k.place is _ _ told c.in_ok-stored.ensures.written in
    let gate : c.args.self.now.length - 1 ≡ length (front bodies) = omega (arith, k.place) in
    let kept = buffered c.args.self.now.buffer.len c.stage.new.buffer c.args.self.now.buffer.items _ refl (omega arith) in
    let same = framed body _ (ap (take (n + 5)) kept ∙ c.stage.ensures) in
    record {
      count = k.count;
      place = k.place;
      fit = k.fit;
      told = omega (arith, length-staged _ _ is, c.in_ok-stored.ensures.shown.1, c.stored-2.ensures.shown.0);
      file = told_weaker (g.D.Disk.gives c.stored-2.new.disk) (Doubts bodies body []) _ (in_doubt bodies body _ same) (file_gate bodies body _ gate _ _ staged c.in_err-stored-2.ensures.torn);
      images = λ tells f now.
          let still = subst IsTrue c.stored-2.ensures.tells tells in
          let before = subst IsTrue c.stored.ensures.tells still in
          let doubts = images_told (g.D.Disk.gives c.stored.new.disk) (g.D.Disk.may_leave c.stored.new.disk) (Doubts bodies body []) (g.met.D.Disk.now_is c.stored.new.disk still) (c.in_ok-stored.ensures.durable before) staged in
          in_doubt bodies body _ same f (images_gate bodies body _ gate _ _ doubts (c.stored-2.ensures.crash still) f now);
      reading = told_forgets_twice _ _ (g.D.Disk.gives disk) (g.D.Disk.gives c.stored.new.disk) (g.D.Disk.gives c.stored-2.new.disk) bodies c.args.self.now.reader _ refl refl refl c.in_ok-stored.ensures.written c.in_err-stored-2.ensures.torn k.reading;
    })

pub returns-clause-ok : goal.returns-clause-ok
returns-clause-ok g c bodies k =
    let disk = c.args.disk.now in
    let body = c.args.body.now in
    let told = told_weaker (g.D.Disk.gives disk) _ (Rests bodies) (from_certain _ _ c.requires.certain bodies) k.file in
    let n = length body in
    let items = buffered c.args.self.now.buffer.len c.stage.new.buffer c.args.self.now.buffer.items c.deref.result.now c.deref.ensures.value (omega arith) in
    let is = ap (take (n + 5)) items ∙ c.stage.ensures in
    let staged = file_staged bodies body _ _ k.place is _ _ told c.in_ok-stored.ensures.written in
    let gate : c.args.self.now.length - 1 ≡ length (front bodies) = omega (arith, k.place) in
    let file = file_opened bodies body _ gate _ _ staged c.in_ok-stored-2.ensures.written in
    let size = length-staged body _ is in
    record {
      count = omega (arith, k.count, length_push bodies body);
      place = omega (arith, k.place, length-front_push bodies body);
      fit = fit_push bodies body k.fit (omega arith) (omega (arith, k.place));
      told = omega (arith, size, c.in_ok-stored.ensures.shown.1, c.stored-2.ensures.shown.0);
      file = file;
      images = λ tells f now.
          let still = subst IsTrue c.stored-2.ensures.tells tells in
          images_told (g.D.Disk.gives c.stored-2.new.disk) (g.D.Disk.may_leave c.stored-2.new.disk) (Rests (bodies ++ body ∷ [])) (g.met.D.Disk.now_is c.stored-2.new.disk tells) (c.in_ok-stored-2.ensures.durable still) file f now;
      reading = told_grows (g.D.Disk.gives c.stored-2.new.disk) bodies (body ∷ []) _ (omega (arith, k.count)) (told_forgets_twice _ _ (g.D.Disk.gives disk) (g.D.Disk.gives c.stored.new.disk) (g.D.Disk.gives c.stored-2.new.disk) bodies c.args.self.now.reader _ refl refl refl c.in_ok-stored.ensures.written c.in_ok-stored-2.ensures.written k.reading);
    }

-- what is said of an Err, of one that is
from_err : {T E P : Type 0} (r : Result T E) (y : E) → r ≡ Err y → OnErr r P → P
from_err {P = P} r y is h = subst (λ s. OnErr s P) is h

pub returns-in_err-stored-clause-goes_on : goal.returns-in_err-stored-clause-goes_on
returns-in_err-stored-clause-goes_on g c =
    let p = err_from_is_err_and c.from_residual.result c.from_residual.ensures.1 in
    let k = c.requires.kept in
    (k.0, from_err c.from_residual.result p.0 p.1 (returns-in_err-stored-clause-err g c) k.0 k.1)

pub returns-in_err-stored-2-clause-goes_on : goal.returns-in_err-stored-2-clause-goes_on
returns-in_err-stored-2-clause-goes_on g c =
    let p = err_from_is_err_and c.from_residual-in_err-stored-2.result c.from_residual-in_err-stored-2.ensures.1 in
    let k = c.requires.kept in
    (k.0, from_err c.from_residual-in_err-stored-2.result p.0 p.1 (returns-in_err-stored-2-clause-err g c) k.0 k.1)

pub returns-clause-written : goal.returns-clause-written
returns-clause-written g c =
    let body = c.args.body.now in
    let items = buffered c.args.self.now.buffer.len c.stage.new.buffer c.args.self.now.buffer.items c.deref.result.now c.deref.ensures.value (omega arith) in
    let is = ap (take (length body + 5)) items ∙ c.stage.ensures in
    put c.args.self.now.length body _ (g.D.Disk.gives c.args.disk.now) (g.D.Disk.gives c.stored.new.disk) (g.D.Disk.gives c.stored-2.new.disk) is c.in_ok-stored.ensures.written c.in_ok-stored-2.ensures.written

pub returns-clause-goes_on : goal.returns-clause-goes_on
returns-clause-goes_on g c = let k = c.requires.kept in (k.0 ++ c.args.body.now ∷ [], returns-clause-ok g c k.0 k.1)
