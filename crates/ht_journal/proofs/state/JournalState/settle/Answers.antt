use Rattle.std.proofs.Common.{option_map, ◌≡◌, ◌-◌, ◌++◌, ◌∷◌, [], List, ℕ, length, Option, IfSome, IsTrue, subst, sym, ap, arith}
use Rattle.std.proofs.lemmas.List.{length_push}
use Rattle.ht_journal.specs.Files.{front, Rests, Doubts}
use Rattle.ht_journal.specs.Keeping.{behind, doubt_of}
use Rattle.ht_journal.specs.Parts.{Reads, Stands}
use Rattle.ht_journal.proofs.Frames.{length-front_push}
use Rattle.ht_journal.proofs.Moments.{weaker, told_same}
use Rattle.ht_journal.proofs.Passed.{told_grows}
use Rattle.ht_journal.proofs.Writes.{images_told, fit_push}
use Rattle.ht_journal.proofs.Looks.{stands_reads, held_body, doubt_size, file_shut, file_kept}
use Rattle.ht_journal.proofs.state.JournalState.settle.Goals as goal

pub returns-in_default-look-clause-any_moment : goal.returns-in_default-look-clause-any_moment
returns-in_default-look-clause-any_moment g c bodies k tells =
    let s = c.args.self.now in
    weaker g.D.Disk c.args.disk.now c.look.new.disk _ (Reads bodies (doubt_of s)) (c.look.ensures.any_moment tells) (λ f now. stands_reads bodies s.buffer.items s.length s.doubt k.fit k.place s.doubted f (k.images tells f now))

pub returns-then-gate-ne1-clause-any_moment : goal.returns-then-gate-ne1-clause-any_moment
returns-then-gate-ne1-clause-any_moment g c bodies k tells =
    let s = c.args.self.now in
    weaker g.D.Disk c.args.disk.now c.look.new.disk _ (Reads bodies (doubt_of s)) (c.look.ensures.any_moment tells) (λ f now. stands_reads bodies s.buffer.items s.length s.doubt k.fit k.place s.doubted f (k.images tells f now))

pub returns-clause-any_moment : goal.returns-clause-any_moment
returns-clause-any_moment g c bodies k tells =
    let s = c.args.self.now in
    weaker g.D.Disk c.args.disk.now c.look.new.disk _ (Reads bodies (doubt_of s)) (c.look.ensures.any_moment tells) (λ f now. stands_reads bodies s.buffer.items s.length s.doubt k.fit k.place s.doubted f (k.images tells f now))

pub returns-then-gate-ne1-clause-settled : goal.returns-then-gate-ne1-clause-settled
returns-then-gate-ne1-clause-settled g c bodies body e k =
    let disk = c.args.disk.now in
    let s = c.args.self.now in
    let at : s.length - 1 ≡ length (front bodies) = omega (arith, k.place) in
    let told : IfSome (g.D.Disk.gives disk) (Doubts bodies body []) = subst (λ (d : Option (List ℕ)). IfSome (g.D.Disk.gives disk) (Stands bodies d)) e k.file in
    let file = file_shut bodies body [] _ _ at (g.D.Disk.gives disk) c.if-gate-ne1.true told c.in-Ok.ensures.byte in
    let now = subst (λ (o : Option (List ℕ)). IfSome o (Rests bodies)) (sym c.look.ensures.file) file in
    record {
      count = k.count;
      place = k.place;
      fit = k.fit;
      told = omega (arith, k.told, c.look.ensures.shown);
      file = now;
      images = λ tells f left.
          let before = subst IsTrue c.look.ensures.tells tells in
          images_told (g.D.Disk.gives c.look.new.disk) (g.D.Disk.may_leave c.look.new.disk) (Rests bodies) (g.met.D.Disk.now_is c.look.new.disk tells) (c.in-Ok.ensures.durable before) now f left;
      reading = told_same (g.D.Disk.gives c.look.new.disk) (g.D.Disk.gives disk) _ (sym c.look.ensures.file) k.reading;
    }

pub returns-clause-settled : goal.returns-clause-settled
returns-clause-settled g c bodies body e k =
    let disk = c.args.disk.now in
    let s = c.args.self.now in
    let at : s.length - 1 ≡ length (front bodies) = omega (arith, k.place) in
    let told : IfSome (g.D.Disk.gives disk) (Doubts bodies body []) = subst (λ (d : Option (List ℕ)). IfSome (g.D.Disk.gives disk) (Stands bodies d)) e k.file in
    let file = file_kept bodies body [] _ _ at (g.D.Disk.gives disk) c.if-gate-ne1.false told c.in-Ok.ensures.byte in
    let now = subst (λ (o : Option (List ℕ)). IfSome o (Rests (bodies ++ body ∷ []))) (sym c.look.ensures.file) file in
    let fits = s.doubted c.in-Some.n c.in-Some.is in
    let size = doubt_size s.buffer.items body s.doubt c.in-Some.n c.in-Some.is e (omega arith) in
    let more = fit_push bodies body k.fit (omega arith) (omega (arith, k.place)) in
    record {
      count = omega (arith, k.count, length_push bodies body);
      place = omega (arith, k.place, length-front_push bodies body, c.from.ensures);
      fit = more;
      told = omega (arith, k.told, ap behind c.in-Some.is, c.from.ensures, c.look.ensures.shown);
      file = now;
      images = λ tells f left.
          let before = subst IsTrue c.look.ensures.tells tells in
          images_told (g.D.Disk.gives c.look.new.disk) (g.D.Disk.may_leave c.look.new.disk) (Rests (bodies ++ body ∷ [])) (g.met.D.Disk.now_is c.look.new.disk tells) (c.in-Ok.ensures.durable before) now f left;
      reading = told_grows (g.D.Disk.gives c.look.new.disk) bodies (body ∷ []) s.reader (omega (arith, k.count, s.passed)) (told_same (g.D.Disk.gives c.look.new.disk) (g.D.Disk.gives disk) _ (sym c.look.ensures.file) k.reading);
    }

pub returns-then-gate-ne1-clause-goes_on : goal.returns-then-gate-ne1-clause-goes_on
returns-then-gate-ne1-clause-goes_on g c =
    let s = c.args.self.now in
    let k = c.requires.kept in
    let body = held_body s.buffer.items c.in-Some.n in
    (k.0, returns-then-gate-ne1-clause-settled g c k.0 body (ap (option_map (held_body s.buffer.items)) c.in-Some.is) k.1)

pub returns-clause-goes_on : goal.returns-clause-goes_on
returns-clause-goes_on g c =
    let s = c.args.self.now in
    let k = c.requires.kept in
    let body = held_body s.buffer.items c.in-Some.n in
    (k.0 ++ body ∷ [], returns-clause-settled g c k.0 body (ap (option_map (held_body s.buffer.items)) c.in-Some.is) k.1)
