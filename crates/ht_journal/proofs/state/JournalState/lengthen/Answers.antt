use Rattle.std.proofs.Common.{◌+◌, ◌≤◌, List, None, ℕ, length, refl, subst, IsTrue, arith}
use Rattle.ht_journal.specs.Files.{front, Rests}
use Rattle.ht_journal.specs.Parts.{StandsAndReads}
use Rattle.ht_journal.proofs.Frames.{contents_rests}
use Rattle.ht_journal.proofs.Moments.{both_told, goes_on, started, told_weaker}
use Rattle.ht_journal.proofs.Passed.{told_forgets}
use Rattle.ht_journal.proofs.Tearing.{lengthened, torn_past}
use Rattle.ht_journal.proofs.Writes.{from_certain, to_certain}
use Rattle.ht_journal.proofs.state.JournalState.lengthen.Goals as goal

pub returns-in_default-clause-any_moment : goal.returns-in_default-clause-any_moment
returns-in_default-clause-any_moment g c bodies k tells =
    let disk = c.args.disk.now in
    started g.D.Disk disk (StandsAndReads bodies None) (λ image left.
    let rests = from_certain _ _ c.requires.certain bodies image (k.images tells image (g.met.D.Disk.only_now disk image tells left)) in
    (rests, contents_rests bodies image k.fit rests))

pub returns-then-end-reach-clause-any_moment : goal.returns-then-end-reach-clause-any_moment
returns-then-end-reach-clause-any_moment g c bodies k tells =
    let disk = c.args.disk.now in
    started g.D.Disk disk (StandsAndReads bodies None) (λ image left.
    let rests = from_certain _ _ c.requires.certain bodies image (k.images tells image (g.met.D.Disk.only_now disk image tells left)) in
    (rests, contents_rests bodies image k.fit rests))

pub returns-in_err-write_at-clause-kept : goal.returns-in_err-write_at-clause-kept
returns-in_err-write_at-clause-kept g c bodies k =
    let disk = c.args.disk.now in
    let new = c.write_at.new.self in
    let past : length (front bodies) + 1 ≤ c.min-far.result = omega (arith, k.place, c.min-far.ensures, c.from.ensures) in
    let told = told_weaker (g.D.Disk.gives disk) _ (Rests bodies) (from_certain _ _ c.requires.certain bodies) k.file in
    let torn = c.in_err-write_at.ensures.torn in
    let file = both_told _ (g.D.Disk.gives disk) (g.D.Disk.gives new) (Rests bodies) (Rests bodies) torn told (λ d f rests t. torn_past bodies d f _ _ past rests t) in
    record {
      count = k.count;
      place = k.place;
      fit = k.fit;
      told = omega (arith, k.told, c.in_err-write_at.ensures.shown_err);
      file = told_weaker (g.D.Disk.gives new) (Rests bodies) _ (to_certain _ _ c.requires.certain bodies) file;
      images = λ tells f now.
          let before = subst IsTrue c.write_at.ensures.tells tells in
          let from = c.write_at.ensures.crash before f now in
          to_certain _ _ c.requires.certain bodies f (torn_past bodies from.0 f _ _ past (from_certain _ _ c.requires.certain bodies from.0 (k.images before from.0 from.1)) from.2);
      reading = told_forgets _ (g.D.Disk.gives disk) (g.D.Disk.gives new) bodies c.args.self.now.reader _ refl refl refl torn k.reading;
    }

pub returns-in_err-write_at-clause-any_moment : goal.returns-in_err-write_at-clause-any_moment
returns-in_err-write_at-clause-any_moment g c bodies k tells =
    let disk = c.args.disk.now in
    let past : length (front bodies) + 1 ≤ c.min-far.result = omega (arith, k.place, c.min-far.ensures, c.from.ensures) in
    let rests : (image : List ℕ) → g.D.Disk.may_leave disk image → Rests bodies image = λ image now. from_certain _ _ c.requires.certain bodies image (k.images tells image now) in
    let begun = started g.D.Disk disk (StandsAndReads bodies None) (λ image left.
    let at_start = rests image (g.met.D.Disk.only_now disk image tells left) in
    (at_start, contents_rests bodies image k.fit at_start)) in
    goes_on g.D.Disk disk disk c.write_at.new.self (StandsAndReads bodies None) _ begun (c.write_at.ensures.time tells) (λ image now.
    let from = c.write_at.ensures.crash tells image now in
    let behind = torn_past bodies from.0 image _ _ past (rests from.0 from.1) from.2 in
    (behind, contents_rests bodies image k.fit behind))

pub returns-clause-kept : goal.returns-clause-kept
returns-clause-kept g c bodies k =
    let disk = c.args.disk.now in
    let new = c.write_at.new.self in
    let past : length (front bodies) + 1 ≤ c.min-far.result = omega (arith, k.place, c.min-far.ensures, c.from.ensures) in
    let told = told_weaker (g.D.Disk.gives disk) _ (Rests bodies) (from_certain _ _ c.requires.certain bodies) k.file in
    let written = c.in_ok-write_at.ensures.written in
    let file = both_told _ (g.D.Disk.gives disk) (g.D.Disk.gives new) (Rests bodies) (Rests bodies) written told (λ d f rests t. lengthened bodies d f _ past rests t) in
    record {
      count = k.count;
      place = k.place;
      fit = k.fit;
      told = omega (arith, k.told, c.in_ok-write_at.ensures.shown);
      file = told_weaker (g.D.Disk.gives new) (Rests bodies) _ (to_certain _ _ c.requires.certain bodies) file;
      images = λ tells f now.
          let before = subst IsTrue c.write_at.ensures.tells tells in
          let from = c.write_at.ensures.crash before f now in
          to_certain _ _ c.requires.certain bodies f (torn_past bodies from.0 f _ _ past (from_certain _ _ c.requires.certain bodies from.0 (k.images before from.0 from.1)) from.2);
      reading = told_forgets _ (g.D.Disk.gives disk) (g.D.Disk.gives new) bodies c.args.self.now.reader _ refl refl refl written k.reading;
    }

pub returns-clause-any_moment : goal.returns-clause-any_moment
returns-clause-any_moment g c bodies k tells =
    let disk = c.args.disk.now in
    let past : length (front bodies) + 1 ≤ c.min-far.result = omega (arith, k.place, c.min-far.ensures, c.from.ensures) in
    let rests : (image : List ℕ) → g.D.Disk.may_leave disk image → Rests bodies image = λ image now. from_certain _ _ c.requires.certain bodies image (k.images tells image now) in
    let begun = started g.D.Disk disk (StandsAndReads bodies None) (λ image left.
    let at_start = rests image (g.met.D.Disk.only_now disk image tells left) in
    (at_start, contents_rests bodies image k.fit at_start)) in
    goes_on g.D.Disk disk disk c.write_at.new.self (StandsAndReads bodies None) _ begun (c.write_at.ensures.time tells) (λ image now.
    let from = c.write_at.ensures.crash tells image now in
    let behind = torn_past bodies from.0 image _ _ past (rests from.0 from.1) from.2 in
    (behind, contents_rests bodies image k.fit behind))
