use Rattle.std.proofs.Common.{◌≡◌, ◌⊎◌, [], ◌∷◌, ◌++◌, Option, Some, None, option_map, true, false, ap, sym, ◌∙◌, subst, refl}
use Rattle.ht_journal.specs.Keeping.{IsKept, doubt_of}
use Rattle.ht_journal.specs.Reasons.{settled_bodies}
use Rattle.ht_journal.specs.declared.faults.Settled.{Settled}
use Rattle.ht_journal.specs.declared.state.JournalState.{JournalState}
use Rattle.ht_journal.proofs.PublicLaws.{started, weaker}
use Rattle.ht_desk.specs.Keeping.{AreAwaited}
use Rattle.ht_desk.specs.Records.{Finds, FindsAlso, bodies_of, spelling}
use Rattle.ht_desk.specs.declared.desk_state.DeskState.{DeskState}
use Rattle.ht_desk.specs.declared.doubt.Doubt.{Doubt}
use Rattle.ht_desk.proofs.Begun.{no_doubt}
use Rattle.ht_desk.proofs.DoubtSettled.{awaits_some, has_joined, is_certain, is_dropped, is_undecided, not_there, some_awaited}
use Rattle.ht_desk.proofs.Finding.{none_when, reads_by, some_by}
use Rattle.ht_desk.proofs.desk_state.DeskState.settle.Goals as goal

pub returns-then-not-doubtful-clause-settles : goal.returns-then-not-doubtful-clause-settles
returns-then-not-doubtful-clause-settles g c beside texts s at =
    is_certain g.D.Disk beside texts s c.args.self.now c.args.self.now c.args.disk.now c.args.disk.now at (none_when s.doubt _ _ c.doubtful.ensures.body c.if-not-doubtful.true at.doubted) refl refl

pub returns-then-not-doubtful-clause-any_moment : goal.returns-then-not-doubtful-clause-any_moment
returns-then-not-doubtful-clause-any_moment g c beside texts s at tells =
    let disk = c.args.disk.now in
    started g.D.Disk disk (λ image. Finds s.records image ⊎ FindsAlso s.records s.doubt image)
    (λ image left. reads_by s.records s.doubt _ image at.doubted (c.reads.ensures.images (bodies_of s.records) at.kept tells image (g.met.D.Disk.only_now disk image tells left)))

pub returns-in-Store-clause-settles : goal.returns-in-Store-clause-settles
returns-in-Store-clause-settles g c beside texts s at =
    let r = some_by s.doubt _ _ c.doubtful.ensures.body c.if-not-doubtful.false at.doubted in
    let stays = c.in-Store.ensures.store refl in
    let body : doubt_of c.args.self.now.journal ≡ Some (spelling r.0) = at.doubted ∙ ap (option_map spelling) r.1 in
    is_undecided g.D.Disk beside texts s c.args.self.now _ c.args.disk.now c.settle-settled.new.disk at r.0 r.1
    (c.in-Store.ensures.settled (bodies_of s.records) (spelling r.0) body at.kept) (ap doubt_of stays.0) refl refl refl c.settle-settled.ensures.limit stays.1

pub returns-in-Store-clause-any_moment : goal.returns-in-Store-clause-any_moment
returns-in-Store-clause-any_moment g c beside texts s at tells =
    weaker g.D.Disk c.args.disk.now c.settle-settled.new.disk _ (λ image. Finds s.records image ⊎ FindsAlso s.records s.doubt image)
    (c.settle-settled.ensures.any_moment (bodies_of s.records) at.kept tells) (λ image found. reads_by s.records s.doubt _ image at.doubted found)

pub commit-requires : goal.commit-requires
commit-requires g c =
    let q = c.requires in
    let tables = c.args.self.now.tables in
    let w = awaits_some tables c.in-Some.doubt q.2.doubt (subst (λ (o : Option Doubt). AreAwaited tables o q.2.doubt) (sym c.in-Some.ensures.value) q.3.awaited) in
    record { fits = w.1.fits; prepared = w.1.prepared; sound = w.1.sound; later = w.1.later }

pub returns-in-Kept : goal.returns-in-Kept
returns-in-Kept g c =
    let journal : c.commit.new.self.journal ≡ c.settle-settled.new.self = ap (λ (d : DeskState). d.journal) c.commit.ensures.same in
    let quiet : c.commit.new.self.doubt ≡ None = ap (λ (d : DeskState). d.doubt) c.commit.ensures.same ∙ c.take.ensures.after in
    let certain : c.commit.new.self.journal.doubt ≡ None = ap (λ (j : JournalState). j.doubt) journal ∙ c.settle-settled.ensures.certain c.in_default.not-Store in
    let limit = ap (λ (j : JournalState). j.limit) journal ∙ c.settle-settled.ensures.limit in
    record {
      settles = λ beside texts s at.
          let has = sym c.in-Some.ensures.value in
          let r = some_awaited c.args.self.now.tables c.in-Some.doubt s.doubt (subst (λ (o : Option Doubt). AreAwaited c.args.self.now.tables o s.doubt) has at.awaited) in
          has_joined g.D.Disk beside texts s c.args.self.now c.commit.new.self c.args.disk.now c.settle-settled.new.disk at r.0 r.1 c.in-Some.doubt has
          (subst (λ (j : JournalState). IsKept g.D.Disk (bodies_of s.records ++ spelling r.0 ∷ []) j c.settle-settled.new.disk) (sym journal)
          (c.in-Kept.ensures.settled (bodies_of s.records) (spelling r.0) (at.doubted ∙ ap (option_map spelling) r.1) at.kept))
          (no_doubt c.commit.new.self.journal certain) quiet c.commit.ensures.tables c.commit.ensures.counts limit (c.settle-settled.ensures.still c.in_default.not-Store);
      certain = λ e. (certain, quiet);
      any_moment = λ beside texts s at tells.
          weaker g.D.Disk c.args.disk.now c.settle-settled.new.disk _ (λ image. Finds s.records image ⊎ FindsAlso s.records s.doubt image)
          (c.settle-settled.ensures.any_moment (bodies_of s.records) at.kept tells) (λ image found. reads_by s.records s.doubt _ image at.doubted found);
      limit = limit;
      room = c.settle-settled.ensures.room;
      in_room = λ roomy. refl;
      faults = c.settle-settled.ensures.faults;
      still = λ e. c.settle-settled.ensures.still c.in_default.not-Store;
      store = λ (e : true ≡ false). absurd (cc);
      tells = c.settle-settled.ensures.tells;
    }

pub returns-in_default-settled : goal.returns-in_default-settled
returns-in_default-settled g c = record {
  settles = λ beside texts s at.
      let r = some_awaited c.args.self.now.tables c.in-Some.doubt s.doubt (subst (λ (o : Option Doubt). AreAwaited c.args.self.now.tables o s.doubt) (sym c.in-Some.ensures.value) at.awaited) in
      is_dropped g.D.Disk beside texts s c.args.self.now _ c.args.disk.now c.settle-settled.new.disk at r.0 r.1
      (subst (λ (x : Settled). IsKept g.D.Disk (settled_bodies (bodies_of s.records) (spelling r.0) x) c.settle-settled.new.self c.settle-settled.new.disk)
      (not_there c.settle-settled.result c.in_default-settled.not-Kept c.in_default.not-Store)
      (c.settle-settled.ensures.settled (bodies_of s.records) (spelling r.0) (at.doubted ∙ ap (option_map spelling) r.1) at.kept))
      (no_doubt c.settle-settled.new.self (c.settle-settled.ensures.certain c.in_default.not-Store)) c.take.ensures.after refl refl c.settle-settled.ensures.limit (c.settle-settled.ensures.still c.in_default.not-Store);
  certain = λ e. (c.settle-settled.ensures.certain c.in_default.not-Store, c.take.ensures.after);
  any_moment = λ beside texts s at tells.
      weaker g.D.Disk c.args.disk.now c.settle-settled.new.disk _ (λ image. Finds s.records image ⊎ FindsAlso s.records s.doubt image)
      (c.settle-settled.ensures.any_moment (bodies_of s.records) at.kept tells) (λ image found. reads_by s.records s.doubt _ image at.doubted found);
  limit = c.settle-settled.ensures.limit;
  room = c.settle-settled.ensures.room;
  in_room = λ roomy. refl;
  faults = c.settle-settled.ensures.faults;
  still = λ e. c.settle-settled.ensures.still c.in_default.not-Store;
  store = λ (e : true ≡ false). absurd (cc);
  tells = c.settle-settled.ensures.tells;
}
