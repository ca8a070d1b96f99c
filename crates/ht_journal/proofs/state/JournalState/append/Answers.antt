use Rattle.std.proofs.Common.{inl, subst, sym, IsTrue}
use Rattle.ht_journal.proofs.InParts.{part_reads, no_part}
use Rattle.ht_journal.proofs.Moments.{runs_on, weaker}
use Rattle.ht_journal.proofs.Writes.{from_certain}
use Rattle.ht_journal.proofs.state.JournalState.append.Goals as goal

pub returns-then-body-clause-any_part : goal.returns-then-body-clause-any_part
returns-then-body-clause-any_part g c bodies k tells =
    let disk = c.args.disk.now in
    no_part g.D.Disk bodies c.args.body.now k.fit disk (λ image left. g.met.D.Disk.only_now disk image tells left) (λ image now. from_certain _ _ c.requires.certain bodies image (k.images tells image now))

pub returns-then-body-clause-any_moment : goal.returns-then-body-clause-any_moment
returns-then-body-clause-any_moment g c bodies k tells = weaker g.D.Disk _ _ _ _ (returns-then-body-clause-any_part g c bodies k tells) (part_reads bodies c.args.body.now)

pub returns-then-end-self-clause-any_part : goal.returns-then-end-self-clause-any_part
returns-then-end-self-clause-any_part g c bodies k tells =
    let disk = c.args.disk.now in
    no_part g.D.Disk bodies c.args.body.now k.fit disk (λ image left. g.met.D.Disk.only_now disk image tells left) (λ image now. from_certain _ _ c.requires.certain bodies image (k.images tells image now))

pub returns-then-end-self-clause-any_moment : goal.returns-then-end-self-clause-any_moment
returns-then-end-self-clause-any_moment g c bodies k tells = weaker g.D.Disk _ _ _ _ (returns-then-end-self-clause-any_part g c bodies k tells) (part_reads bodies c.args.body.now)

pub returns-clause-any_part : goal.returns-clause-any_part
returns-clause-any_part g c bodies k tells =
    let still = subst IsTrue (sym c.lengthen.ensures.tells) tells in
    let first = weaker g.D.Disk _ _ _ _ (c.lengthen.ensures.any_moment bodies k tells) (λ image stands. inl stands) in
    runs_on g.D.Disk _ _ _ _ _ first (c.put.ensures.any_part bodies (c.lengthen.ensures.kept bodies k) still) (λ image part. part)
