use Rattle.std.proofs.Common.{◌∙◌}
use Rattle.ht_journal.proofs.Frames.{front_length}
use Rattle.ht_journal.proofs.Moments.{told_weaker}
use Rattle.ht_journal.proofs.Looks.{stands_reads}
use Rattle.ht_journal.proofs.state.JournalState.reads.Goals as goal

pub returns-clause-length : goal.returns-clause-length
returns-clause-length g c bodies k = k.place ∙ front_length bodies

pub returns-clause-file : goal.returns-clause-file
returns-clause-file g c bodies k =
    let s = c.args.self.now in
    told_weaker (g.D.Disk.gives c.args.disk.now) _ _ (stands_reads bodies s.buffer.items s.length s.doubt k.fit k.place s.doubted) k.file

pub returns-clause-images : goal.returns-clause-images
returns-clause-images g c bodies k tells f now =
    let s = c.args.self.now in
    stands_reads bodies s.buffer.items s.length s.doubt k.fit k.place s.doubted f (k.images tells f now)
