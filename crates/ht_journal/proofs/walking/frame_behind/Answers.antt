use Rattle.std.proofs.Common.{◌+◌, arith}
use Rattle.ht_journal.proofs.Nth.{told_behind, told_cut}
use Rattle.ht_journal.proofs.walking.frame_behind.Goals as goal

pub returns-then-from-end-clause-behind : goal.returns-then-from-end-clause-behind
returns-then-from-end-clause-behind g c =
    let gate = c.args.reader.now.gate in
    told_cut (g.D.Disk.gives c.args.disk.now) gate c.args.end c.from_le_bytes.result c.min-n.result (gate + 5) c.read.new.into (omega arith) c.from_le_bytes.ensures c.in_ok-read.ensures.bytes c.min-n.ensures (omega arith)

pub returns-clause-behind : goal.returns-clause-behind
returns-clause-behind g c =
    told_behind (g.D.Disk.gives c.args.disk.now) c.args.reader.now.gate c.args.end c.from_le_bytes.result c.min-n.result c.read.new.into (omega arith) c.from_le_bytes.ensures c.in_ok-read.ensures.bytes c.min-n.ensures
