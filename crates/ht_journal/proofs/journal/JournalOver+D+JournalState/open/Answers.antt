use Rattle.std.proofs.Common.{◌≡◌, subst}
use Rattle.ht_journal.specs.Openings.{IsRefused}
use Rattle.ht_journal.specs.declared.faults.JournalFault.{JournalFault}
use Rattle.ht_journal.specs.declared.faults.JournalFault.TheVariants.{Damaged}
use Rattle.ht_journal.proofs.journal.JournalOver+D+JournalState.open.Goals as goal

pub returns-in-Err-clause-damaged : goal.returns-in-Err-clause-damaged
returns-in-Err-clause-damaged g c at is =
    let same : c.in-Err.fault ≡ Damaged at = cc in
    let refused = subst (λ (fault : JournalFault). IsRefused g.D.Disk c.args.disk.now c.open.new.disk fault) same c.in-Err.ensures.refused in
    refused.0
