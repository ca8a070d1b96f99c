use Rattle.std.proofs.Common.{inl, inr, ℕ, List, IfSome}
use Rattle.ht_base.specs.Records.{record_of}
use Rattle.ht_journal.specs.Bodies.{IsNth}
use Rattle.ht_journal.specs.Keeping.{IsKept}
use Rattle.ht_tree.specs.Tables.{TablesOf}
use Rattle.ht_desk.specs.declared.fault.OpenFault.{OpenFault}
use Rattle.ht_desk.specs.Opening.{FailsNext}
use Rattle.ht_desk.specs.Replaying.{Applies}
use Rattle.ht_desk.proofs.Coming.{of_body, of_record}
use Rattle.ht_desk.proofs.Replayed.{told_on}
use Rattle.ht_desk.proofs.replaying.replay_one.Goals as goal

pub returns-in-Err-clause-fault : goal.returns-in-Err-clause-fault
returns-in-Err-clause-fault g c =
    let at : ℕ = c.read_body.new.body.at in
    let bytes : List ℕ = c.read_body.new.body.bytes.items in
    of_body
    (λ (fault : OpenFault). (bodies : List (List ℕ)) → IsKept g.D.Disk bodies c.args.journal.now c.args.disk.now → IfSome (g.D.Disk.gives c.args.disk.now) (λ _. (at : ℕ) × (body : List ℕ) × IsNth bodies c.args.n at body × FailsNext c.args.tables.now.tables c.args.n at body fault))
    _ _ at bytes c.in-Err.fault c.in-Err.ensures.refused
    (λ why bodies kept. told_on (g.D.Disk.gives c.args.disk.now) _ _ (c.in_ok-read_body.ensures.body bodies kept) (λ nth. (at, bytes, nth, inl why)))
    c.in_ok-read_body.ensures.still

pub returns-clause-fault : goal.returns-clause-fault
returns-clause-fault g c =
    let at : ℕ = c.read_body.new.body.at in
    let bytes : List ℕ = c.read_body.new.body.bytes.items in
    of_record
    (λ (fault : OpenFault). (bodies : List (List ℕ)) → IsKept g.D.Disk bodies c.args.journal.now c.args.disk.now → IfSome (g.D.Disk.gives c.args.disk.now) (λ _. (at : ℕ) × (body : List ℕ) × IsNth bodies c.args.n at body × FailsNext c.args.tables.now.tables c.args.n at body fault))
    _ _ c.args.n ((u : TablesOf) → Applies c.args.tables.now.tables (record_of c.in-Ok.kept) u → ⊥) c.in-Err-replay_record.fault c.in-Err-replay_record.ensures.refused
    (λ never e bodies kept. told_on (g.D.Disk.gives c.args.disk.now) _ _ (c.in_ok-read_body.ensures.body bodies kept) (λ nth. (at, bytes, nth, inr ((record_of c.in-Ok.kept, c.in-Ok.ensures.found.0, never), e))))
    c.in_ok-read_body.ensures.still
