use Rattle.std.proofs.Common.{◌≡◌, ◌≢◌, ◌⊎◌, ⊎_elim, inl, inr, ℕ, List, IfSome, subst}
use Rattle.ht_base.specs.Records.{RecordOf, record_of}
use Rattle.ht_codec.specs.Records.{Spells}
use Rattle.ht_journal.specs.Bodies.{IsNth}
use Rattle.ht_journal.specs.Keeping.{IsKept}
use Rattle.ht_desk.specs.declared.fault.OpenFault.{OpenFault}
use Rattle.ht_desk.specs.declared.fault.OpenFault.TheVariants.{RecordRefused, TextsDiffer}
use Rattle.ht_desk.specs.Opening.{FailsFirst}
use Rattle.ht_desk.specs.Replaying.{TextsOf, opening_of}
use Rattle.ht_desk.proofs.Coming.{of_body, of_first}
use Rattle.ht_desk.proofs.Replayed.{told_on}
use Rattle.ht_desk.proofs.beginning.compare_first.Goals as goal

-- it is no Opening, or of others
abbrev IsNone : RecordOf → Type 0
IsNone r = (texts : TextsOf) → r ≢ opening_of texts

abbrev AreOthers : RecordOf → TextsOf → Type 0
AreOthers r texts = (others : TextsOf) × (r ≡ opening_of others) × (others ≢ texts)

abbrev IsOther : RecordOf → TextsOf → OpenFault → Type 0
IsOther r texts fault = (IsNone r × (fault ≡ RecordRefused 1)) ⊎ (AreOthers r texts × (fault ≡ TextsDiffer))

sorted : (r : RecordOf) (texts : TextsOf) (fault : OpenFault) → (((some : TextsOf) → r ≢ opening_of some) × (fault ≡ RecordRefused 1)) ⊎ ((others : TextsOf) × (r ≡ opening_of others) × (others ≢ texts) × (fault ≡ TextsDiffer)) → IsOther r texts fault
sorted r texts fault why = ⊎_elim (λ w. inl w) (λ w. inr ((w.0, w.1, w.2), w.3)) why

fails : (r : RecordOf) (texts : TextsOf) (at : ℕ) (body : List ℕ) (fault : OpenFault) → Spells r body → IsOther r texts fault → FailsFirst texts at body fault
fails r texts at body fault spells why = ⊎_elim
    (λ (w : IsNone r × (fault ≡ RecordRefused 1)). inr (inl ((r, spells, w.0), w.1)))
    (λ (w : AreOthers r texts × (fault ≡ TextsDiffer)). let o : AreOthers r texts = w.0 in inr (inr ((o.0, subst (λ (x : RecordOf). Spells x body) o.1 spells, o.2), w.1)))
    why

pub returns-in-Err-clause-fault : goal.returns-in-Err-clause-fault
returns-in-Err-clause-fault g c =
    let at : ℕ = c.in_ok-body.body.at in
    let bytes : List ℕ = c.in_ok-body.body.bytes.items in
    let texts : TextsOf = record { models = c.args.models.now; people = c.args.people.now } in
    of_body
    (λ (fault : OpenFault). (bodies : List (List ℕ)) → IsKept g.D.Disk bodies c.args.journal.now c.args.disk.now → IfSome (g.D.Disk.gives c.args.disk.now) (λ _. (at : ℕ) × (body : List ℕ) × IsNth bodies 1 at body × FailsFirst texts at body fault))
    _ _ at bytes c.in-Err.fault c.in-Err.ensures.refused
    (λ why bodies kept. told_on (g.D.Disk.gives c.args.disk.now) _ _ (c.in_ok-body.ensures.body bodies kept) (λ nth. (at, bytes, nth, inl why)))
    c.in_ok-body.ensures.still

pub returns-clause-fault : goal.returns-clause-fault
returns-clause-fault g c =
    let at : ℕ = c.in_ok-body.body.at in
    let bytes : List ℕ = c.in_ok-body.body.bytes.items in
    let texts : TextsOf = record { models = c.args.models.now; people = c.args.people.now } in
    let r : RecordOf = record_of c.in-Ok.kept in
    let fault : OpenFault = c.in-Err-compare_opening.fault in
    of_first
    (λ (fault : OpenFault). (bodies : List (List ℕ)) → IsKept g.D.Disk bodies c.args.journal.now c.args.disk.now → IfSome (g.D.Disk.gives c.args.disk.now) (λ _. (at : ℕ) × (body : List ℕ) × IsNth bodies 1 at body × FailsFirst texts at body fault))
    _ _ (IsNone r) (AreOthers r texts) fault (sorted r texts fault c.in-Err-compare_opening.ensures.fault)
    (λ why bodies kept. told_on (g.D.Disk.gives c.args.disk.now) _ _ (c.in_ok-body.ensures.body bodies kept) (λ nth. (at, bytes, nth, fails r texts at bytes fault c.in-Ok.ensures.found.0 why)))
    c.in_ok-body.ensures.still
