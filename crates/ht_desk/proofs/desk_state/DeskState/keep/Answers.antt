use Rattle.std.proofs.Common.{◌≡◌, ◌⊎◌, ℕ, List, [], ◌∷◌, ◌++◌, length, Option, Some, None, IfSome, ap, sym, ◌∙◌, subst, refl, arith}
use Rattle.ht_base.specs.Records.{record_of}
use Rattle.ht_journal.specs.Keeping.{IsKept, doubt_of}
use Rattle.ht_journal.specs.Reasons.{HasRoom}
use Rattle.ht_journal.specs.declared.state.JournalState.{JournalState}
use Rattle.ht_journal.proofs.PublicLaws.{weaker}
use Rattle.ht_desk.specs.Records.{Finds, bodies_of}
use Rattle.ht_desk.specs.declared.desk_state.DeskState.{DeskState}
use Rattle.ht_desk.proofs.Begun.{no_doubt}
use Rattle.ht_desk.proofs.Entered.{failed_entry, full_entry, full_reason, kept_entry, long_reason, store_reason}
use Rattle.ht_desk.proofs.Finding.{reads_by}
use Rattle.ht_desk.proofs.desk_state.DeskState.keep.Goals as goal

pub returns-in-Ok-clause-acts : goal.returns-in-Ok-clause-acts
returns-in-Ok-clause-acts g c beside texts s e r at entry =
    let desk = c.args.self.now in
    let journal : c.commit.new.self.journal ≡ c.append.new.self = ap (λ (d : DeskState). d.journal) c.commit.ensures.same in
    let kept = subst (λ (b : List ℕ). IsKept g.D.Disk (bodies_of s.records ++ b ∷ []) c.append.new.self c.append.new.disk) c.as_slice.ensures (c.in-Ok.ensures.ok (bodies_of s.records) at.kept) in
    kept_entry g.D.Disk beside texts s desk c.commit.new.self c.args.disk.now c.append.new.disk at (no_doubt desk.journal c.requires.certain.0)
    e c.args.reply r c.args.body.now c.args.doubt entry (c.reads.ensures.length (bodies_of s.records) at.kept)
    (subst (λ (j : JournalState). IsKept g.D.Disk (bodies_of s.records ++ c.args.body.now.items ∷ []) j c.append.new.disk) (sym journal) kept)
    (no_doubt c.commit.new.self.journal (ap (λ (j : JournalState). j.doubt) journal ∙ c.in-Ok.ensures.certain))
    (ap (λ (d : DeskState). d.doubt) c.commit.ensures.same ∙ c.requires.certain.1)
    c.commit.ensures.tables
    c.commit.ensures.counts
    (ap (λ (j : JournalState). j.limit) journal ∙ c.append.ensures.limit)
    (subst (λ (b : List ℕ). HasRoom desk.journal b) c.as_slice.ensures c.in-Ok.ensures.reason.1)
    (c.in-Ok.ensures.still (λ e. cc))

pub returns-in-Err-Store-clause-acts : goal.returns-in-Err-Store-clause-acts
returns-in-Err-Store-clause-acts g c beside texts s e r at entry =
    let desk = c.args.self.now in
    let journal : c.note.new.self.journal ≡ c.append.new.self = ap (λ (d : DeskState). d.journal) c.note.ensures in
    let reason = store_reason desk.journal _ _ _ c.in-Err-Store.field-0 c.in-Err-Store.field-0-is c.in-Err-Store.ensures.reason in
    failed_entry g.D.Disk beside texts s desk c.note.new.self c.args.disk.now c.append.new.disk at (no_doubt desk.journal c.requires.certain.0)
    e c.args.reply r c.args.body.now c.args.doubt entry (c.reads.ensures.length (bodies_of s.records) at.kept)
    (doubt_of c.append.new.self) (ap doubt_of journal)
    (λ b is. (subst (λ (o : Option (List ℕ)). IfSome o (λ d. d ≡ c.as_slice.result.now)) is (first (doubt_of c.append.new.self) _ _ c.append.ensures.doubt)) ∙ c.as_slice.ensures)
    (ap (λ (d : DeskState). d.doubt) c.note.ensures)
    (subst (λ (j : JournalState). IsKept g.D.Disk (bodies_of s.records) j c.append.new.disk) (sym journal) (c.in-Err-Store.ensures.err (bodies_of s.records) at.kept))
    (ap (λ (d : DeskState). d.tables) c.note.ensures)
    (ap (λ (d : DeskState). d.counts) c.note.ensures)
    (ap (λ (j : JournalState). j.limit) journal ∙ c.append.ensures.limit)
    (subst (λ (b : List ℕ). HasRoom desk.journal b) c.as_slice.ensures reason.0)
    reason.1
    c.store_reply.result c.store_reply.ensures
  where
    first : (o : Option (List ℕ)) (P Q : List ℕ → Type 0) → IfSome o (λ d. P d × Q d) → IfSome o P
    first None P Q both = tt
    first (Some d) P Q both = both.0

pub returns-in-Err-Full-clause-acts : goal.returns-in-Err-Full-clause-acts
returns-in-Err-Full-clause-acts g c beside texts s e r at entry =
    let desk = c.args.self.now in
    let same = c.in-Err-Full.ensures.refused (λ e. absurd (cc)) refl in
    let over = full_reason desk.journal _ _ _ c.in-Err-Full.field-0 _ c.in-Err-Full.field-0-is c.in-Err-Full.ensures.reason in
    let size : length c.as_slice.result.now ≡ length c.args.body.now.items = ap length c.as_slice.ensures in
    full_entry g.D.Disk beside texts s desk _ c.args.disk.now c.append.new.disk at (no_doubt desk.journal c.requires.certain.0)
    e c.args.reply r c.args.body.now c.args.doubt entry (c.reads.ensures.length (bodies_of s.records) at.kept)
    (ap (λ (j : JournalState). record desk { journal = j }) same.0) same.1 (omega (arith, over, size)) c.full_reply.result c.full_reply.ensures

pub returns-in-Ok-clause-any_moment : goal.returns-in-Ok-clause-any_moment
returns-in-Ok-clause-any_moment g c beside texts s e r at entry tells =
    weaker g.D.Disk c.args.disk.now c.append.new.disk _ (λ image. Finds s.records image ⊎ Finds (s.records ++ record_of r ∷ []) image)
    (c.append.ensures.any_moment (bodies_of s.records) at.kept tells) (λ image found. reads_by s.records (Some (record_of r)) _ image (ap Some (c.as_slice.ensures ∙ entry.body_is)) found)

pub returns-in-Err-Store-clause-any_moment : goal.returns-in-Err-Store-clause-any_moment
returns-in-Err-Store-clause-any_moment g c beside texts s e r at entry tells =
    weaker g.D.Disk c.args.disk.now c.append.new.disk _ (λ image. Finds s.records image ⊎ Finds (s.records ++ record_of r ∷ []) image)
    (c.append.ensures.any_moment (bodies_of s.records) at.kept tells) (λ image found. reads_by s.records (Some (record_of r)) _ image (ap Some (c.as_slice.ensures ∙ entry.body_is)) found)

pub returns-in-Err-Full-clause-any_moment : goal.returns-in-Err-Full-clause-any_moment
returns-in-Err-Full-clause-any_moment g c beside texts s e r at entry tells =
    weaker g.D.Disk c.args.disk.now c.append.new.disk _ (λ image. Finds s.records image ⊎ Finds (s.records ++ record_of r ∷ []) image)
    (c.append.ensures.any_moment (bodies_of s.records) at.kept tells) (λ image found. reads_by s.records (Some (record_of r)) _ image (ap Some (c.as_slice.ensures ∙ entry.body_is)) found)

pub returns-in-Err-Store-clause-store : goal.returns-in-Err-Store-clause-store
returns-in-Err-Store-clause-store g c told = (store_reason c.args.self.now.journal _ _ _ c.in-Err-Store.field-0 c.in-Err-Store.field-0-is c.in-Err-Store.ensures.reason).1

pub unreachable-requires : goal.unreachable-requires
unreachable-requires g c =
    let entry = c.requires.entry.2 in
    let small = (c.spellings_are_short.ensures.length (record_of c.requires.entry.1) c.args.body.now.items (entry.awaits.spelled, entry.body_is)).1 in
    let size : length c.as_slice.result.now ≡ length c.args.body.now.items = ap length c.as_slice.ensures in
    let big = long_reason c.args.self.now.journal _ _ _ c.in-Err-TooLong.field-0 c.in-Err-TooLong.field-0-is c.in-Err-TooLong.ensures.reason in
    omega (arith, small, size, big)
