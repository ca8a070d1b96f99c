-- What comes of an entry that is to be kept.
use Rattle.std.proofs.Common.{◌≡◌, inl, inr, ℕ, ◌+◌, ◌<◌, ◌≤◌, List, [], ◌∷◌, ◌++◌, length, Option, Some, None, option_map, ap, sym, ◌∙◌, subst, refl, arith}
use Rattle.ht_base.specs.Bytes.{BytesOf}
use Rattle.ht_base.specs.declared.event.Event.{Event}
use Rattle.ht_base.specs.declared.record.Record.{Record}
use Rattle.ht_base.specs.declared.reply.Reply.{Reply}
use Rattle.ht_base.specs.Records.{RecordOf, record_of}
use Rattle.ht_journal.specs.Files.{journal_length}
use Rattle.ht_journal.specs.Keeping.{IsKept, doubt_of}
use Rattle.ht_journal.specs.Reasons.{HasReason, HasRoom}
use Rattle.ht_journal.specs.declared.faults.AppendRefusal.{AppendRefusal}
use Rattle.ht_journal.specs.declared.faults.AppendRefusal.TheVariants.{Full, Store, TooLong}
use Rattle.ht_journal.specs.declared.state.JournalState.{JournalState}
use Rattle.ht_machine.specs.Deciding.{Decides}
use Rattle.ht_outside.specs.Causes.{together}
use Rattle.ht_outside.specs.Causes.{Rose}
use Rattle.ht_outside.specs.declared.disk.Disk.{Ghosts}
use Rattle.ht_tree.specs.Plans.{committed}
use Rattle.ht_tree.specs.Tables.{RoomyTables, TablesOf}
use Rattle.ht_desk.specs.declared.desk_state.DeskState.{DeskState}
use Rattle.ht_desk.specs.declared.doubt.Doubt.{Doubt}
use Rattle.ht_desk.specs.declared.entry.Entry.{Entry}
use Rattle.ht_desk.specs.Counting.{with_joined}
use Rattle.ht_desk.specs.Keeping.{AreAwaited, Awaits, IsAt}
use Rattle.ht_desk.specs.Records.{bodies_of, length_of, spelling}
use Rattle.ht_desk.specs.Replaying.{Applies, TextsOf}
use Rattle.ht_desk.specs.Staging.{IsEntryOf, IsStagedAs, noted}
use Rattle.ht_desk.specs.States.{State, is_asking}
use Rattle.ht_desk.specs.Steps.{Acts, full_reply, memory_reply, store_reply, with_record}
use Rattle.ht_desk.specs.Steps.Acts.{done, failed, full, nothing_left, out_of_memory}
use Rattle.ht_desk.proofs.Finding.{bodies_push, none_by, spelled_push}
use Rattle.ht_desk.proofs.Lengths.{length_push}
use Rattle.ht_desk.proofs.Replayed.{office_push}

-- ---- why an append was refused

pub store_reason : (j : JournalState) (body : List ℕ) (m n : ℕ) (x : AppendRefusal) → x ≡ Store → HasReason j body m n x → HasRoom j body × Rose m n
store_reason j body m n x is reason = let r : HasReason j body m n Store = subst (λ y. HasReason j body m n y) is reason in (r.1, r.2)

pub long_reason : (j : JournalState) (body : List ℕ) (m n : ℕ) (x : AppendRefusal) → x ≡ TooLong → HasReason j body m n x → 1048576 < length body
long_reason j body m n x is reason = subst (λ y. HasReason j body m n y) is reason

pub full_reason : (j : JournalState) (body : List ℕ) (m n : ℕ) (x : AppendRefusal) (at : ℕ) → x ≡ Full at → HasReason j body m n x → j.limit < j.length + 4 + length body + 1
full_reason j body m n x at is reason = let r : HasReason j body m n (Full at) = subst (λ y. HasReason j body m n y) is reason in r.1

-- ---- what comes of it

module _ {D : Type 0} (d : Ghosts D) (beside : ℕ) (texts : TextsOf) (s : State) (desk new : DeskState) (old now : D) (at : IsAt d beside texts s desk old) (sure : doubt_of desk.journal ≡ None)
    (e : Event) (reply : Reply) (r : Record) (body : BytesOf) (doubt : Doubt) (entry : IsEntryOf desk.tables e reply r body doubt) (long : (desk.journal).length ≡ journal_length (bodies_of s.records)) where
  abbrev pub Ends : Reply → Type 0
  Ends answer = (t : State) × Acts s e answer t × IsAt d beside texts t new now

  none : s.doubt ≡ None
  none = none_by s.doubt (sym sure ∙ at.doubted)

  abbrev pub after : TablesOf
  after = committed (desk.tables).tables doubt.plan doubt.at.0

  decides : Decides s.tables e (Some r) reply after
  decides = subst (λ (t : TablesOf). Decides t e (Some r) reply after) (sym at.tables) entry.decides

  applies : Applies s.tables (record_of r) after
  applies = subst (λ (t : TablesOf). Applies t (record_of r) after) (sym at.tables) (entry.awaits).applies

  size : length body.items ≡ length (spelling (record_of r))
  size = ap length entry.body_is

  fits : HasRoom desk.journal body.items → length_of (s.records ++ record_of r ∷ []) ≤ s.limit
  fits room = let l = length_push s.records (record_of r) in let b = size in let k = at.limited in let j = long in omega arith

  pub kept_entry : IsKept d (bodies_of s.records ++ body.items ∷ []) new.journal now → doubt_of new.journal ≡ None → new.doubt ≡ None → (new.tables).tables ≡ after → new.counts ≡ with_joined desk.counts doubt.asked → (new.journal).limit ≡ (desk.journal).limit
      → HasRoom desk.journal body.items → d.faults now ≡ d.faults old → Ends reply
  kept_entry kept certain quiet tables counts limit room still =
      let u : TablesOf = after in
      let t : State = with_record s (record_of r) u in (
        t,
        done r u none decides (fits room) refl,
        record {
          tables = sym tables;
          kept = subst (λ bodies. IsKept d bodies new.journal now) (ap (λ b. bodies_of s.records ++ b ∷ []) entry.body_is ∙ sym (bodies_push s.records (record_of r))) kept;
          doubted = certain ∙ ap (option_map spelling) (sym none);
          awaited = subst (λ (o : Option Doubt). AreAwaited new.tables o s.doubt) (sym quiet) (subst (λ (o : Option RecordOf). AreAwaited new.tables None o) (sym none) tt);
          failures = at.failures ∙ ap (λ n. together n beside) (sym still);
          limited = at.limited ∙ sym limit;
          counted = ap (λ c. with_joined c (is_asking (record_of r))) at.counted ∙ (ap (λ b. with_joined desk.counts b) (sym (entry.awaits).asked) ∙ sym counts);
          spelled = spelled_push s.records (record_of r) at.spelled (entry.awaits).spelled;
          sound = (entry.awaits).sound;
          office = office_push texts s.records (record_of r) s.tables u at.office applies;
        },
      )

  pub full_entry : new ≡ desk → now ≡ old → (desk.journal).limit < (desk.journal).length + 4 + length body.items + 1 → (answer : Reply) → answer ≡ full_reply → Ends answer
  full_entry same stays over answer told =
      let l = length_push s.records (record_of r) in
      let b = size in
      let k = at.limited in
      let j = long in
      let N : DeskState → Type 0 = λ x. IsAt d beside texts s x now in
      let M : D → Type 0 = λ x. IsAt d beside texts s desk x in
      (s, full r reply after none decides (omega arith) told refl, subst N (sym same) (subst M (sym stays) at))

  -- a disk failed, and the body is in doubt or isn't there
  pub failed_entry : (o : Option (List ℕ)) → doubt_of new.journal ≡ o → ((b : List ℕ) → o ≡ Some b → b ≡ body.items) → new.doubt ≡ noted o doubt → IsKept d (bodies_of s.records) new.journal now → new.tables ≡ desk.tables → new.counts ≡ desk.counts → (new.journal).limit ≡ (desk.journal).limit
      → HasRoom desk.journal body.items → Rose (d.faults old) (d.faults now) → (answer : Reply) → answer ≡ store_reply → Ends answer
  failed_entry None is what held kept tables counts limit room rose answer told =
      let t : State = record s { faults = together (d.faults now) beside } in (
        t,
        failed r reply after none decides (fits room) told (let f = at.failures in omega (arith, rose, f)) (inl refl),
        record {
          tables = at.tables ∙ ap (λ (x : RoomyTables). x.tables) (sym tables);
          kept = kept;
          doubted = is ∙ ap (option_map spelling) (sym none);
          awaited = subst (λ (o : Option Doubt). AreAwaited new.tables o s.doubt) (sym held) (subst (λ (o : Option RecordOf). AreAwaited new.tables None o) (sym none) tt);
          failures = refl;
          limited = at.limited ∙ sym limit;
          counted = at.counted ∙ sym counts;
          spelled = at.spelled;
          sound = at.sound;
          office = at.office;
        },
      )
  failed_entry (Some b) is what held kept tables counts limit room rose answer told =
      let t : State = record s { doubt = Some (record_of r); faults = together (d.faults now) beside } in (
        t,
        failed r reply after none decides (fits room) told (let f = at.failures in omega (arith, rose, f)) (inr refl),
        record {
          tables = at.tables ∙ ap (λ (x : RoomyTables). x.tables) (sym tables);
          kept = kept;
          doubted = is ∙ ap Some (what b refl ∙ entry.body_is);
          awaited = subst (λ (o : Option Doubt). AreAwaited new.tables o (Some (record_of r))) (sym held) (subst (λ (x : RoomyTables). Awaits x doubt (record_of r)) (sym tables) entry.awaits);
          failures = refl;
          limited = at.limited ∙ sym limit;
          counted = at.counted ∙ sym counts;
          spelled = at.spelled;
          sound = at.sound;
          office = at.office;
        },
      )

-- ---- what was staged

module _ {D : Type 0} (d : Ghosts D) (beside : ℕ) (texts : TextsOf) (s : State) where
  -- the tables were prepared for a plan, and are seen as before
  pub staged_at : (desk new : DeskState) (disk : D) → IsAt d beside texts s desk disk → new ≡ record desk { tables = new.tables } → (new.tables).tables ≡ (desk.tables).tables → desk.doubt ≡ None → s.doubt ≡ None
      → IsAt d beside texts s new disk
  staged_at desk new disk at same tables quiet none = record {
    tables = at.tables ∙ sym tables;
    kept = subst (λ (j : JournalState). IsKept d (bodies_of s.records) j disk) (sym (ap (λ (x : DeskState). x.journal) same)) at.kept;
    doubted = ap (λ (x : DeskState). doubt_of x.journal) same ∙ at.doubted;
    awaited = subst (λ (o : Option Doubt). AreAwaited new.tables o s.doubt) (sym (ap (λ (x : DeskState). x.doubt) same ∙ quiet)) (subst (λ (o : Option RecordOf). AreAwaited new.tables None o) (sym none) tt);
    failures = at.failures;
    limited = at.limited ∙ sym (ap (λ (x : DeskState). (x.journal).limit) same);
    counted = at.counted ∙ sym (ap (λ (x : DeskState). x.counts) same);
    spelled = at.spelled;
    sound = at.sound;
    office = at.office;
  }

  pub idle_acts : (new : DeskState) (disk : D) → IsAt d beside texts s new disk → (e : Event) (reply : Reply) → s.doubt ≡ None → (o : Option Entry) → o ≡ None → IsStagedAs new.tables e reply o
      → (t : State) × Acts s e reply t × IsAt d beside texts t new disk
  idle_acts new disk at e reply none o is staged =
      let left : IsStagedAs new.tables e reply None = subst (λ p. IsStagedAs new.tables e reply p) is staged in
      (s, nothing_left left.0 none (subst (λ (t : TablesOf). Decides t e None reply left.0) (sym at.tables) left.1) refl, at)

  pub spent_acts : (new : DeskState) (disk : D) → IsAt d beside texts s new disk → (e : Event) (answer : Reply) → s.doubt ≡ None → answer ≡ memory_reply → (t : State) × Acts s e answer t × IsAt d beside texts t new disk
  spent_acts new disk at e answer none told = (s, out_of_memory none told refl, at)
