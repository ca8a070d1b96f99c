-- What is written is a function of the bytes read, of the texts and of the words.
use Rattle.std.proofs.Common.{◌≡◌, ◌⊎◌, inl, inr, ℕ, ◌+◌, ◌-◌, ◌≤◌, ◌<◌, Bool, true, false, List, [], ◌∷◌, ◌++◌, length, append_assoc, append-nil, refl, sym, ap, subst, ◌∙◌, arith, Option, Some, None, Result, Ok, Err}
use Rattle.ht_base.specs.declared.event.Event.{Event}
use Rattle.ht_base.specs.declared.record.Record.{Record}
use Rattle.ht_base.specs.declared.reply.Answer.TheVariants.{Refused}
use Rattle.ht_base.specs.declared.reply.Reply.{Reply}
use Rattle.ht_base.specs.Records.{RecordOf, record_of}
use Rattle.ht_codec.proofs.PublicLaws.{one_record}
use Rattle.ht_desk.specs.Opening.{AreOfFile}
use Rattle.ht_desk.specs.Records.{AreSpelled, bodies_of, length_of, spelling}
use Rattle.ht_desk.specs.Replaying.{IsJournalOf, TextsOf}
use Rattle.ht_journal.specs.Files.{contents}
use Rattle.ht_machine.specs.Deciding as machine
use Rattle.ht_tree.specs.Tables.{TablesOf}
use Rattle.ht_wire.specs.declared.request.Request.{Request}
use Rattle.ht_wire.specs.Heads.{IsEnd}
use Rattle.ht_wire.specs.Reading.{IsEither}
use Rattle.ht_wire.specs.Replies.{reply_bytes}
use Rattle.ht_wire.specs.Requests.{AreRequests, IsRefused, IsRequest, IsSame}
use Rattle.ht_wire.proofs.PublicLaws.{one_reason, one_request, request_or_end, request_or_refused}
use Rattle.ht_api.specs.declared.refusal.ApiRefusal.{ApiRefusal}
use Rattle.ht_api.specs.Events.{event_due}
use Rattle.ht_api.proofs.PublicLaws.{same_event}
use Rattle.ht_api.specs.Refusals.{refusal_of}
use Rattle.ht_api.specs.Replies.{answer_text}
use Rattle.ht_api.specs.Statuses.{refusal_status}
use Rattle.ht_outside.specs.Clocks.{moment_of}
use Rattle.ht_serve.specs.Texts.{refusal_bytes, reply_status}
use Rattle.ht_program.specs.Folding.{AreAll, Decided, Folds, IsBehind, IsIn, IsOutput, IsOutputOf, IsRefusedOneWay, OfficeOf, RepliesTo, file_of}
use Rattle.ht_program.specs.Folding.Decided.{nothing_left, kept, full}
use Rattle.ht_program.specs.Inputs.{budget, lasts}
use Rattle.ht_program.specs.Reading.{Reads}
use Rattle.ht_program.specs.Words.{WordsOf}
use Rattle.ht_program.specs.Words.WorkOf.{running}
use Rattle.ht_program.proofs.Said.{one_reading}
use Rattle.ht_program.proofs.TextStatuses.{same_texts}
use Rattle.ht_serve.proofs.PublicLaws.{over_later}

-- ---- one request, read twice

of_last : (limit : ℕ) (t : OfficeOf) (q r : Request) (d : Result Event ApiRefusal) (bytes : List ℕ) (after : OfficeOf) → q.last ≡ r.last → RepliesTo (Decided limit) t q d bytes after → RepliesTo (Decided limit) t r d bytes after
of_last limit t q r (Err why) bytes after last a = (a.0 ∙ ap (λ (b : Bool). reply_bytes (refusal_status (refusal_of why)) (answer_text (Refused (refusal_of why))) b) last, a.1)
of_last limit t q r (Ok e) bytes after last a = (a.0, a.1, a.2 ∙ ap (λ (b : Bool). reply_bytes (reply_status e (a.0).answer) (answer_text (a.0).answer) b) last)

-- ---- behind the requests

at_most : (n : ℕ) (rs : List Request) (rest tail : List ℕ) → IsBehind n rs rest tail → length rs ≤ n
at_most n rs rest tail (inl (none, inl ends)) = ends.0
at_most n rs rest tail (inl (none, inr all)) = let is = all.1 in omega (arith, is)
at_most n rs rest tail (inr refused) = let few = refused.1 in omega (arith, few)

-- no request stands where those in front are all
none_there : (n : ℕ) (s tail : List ℕ) (r : Request) (mid : List ℕ) → IsBehind n [] s tail → 1 ≤ n → IsRequest s r mid → ⊥
none_there n s tail r mid (inl (none, inl (few, inl close))) some is = close
none_there n s tail r mid (inl (none, inl (few, inr both))) some is = request_or_end s r mid is both.1
none_there n s tail r mid (inl (none, inr all)) some is = let count = all.1 in absurd (omega (arith, count, some))
none_there n s tail r mid (inr refused) some is = request_or_refused s r mid refused.2.0 is refused.2.1

all_or_refused : (n : ℕ) (s : List ℕ) (code : ℕ) → AreAll n [] s → 0 < n → (IsEnd s → ⊥) → ⊥
all_or_refused n s code (inl (few, inl close)) some more = close
all_or_refused n s code (inl (few, inr both)) some more = more both.1
all_or_refused n s code (inr all) some more = let count = all.1 in absurd (omega (arith, count, some))

one_tail : (n : ℕ) (s a b : List ℕ) → IsBehind n [] s a → IsBehind n [] s b → (IsRefused s 431 → IsRefused s 400 → ⊥) → a ≡ b
one_tail n s a b (inl x) (inl y) one_way = x.0 ∙ sym y.0
one_tail n s a b (inl x) (inr y) one_way = absurd (all_or_refused n s y.2.0 x.1 y.1 (y.2.1).more)
one_tail n s a b (inr x) (inl y) one_way = absurd (all_or_refused n s x.2.0 y.1 x.1 (x.2.1).more)
one_tail n s a b (inr x) (inr y) one_way = by_code (one_reason s x.2.0 y.2.0 (x.2.1).why (y.2.1).why)
  where
    by_code : (y.2.0 ≡ x.2.0) ⊎ IsEither s x.2.0 y.2.0 → a ≡ b
    by_code (inl same) = x.2.2 ∙ ap refusal_bytes (sym same) ∙ sym y.2.2
    by_code (inr either) = absurd (by_codes either.1)
      where
        by_codes : ((x.2.0 ≡ 431) × (y.2.0 ≡ 400)) ⊎ ((x.2.0 ≡ 400) × (y.2.0 ≡ 431)) → ⊥
        by_codes (inl first) = one_way (subst (λ (c : ℕ). IsRefused s c) first.0 x.2.1) (subst (λ (c : ℕ). IsRefused s c) first.1 y.2.1)
        by_codes (inr second) = one_way (subst (λ (c : ℕ). IsRefused s c) second.1 y.2.1) (subst (λ (c : ℕ). IsRefused s c) second.0 x.2.1)

-- what is behind requests is behind those that follow the first
behind_first : (n : ℕ) (q : Request) (qs : List Request) (rest tail : List ℕ) → q.last ≡ false → IsBehind n (q ∷ qs) rest tail → IsBehind (n - 1) qs rest tail
behind_first n q qs rest tail going (inl (none, inl ends)) = inl (none, inl ((let few = ends.0 in omega (arith, few)), over_later q.last (lasts qs) rest (λ last. absurd (cc)) ends.1))
behind_first n q qs rest tail going (inl (none, inr all)) = inl (none, inr (all.0.1, (let count = all.1 in omega (arith, count))))
behind_first n q qs rest tail going (inr refused) = inr (refused.0.1, (let few = refused.1 in omega (arith, few)), refused.2)

-- nothing is written behind a request that closes
tail_closed : (n : ℕ) (q : Request) (qs : List Request) (rest tail : List ℕ) → q.last ≡ true → IsBehind n (q ∷ qs) rest tail → tail ≡ []
tail_closed n q qs rest tail last (inl all) = all.0
tail_closed n q qs rest tail last (inr refused) = absurd (let going = refused.0.0 in cc)

none_folded : (limit : ℕ) (moment : ℕ → ℕ) (t : OfficeOf) (rs : List Request) (bytes : List ℕ) → rs ≡ [] → Folds (Decided limit) moment t rs bytes → bytes ≡ []
none_folded limit moment t [] bytes none folds = folds
none_folded limit moment t (r ∷ rs) bytes none folds = absurd (cc)

only_first : (first others tail out : List ℕ) → out ≡ first ++ others → others ≡ [] → tail ≡ [] → out ++ tail ≡ first
only_first first others tail out is none nothing = (λ i. (is ∙ ap (λ l. first ++ l) none) i ++ nothing i) ∙ append-nil (first ++ []) ∙ append-nil first

-- ---- the fold

module _ (limit : ℕ) (one_left : (t : TablesOf) (e : Event) (k l : Option Record) (r s : Reply) (u v : TablesOf) → machine.Decides t e k r u → machine.Decides t e l s v → k ≡ l)
    (one_reply : (t : TablesOf) (e : Event) (k l : Option Record) (r s : Reply) (u v : TablesOf) → machine.Decides t e k r u → machine.Decides t e l s v → r ≡ s)
    (one_after : (t : TablesOf) (e : Event) (k l : Option Record) (r s : Reply) (u v : TablesOf) → machine.Decides t e k r u → machine.Decides t e l s v → u ≡ v) where
  same_record : (t : TablesOf) (e : Event) (r s : Record) (p q : Reply) (u v : TablesOf) → machine.Decides t e (Some r) p u → machine.Decides t e (Some s) q v → r ≡ s
  same_record t e r s p q u v a b = let found : Some r ≡ Some s = one_left t e (Some r) (Some s) p q u v a b in cc

  some_or_none : (t : TablesOf) (e : Event) (r : Record) (p q : Reply) (u v : TablesOf) → machine.Decides t e None p u → machine.Decides t e (Some r) q v → ⊥
  some_or_none t e r p q u v a b = let found = one_left t e None (Some r) p q u v a b in absurd (cc)

  fits_or_not : (records : List RecordOf) (r s : Record) → r ≡ s → length_of (records ++ record_of r ∷ []) ≤ limit → limit < length_of (records ++ record_of s ∷ []) → ⊥
  fits_or_not records r s same fits over =
      let long = subst (λ (x : Record). length_of (records ++ record_of x ∷ []) ≤ limit) same fits in
      omega (arith, long, over)

  same_decided : (t : OfficeOf) (e : Event) (p q : Reply) (a b : OfficeOf) → Decided limit t e p a → Decided limit t e q b → (p ≡ q) × (a ≡ b)
  same_decided t e p q a b (nothing_left u d is) (nothing_left v f js) = (one_reply t.tables e None None p q u v d f, is ∙ sym js)
  same_decided t e p q a b (nothing_left u d is) (kept s v f fits js) = absurd (some_or_none t.tables e s p q u v d f)
  same_decided t e p q a b (nothing_left u d is) (full s y v f over told js) = absurd (some_or_none t.tables e s p y u v d f)
  same_decided t e p q a b (kept r u d fits is) (nothing_left v f js) = absurd (some_or_none t.tables e r q p v u f d)
  same_decided t e p q a b (kept r u d fits is) (kept s v f fit js) =
      let mine = same_record t.tables e r s p q u v d f in
      let after = one_after t.tables e (Some r) (Some s) p q u v d f in
      (one_reply t.tables e (Some r) (Some s) p q u v d f, is ∙ (λ i. record { tables = after i; records = t.records ++ record_of (mine i) ∷ [] }) ∙ sym js)
  same_decided t e p q a b (kept r u d fits is) (full s y v f over told js) = absurd (fits_or_not t.records r s (same_record t.tables e r s p y u v d f) fits over)
  same_decided t e p q a b (full r x u d over told is) (nothing_left v f js) = absurd (some_or_none t.tables e r q x v u f d)
  same_decided t e p q a b (full r x u d over told is) (kept s v f fits js) = absurd (fits_or_not t.records s r (same_record t.tables e s r q x v u f d) fits over)
  same_decided t e p q a b (full r x u d over told is) (full s y v f long other js) = (told ∙ sym other, is ∙ sym js)

  same_replies : (t : OfficeOf) (r : Request) (d : Result Event ApiRefusal) (a b : List ℕ) (u v : OfficeOf) → RepliesTo (Decided limit) t r d a u → RepliesTo (Decided limit) t r d b v → (a ≡ b) × (u ≡ v)
  same_replies t r (Err why) a b u v x y = (x.0 ∙ sym y.0, x.1 ∙ sym y.1)
  same_replies t r (Ok e) a b u v x y =
      let one = same_decided t e x.0 y.0 u v x.1 y.1 in
      (x.2 ∙ ap (λ (p : Reply). reply_bytes (reply_status e p.answer) (answer_text p.answer) r.last) one.0 ∙ sym y.2, one.1)

  one_fold : (moment : ℕ → ℕ) (n : ℕ) (t : OfficeOf) (s : List ℕ) (qs rs : List Request) (a b : List ℕ) (x y tail other : List ℕ)
      → AreRequests s qs a → AreRequests s rs b → IsBehind n qs a tail → IsBehind n rs b other → Folds (Decided limit) moment t qs x → Folds (Decided limit) moment t rs y → IsRefusedOneWay s → x ++ tail ≡ y ++ other
  one_fold moment n t s [] [] a b x y tail other stand stood behind after folds folded one_way =
      let same : tail ≡ other = one_tail n s tail other (subst (λ (l : List ℕ). IsBehind n [] l tail) (sym stand) behind) (subst (λ (l : List ℕ). IsBehind n [] l other) (sym stood) after) (one_way [] s refl tt) in
      (λ i. (folds ∙ sym folded) i ++ same i)
  one_fold moment n t s [] (r ∷ rs) a b x y tail other stand stood behind after folds folded one_way =
      let some = at_most n (r ∷ rs) b other after in
      absurd (none_there n s tail r stood.0 (subst (λ (l : List ℕ). IsBehind n [] l tail) (sym stand) behind) (omega (arith, some)) stood.1)
  one_fold moment n t s (q ∷ qs) [] a b x y tail other stand stood behind after folds folded one_way =
      let some = at_most n (q ∷ qs) a tail behind in
      absurd (none_there n s other q stand.0 (subst (λ (l : List ℕ). IsBehind n [] l other) (sym stood) after) (omega (arith, some)) stand.1)
  one_fold moment n t s (q ∷ qs) (r ∷ rs) a b x y tail other stand stood behind after folds folded one_way =
      by_last q.last refl (λ going.
      one_fold (λ k. moment (k + 1)) (n - 1) folds.1 stand.0 qs rs a b folds.2 folded.2 tail other stand.3 (subst (λ (l : List ℕ). AreRequests l rs b) (sym same.1) stood.3)
      (behind_first n q qs a tail going behind) (behind_first n r rs b other ((same.0).last ∙ going) after) folds.4 (subst (λ (u : OfficeOf). Folds (Decided limit) (λ k. moment (k + 1)) u rs folded.2) (sym first.1) folded.4)
      (λ asked rest are open_still. one_way (q ∷ asked) rest (stand.0, stand.1, (λ last. absurd (cc)), are) (going, open_still)))
    where
      same : IsSame r q × (stand.0 ≡ stood.0)
      same = one_request s q r stand.0 stood.0 stand.1 stood.1

      mine : RepliesTo (Decided limit) t q (event_due q (moment 0)) folded.0 folded.1
      mine =
          subst (λ (d : Result Event ApiRefusal). RepliesTo (Decided limit) t q d folded.0 folded.1) (same_event r q (moment 0) same.0)
          (of_last limit t r q (event_due r (moment 0)) folded.0 folded.1 (same.0).last folded.3)

      first : (folds.0 ≡ folded.0) × (folds.1 ≡ folded.1)
      first = same_replies t q (event_due q (moment 0)) folds.0 folded.0 folds.1 folded.1 folds.3 mine

      by_last : (last : Bool) → q.last ≡ last → (q.last ≡ false → folds.2 ++ tail ≡ folded.2 ++ other) → x ++ tail ≡ y ++ other
      by_last true closes later =
          only_first folds.0 folds.2 tail x folds.5 (none_folded limit (λ k. moment (k + 1)) folds.1 qs folds.2 (stand.2 closes) folds.4) (tail_closed n q qs a tail closes behind)
          ∙ first.0
          ∙ sym (only_first folded.0 folded.2 other y folded.5 (none_folded limit (λ k. moment (k + 1)) folded.1 rs folded.2 (stood.2 ((same.0).last ∙ closes)) folded.4) (tail_closed n r rs b other ((same.0).last ∙ closes) after))
      by_last false going later =
          let others = later going in
          ap (λ l. l ++ tail) folds.5 ∙ append_assoc folds.0 folds.2 tail ∙ (λ i. first.0 i ++ others i) ∙ sym (append_assoc folded.0 folded.2 other) ∙ ap (λ l. l ++ other) (sym folded.5)

  pub one_output : (moment : ℕ → ℕ) (most : ℕ) (t : OfficeOf) (bytes a b : List ℕ) → IsOutput (Decided limit) moment most t bytes a → IsOutput (Decided limit) moment most t bytes b → IsRefusedOneWay bytes → a ≡ b
  one_output moment most t bytes a b x y one_way =
      x.all ∙ one_fold moment most t bytes x.asked y.asked x.rest y.rest x.replies y.replies x.tail y.tail x.stand y.stand x.behind y.behind x.folds y.folds one_way ∙ sym y.all

-- ---- the words, the texts and the journal

same_bodies : (a b : List RecordOf) → AreSpelled a → AreSpelled b → bodies_of a ≡ bodies_of b → a ≡ b
same_bodies [] [] p q same = refl
same_bodies [] (y ∷ b) p q same = absurd (cc)
same_bodies (x ∷ a) [] p q same = absurd (cc)
same_bodies (x ∷ a) (y ∷ b) p q same =
    let first : spelling x ≡ spelling y = cc in
    let others : bodies_of a ≡ bodies_of b = cc in
    let one = (one_record x y (spelling x) (spelling y) [] (p.0, refl) (q.0, refl) (sym first ∙ sym (append-nil (spelling x)))).0 in
    let rest = same_bodies a b p.1 q.1 others in
    λ i. one i ∷ rest i

some_records : (texts : TextsOf) (records : List RecordOf) (t : TablesOf) → IsJournalOf texts records t → bodies_of records ≡ [] → ⊥
some_records texts records t journal none = let is = ap bodies_of journal.opened in absurd (cc)

same_contents : (file : List ℕ) (a b : List (List ℕ)) → contents file ≡ Ok a → contents file ≡ Ok b → a ≡ b
same_contents file a b p q = cc

same_records : (texts : TextsOf) (file : List ℕ) (a b : OfficeOf) → IsIn texts (Some file) a → IsIn texts (Some file) b → AreOfFile texts a.records file → AreOfFile texts b.records file → a.records ≡ b.records
same_records texts file a b p q (inl found) (inl other) = same_bodies a.records b.records p.spelled q.spelled (same_contents file (bodies_of a.records) (bodies_of b.records) found other)
same_records texts file a b p q (inl found) (inr new) = absurd (some_records texts a.records a.tables p.journal (same_contents file (bodies_of a.records) [] found new.0))
same_records texts file a b p q (inr new) (inl found) = absurd (some_records texts b.records b.tables q.journal (same_contents file (bodies_of b.records) [] found new.0))
same_records texts file a b p q (inr new) (inr other) = new.1 ∙ sym other.1

one_pace : (a b m n : ℕ) → running a b ≡ running m n → (a ≡ m) × (b ≡ n)
one_pace a b m n e = (cc, cc)

module _ (one_state : (texts : TextsOf) (records : List RecordOf) (t u : TablesOf) → IsJournalOf texts records t → IsJournalOf texts records u → t ≡ u) where
  pub same_office : (texts : TextsOf) (file : List ℕ) (a b : OfficeOf) → IsIn texts (Some file) a → IsIn texts (Some file) b → a ≡ b
  same_office texts file a b p q =
      let records = same_records texts file a b p q p.found q.found in
      let tables = one_state texts b.records a.tables b.tables (subst (λ (l : List RecordOf). IsJournalOf texts l a.tables) records p.journal) q.journal in
      λ i. record { tables = tables i; records = records i }

module _ (one_left : (t : TablesOf) (e : Event) (k l : Option Record) (r s : Reply) (u v : TablesOf) → machine.Decides t e k r u → machine.Decides t e l s v → k ≡ l)
    (one_reply : (t : TablesOf) (e : Event) (k l : Option Record) (r s : Reply) (u v : TablesOf) → machine.Decides t e k r u → machine.Decides t e l s v → r ≡ s)
    (one_after : (t : TablesOf) (e : Event) (k l : Option Record) (r s : Reply) (u v : TablesOf) → machine.Decides t e k r u → machine.Decides t e l s v → u ≡ v)
    (one_state : (texts : TextsOf) (records : List RecordOf) (t u : TablesOf) → IsJournalOf texts records t → IsJournalOf texts records u → t ≡ u) where
  pub one_output_of : (words : List (List ℕ)) (told : List ℕ → List ℕ) (file bytes a b : List ℕ) → IsOutputOf words told file bytes a → IsOutputOf words told file bytes b → IsRefusedOneWay bytes → a ≡ b
  one_output_of words told file bytes a b x y one_way =
      let said : y.said ≡ x.said = one_reading words y.said x.said y.said_is x.said_is in
      let pace = one_pace y.from y.step x.from x.step (sym y.serves ∙ ap (λ (w : WordsOf). w.work) said ∙ x.serves) in
      let reads = subst (λ (w : WordsOf). Reads w.texts (Some told) (Ok y.texts)) said y.reads in
      let texts = same_texts (x.said).texts told y.texts x.texts reads x.reads in
      let opens = subst (λ (t : TextsOf). IsIn t (Some (file_of (x.said).journal file)) y.office) texts (subst (λ (w : WordsOf). IsIn y.texts (Some (file_of w.journal file)) y.office) said y.opens) in
      let office = same_office one_state x.texts (file_of (x.said).journal file) y.office x.office opens x.opens in
      let mine = subst (λ (w : WordsOf). IsOutput (Decided w.limit) (moment_of y.from y.step) budget y.office bytes b) said y.output in
      let paced = subst (λ (n : ℕ). IsOutput (Decided (x.said).limit) (moment_of x.from n) budget y.office bytes b) pace.1 (subst (λ (n : ℕ). IsOutput (Decided (x.said).limit) (moment_of n y.step) budget y.office bytes b) pace.0 mine) in
      let other = subst (λ (o : OfficeOf). IsOutput (Decided (x.said).limit) (moment_of x.from x.step) budget o bytes b) office paced in
      one_output (x.said).limit one_left one_reply one_after (moment_of x.from x.step) budget x.office bytes a b x.output other one_way
