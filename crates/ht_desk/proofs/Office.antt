-- The journal of an office is at fault in nothing.
use Rattle.std.proofs.Common.{◌≡◌, ◌≢◌, ◌-◌, ⊎_elim, ℕ, zero, suc, List, [], ◌∷◌, ◌++◌, take, Some, Result, Ok, Err, ap, sym, ◌∙◌, subst, refl, append-nil}
use Rattle.ht_base.specs.declared.event.Event.{Event}
use Rattle.ht_base.specs.declared.record.Record.{Record}
use Rattle.ht_base.specs.declared.record.Record.TheVariants as records
use Rattle.ht_base.specs.Records.{RecordOf, record_of}
use Rattle.ht_codec.proofs.PublicLaws.{not_refused, one_record}
use Rattle.ht_codec.specs.Records.{Spells}
use Rattle.ht_journal.specs.Files.{contents}
use Rattle.ht_machine.proofs.PublicLaws.{applied_once}
use Rattle.ht_machine.specs.History as machine
use Rattle.ht_machine.specs.History.{event_of}
use Rattle.ht_models.specs.declared.refusal.ModelsRefusal.{ModelsRefusal}
use Rattle.ht_models.specs.declared.refusal.ModelsRefusal.TheVariants as models_refusal
use Rattle.ht_models.specs.Model.{ModelOf}
use Rattle.ht_models.specs.Reading as models_text
use Rattle.ht_people.specs.declared.refusal.PeopleRefusal.{PeopleRefusal}
use Rattle.ht_people.specs.declared.refusal.PeopleRefusal.TheVariants as people_refusal
use Rattle.ht_people.specs.Directory.{DirectoryOf}
use Rattle.ht_people.specs.Reading as people_text
use Rattle.ht_tree.specs.Tables.{TablesOf, empty_tables}
use Rattle.ht_desk.specs.declared.fault.OpenFault.{OpenFault}
use Rattle.ht_desk.specs.Opening.{AreOfFile, Fails, FailsAt, FailsFirst, FailsNext, IsNoRecord}
use Rattle.ht_desk.specs.Opening.FailsAt.{at_first, at_next}
use Rattle.ht_desk.specs.Records.{AreSpelled, Finds, IsSpelled, bodies_of, spelling}
use Rattle.ht_desk.specs.Replaying.{Applies, Begins, IsJournalOf, Replays, TextsOf, opening_of}

-- ---- tables that are led to in one way

abbrev pub ModelsOnce : Type 0
ModelsOnce = (text : List ℕ) (a b : Result (List ModelOf) ModelsRefusal) → models_text.Reads text a → models_text.Reads text b → a ≢ Err models_refusal.Memory → b ≢ Err models_refusal.Memory → a ≡ b

abbrev pub PeopleOnce : Type 0
PeopleOnce = (text : List ℕ) (a b : Result DirectoryOf PeopleRefusal) → people_text.Reads text a → people_text.Reads text b → a ≢ Err people_refusal.Memory → b ≢ Err people_refusal.Memory → a ≡ b

same_read : {A E : Type 0} (a b : A) (x y : Result A E) → x ≡ Ok a → y ≡ Ok b → x ≡ y → a ≡ b
same_read a b x y is js e = cc

pub begins_once : ModelsOnce → PeopleOnce → (texts : TextsOf) (t u : TablesOf) → Begins texts t → Begins texts u → t ≡ u
begins_once one other texts t u (m, p, rm, rp, is) (n, q, sn, sq, js) =
    let a : m ≡ n = same_read m n (Ok m) (Ok n) refl refl (one texts.models (Ok m) (Ok n) rm sn (λ e. cc) (λ e. cc)) in
    let b : p ≡ q = same_read p q (Ok p) (Ok q) refl refl (other texts.people (Ok p) (Ok q) rp sq (λ e. cc) (λ e. cc)) in
    is ∙ (ap (λ x. empty_tables x p) a ∙ (ap (λ y. empty_tables n y) b ∙ sym js))

-- a record of an event has these bytes alone
same_kept : (k l : Record) (e : Event) → event_of k ≡ Some e → record_of k ≡ record_of l → k ≡ l
same_kept (records.Opening m p) l e is same = absurd (cc)
same_kept (records.Turn at) (records.Opening m p) e is same = absurd (cc)
same_kept (records.Turn at) (records.Turn bt) e is same = cc
same_kept (records.Turn at) (records.Asked bt x y z w) e is same = absurd (cc)
same_kept (records.Asked at a b c d) (records.Opening m p) e is same = absurd (cc)
same_kept (records.Asked at a b c d) (records.Turn bt) e is same = absurd (cc)
same_kept (records.Asked at a b c d) (records.Asked bt x y z w) e is same = cc

event_there : (t u : TablesOf) (k : Record) → machine.Applies t k u → (e : Event) × (event_of k ≡ Some e)
event_there t u k (e, r, is, d) = (e, is)

applies_once : (t : TablesOf) (r : RecordOf) (u v : TablesOf) → Applies t r u → Applies t r v → u ≡ v
applies_once t r u v (k, is, a) (l, js, b) =
    let e = event_there t u k a in
    let same : k ≡ l = same_kept k l e.0 e.1 (is ∙ sym js) in
    let A : Record → Type 0 = λ x. machine.Applies t x v in
    applied_once t k u v a (subst A (sym same) b)

pub replays_once : (t : TablesOf) (rs : List RecordOf) (u v : TablesOf) → Replays t rs u → Replays t rs v → u ≡ v
replays_once t [] u v is js = is ∙ sym js
replays_once t (r ∷ rs) u v (m, a, on) (n, b, other) =
    let same : n ≡ m = applies_once t r n m b a in
    let R : TablesOf → Type 0 = λ x. Replays x rs v in
    replays_once m rs u v on (subst R same other)

-- where a record stands, it is applied
applied_at : (t : TablesOf) (before : List RecordOf) (r : RecordOf) (after : List RecordOf) (u : TablesOf) → Replays t (before ++ r ∷ after) u → (v : TablesOf) × (w : TablesOf) × Replays t before v × Applies v r w
applied_at t [] r after u (w, a, on) = (t, w, refl, a)
applied_at t (x ∷ before) r after u (m, a, on) = let rest = applied_at m before r after u on in (rest.0, rest.1, (m, a, rest.2), rest.3)

-- the records of an office lead to one state of its tables
pub led_once : ModelsOnce → PeopleOnce → (texts : TextsOf) (records : List RecordOf) (t u : TablesOf) → IsJournalOf texts records t → IsJournalOf texts records u → t ≡ u
led_once one other texts records t u a b =
    let first : b.first ≡ a.first = begins_once one other texts b.first a.first b.begins a.begins in
    let rest : b.rest ≡ a.rest = behind (opening_of texts) b.rest a.rest (sym b.opened ∙ a.opened) in
    let F : TablesOf → Type 0 = λ x. Replays x b.rest u in
    let R : List RecordOf → Type 0 = λ l. Replays a.first l u in
    replays_once a.first a.rest t u a.replays (subst R rest (subst F first b.replays))
  where
    behind : (o : RecordOf) (x y : List RecordOf) → o ∷ x ≡ o ∷ y → x ≡ y
    behind o x y e = cc

-- ---- which record a body is

pub spelled_alike : (r s : RecordOf) (a b : List ℕ) → Spells r a → Spells s b → b ≡ a → r ≡ s
spelled_alike r s a b p q same = (one_record r s a b [] p q (same ∙ sym (append-nil a))).0

front_of : (before all : List RecordOf) (body : List ℕ) (n : ℕ) → AreSpelled before → AreSpelled all → take n (bodies_of all) ≡ bodies_of before ++ body ∷ [] → (r : RecordOf) × (after : List RecordOf) × (all ≡ before ++ r ∷ after) × (body ≡ spelling r) × IsSpelled r
front_of [] [] body zero p q is = absurd (cc)
front_of [] [] body (suc n) p q is = absurd (cc)
front_of [] (y ∷ all) body zero p q is = absurd (cc)
front_of [] (y ∷ all) body (suc n) p q is = (y, all, refl, first (spelling y) body (take n (bodies_of all)) [] is, q.0)
  where
    first : (a b : List ℕ) (cs bs : List (List ℕ)) → a ∷ cs ≡ b ∷ bs → b ≡ a
    first a b cs bs e = cc
front_of (x ∷ before) [] body zero p q is = absurd (cc)
front_of (x ∷ before) [] body (suc n) p q is = absurd (cc)
front_of (x ∷ before) (y ∷ all) body zero p q is = absurd (cc)
front_of (x ∷ before) (y ∷ all) body (suc n) p q is =
    let same : y ≡ x = spelled_alike y x (spelling y) (spelling x) (q.0, refl) (p.0, refl) (first (spelling y) (spelling x) (take n (bodies_of all)) (bodies_of before ++ body ∷ []) is) in
    let rest = front_of before all body n p.1 q.1 (others (spelling y) (spelling x) (take n (bodies_of all)) (bodies_of before ++ body ∷ []) is) in
    (rest.0, rest.1, ap (λ z. z ∷ all) same ∙ ap (λ l. x ∷ l) rest.2, rest.3, rest.4)
  where
    first : (a b : List ℕ) (cs bs : List (List ℕ)) → a ∷ cs ≡ b ∷ bs → b ≡ a
    first a b cs bs e = cc

    others : (a b : List ℕ) (cs bs : List (List ℕ)) → a ∷ cs ≡ b ∷ bs → cs ≡ bs
    others a b cs bs e = cc

-- ---- of an office

same_texts : (a b : TextsOf) → opening_of a ≡ opening_of b → a ≡ b
same_texts a b e =
    let models : a.models ≡ b.models = cc in
    let people : a.people ≡ b.people = cc in
    ap (λ m. made m a.people) models ∙ ap (λ p. made b.models p) people
  where
    made : List ℕ → List ℕ → TextsOf
    made m p = record { models = m; people = p }

-- no body stands in an empty file
no_body : (n : ℕ) (body : List ℕ) (cut : List (List ℕ)) → cut ≡ [] → take n cut ≡ take (n - 1) cut ++ body ∷ [] → ⊥
no_body n body cut none is = none_last (take (n - 1) cut) body (sym (take_none n) ∙ (ap (take n) (sym none) ∙ is))
  where
    take_none : (n : ℕ) → take {A = List ℕ} n [] ≡ []
    take_none zero = refl
    take_none (suc n) = refl

    none_last : (l : List (List ℕ)) (b : List ℕ) → ◌≡◌ {A = List (List ℕ)} [] (l ++ b ∷ []) → ⊥
    none_last [] b is = cc
    none_last (x ∷ l) b is = cc

module _ (one : ModelsOnce) (other : PeopleOnce) (texts : TextsOf) (all : List RecordOf) (t : TablesOf) (spelled : AreSpelled all) (office : IsJournalOf texts all t) where
  -- the record behind some of them is applied to the tables that they lead to
  next_applies : (before : List RecordOf) (u : TablesOf) → IsJournalOf texts before u → (r : RecordOf) (after : List RecordOf) → all ≡ before ++ r ∷ after → (w : TablesOf) × Applies u r w
  next_applies before u some r after is =
      let rest : office.rest ≡ some.rest ++ r ∷ after = behind (opening_of texts) office.rest (some.rest ++ r ∷ after) (sym office.opened ∙ is ∙ ap (λ l. l ++ r ∷ after) some.opened) in
      let first : office.first ≡ some.first = begins_once one other texts office.first some.first office.begins some.begins in
      let R : TablesOf → Type 0 = λ x. Replays x office.rest t in
      let L : List RecordOf → Type 0 = λ l. Replays some.first l t in
      let at = applied_at some.first some.rest r after t (subst L rest (subst R first office.replays)) in
      let same : at.0 ≡ u = replays_once some.first some.rest at.0 u at.2 some.replays in
      let A : TablesOf → Type 0 = λ x. Applies x r at.1 in
      (at.1, subst A same at.3)
    where
      behind : (o : RecordOf) (a b : List RecordOf) → o ∷ a ≡ o ∷ b → a ≡ b
      behind o a b e = cc

  pub no_fault_next : (n at : ℕ) (body : List ℕ) (before : List RecordOf) (u : TablesOf) (fault : OpenFault) → take n (bodies_of all) ≡ bodies_of before ++ body ∷ [] → AreSpelled before → IsJournalOf texts before u → FailsNext u n at body fault → ⊥
  no_fault_next n at body before u fault is fits some fails =
      let f = front_of before all body n fits spelled is in
      let on = next_applies before u some f.0 f.1 f.2 in
      ⊎_elim
      (λ (no : IsNoRecord at body fault). not_refused body f.0 no.0 (f.4, f.3) no.1)
      (λ no.
      let r = no.0 in
      let A : RecordOf → Type 0 = λ x. Applies u x on.0 in
      r.2 on.0 (subst A (spelled_alike f.0 r.0 body body (f.4, f.3) r.1 refl) on.1))
      fails

  first_is : (body : List ℕ) → take 1 (bodies_of all) ≡ body ∷ [] → Spells (opening_of texts) body
  first_is body is =
      let f = front_of [] all body 1 tt spelled is in
      let same : opening_of texts ≡ f.0 = head (opening_of texts) f.0 office.rest f.1 (sym office.opened ∙ f.2) in
      subst (λ (x : RecordOf). Spells x body) (sym same) (f.4, f.3)
    where
      head : (a b : RecordOf) (cs bs : List RecordOf) → a ∷ cs ≡ b ∷ bs → a ≡ b
      head a b cs bs e = cc

  pub no_fault_first : (at : ℕ) (body : List ℕ) (fault : OpenFault) → take 1 (bodies_of all) ≡ body ∷ [] → FailsFirst texts at body fault → ⊥
  no_fault_first at body fault is fails =
      let ours = first_is body is in
      ⊎_elim
      (λ (no : IsNoRecord at body fault). not_refused body (opening_of texts) no.0 ours no.1)
      (λ rest. ⊎_elim
      (λ no. let r = no.0 in r.2 texts (spelled_alike r.0 (opening_of texts) body body r.1 ours refl))
      (λ no. let r = no.0 in r.2 (same_texts r.0 texts (spelled_alike (opening_of r.0) (opening_of texts) body body r.1 ours refl)))
      rest)
      fails

  no_fault_at : (fault : OpenFault) (bodies : List (List ℕ)) → bodies ≡ bodies_of all → FailsAt texts bodies fault → ⊥
  no_fault_at fault bodies same (at_first at body nth fails) =
      no_fault_first at body fault (ap (take 1) (sym same) ∙ nth.bytes) fails
  no_fault_at fault bodies same (at_next n at body before u nth before_is fits some fails) =
      no_fault_next n at body before u fault (ap (take n) (sym same) ∙ (nth.bytes ∙ ap (λ l. l ++ body ∷ []) before_is)) fits some fails

  no_fault_in_none : (fault : OpenFault) (bodies : List (List ℕ)) → bodies ≡ [] → FailsAt texts bodies fault → ⊥
  no_fault_in_none fault bodies none (at_first at body nth fails) = no_body 1 body bodies none nth.bytes
  no_fault_in_none fault bodies none (at_next n at body before u nth before_is fits some fails) = no_body n body bodies none nth.bytes

  no_fault_of : (bodies : List (List ℕ)) (file : List ℕ) → contents file ≡ Ok bodies → (fault : OpenFault) → (FailsAt texts bodies fault → ⊥) → Fails texts file fault → ⊥
  no_fault_of bodies file found fault never fails = ⊎_elim
      (λ (damaged : (at : ℕ) × (contents file ≡ Err at) × _). not_both damaged.0 (contents file) found damaged.1)
      (λ some. let A : List (List ℕ) → Type 0 = λ b. FailsAt texts b fault in never (subst A (same_bodies some.0 bodies (contents file) some.1 found) some.2))
      fails
    where
      not_both : (at : ℕ) (c : Result (List (List ℕ)) ℕ) → c ≡ Ok bodies → c ≡ Err at → ⊥
      not_both at c ok err = cc

      same_bodies : (a b : List (List ℕ)) (c : Result (List (List ℕ)) ℕ) → c ≡ Ok a → c ≡ Ok b → a ≡ b
      same_bodies a b c p q = cc

  pub no_fault : (file : List ℕ) → AreOfFile texts all file → (fault : OpenFault) → Fails texts file fault → ⊥
  no_fault file found fault fails = ⊎_elim
      (λ (some : Finds all file). no_fault_of (bodies_of all) file some fault (no_fault_at fault (bodies_of all) refl) fails)
      (λ none. no_fault_of [] file none.0 fault (no_fault_in_none fault [] refl) fails)
      found
