-- The records of a journal, one after another.
use Rattle.std.proofs.Common.{◌≡◌, ◌≤◌, ℕ, ◌+◌, ◌-◌, List, [], ◌∷◌, ◌++◌, length, take, Option, Some, None, IfSome, IsTrue, ap, sym, ◌∙◌, subst, refl, arith}
use Rattle.std.specs.List.{AllByRecursion}
use Rattle.ht_base.specs.Records.{RecordOf}
use Rattle.ht_codec.specs.Records.{Spells}
use Rattle.ht_journal.specs.Bodies.{IsNth}
use Rattle.ht_journal.specs.Files.{front, journal_length}
use Rattle.ht_journal.specs.Keeping.{IsKept}
use Rattle.ht_journal.specs.declared.limits.TheConstants.{LONGEST_BODY}
use Rattle.ht_journal.specs.declared.state.JournalState.{JournalState}
use Rattle.ht_journal.proofs.PublicLaws.{front_length}
use Rattle.ht_outside.specs.declared.disk.Disk.{Ghosts}
use Rattle.ht_tree.specs.Tables.{TablesOf}
use Rattle.ht_desk.specs.declared.fault.OpenFault.{OpenFault}
use Rattle.ht_desk.specs.Opening.{FailsAt, FailsFirst, FailsNext}
use Rattle.ht_desk.specs.Opening.FailsAt.{at_first, at_next}
use Rattle.ht_desk.specs.Records.{AreSpelled, IsSpelled, bodies_of, length_of, spelling}
use Rattle.ht_desk.specs.Replaying.{Applies, Begins, IsJournalOf, Replays, TextsOf, opening_of}
use Rattle.ht_desk.proofs.Finding.{as_many, bodies_push, spelled_push}
use Rattle.ht_desk.proofs.Lengths.{length_push}

-- ---- one record more

replays_push : (t u v : TablesOf) (records : List RecordOf) (r : RecordOf) → Replays t records u → Applies u r v → Replays t (records ++ r ∷ []) v
replays_push t u v [] r is on = (v, subst (λ (x : TablesOf). Applies x r v) is on, refl)
replays_push t u v (x ∷ records) r all on = (all.0, all.1, replays_push all.0 u v records r all.2 on)

pub office_push : (texts : TextsOf) (records : List RecordOf) (r : RecordOf) (u v : TablesOf) → IsJournalOf texts records u → Applies u r v → IsJournalOf texts (records ++ r ∷ []) v
office_push texts records r u v office on = record {
  first = office.first;
  rest = office.rest ++ r ∷ [];
  begins = office.begins;
  opened = ap (λ (l : List RecordOf). l ++ r ∷ []) office.opened;
  replays = replays_push office.first u v office.rest r office.replays on;
}

-- ---- so far

-- the first n bodies of those that are meant, where the file is told, are the spellings of records of an office, which lead to
-- these tables
pub record IsReplayed (texts : TextsOf) (n size : ℕ) (told : Option (List ℕ)) (Meant : List (List ℕ) → Type 0) (t : TablesOf) : Type 0 where
  pub records : List RecordOf
  pub office : IsJournalOf texts records t
  pub spelled : AreSpelled records
  pub count : length records ≡ n
  pub long : length_of records ≡ size
  pub front_is : (bodies : List (List ℕ)) → Meant bodies → IfSome told (λ _. take n bodies ≡ bodies_of records)

pub told_on : (o : Option (List ℕ)) (A B : Type 0) → IfSome o (λ _. A) → (A → B) → IfSome o (λ _. B)
told_on None A B told on = tt
told_on (Some f) A B told on = on told

pub told_and : (o : Option (List ℕ)) (A B C : Type 0) → IfSome o (λ _. A) → IfSome o (λ _. B) → (A → B → C) → IfSome o (λ _. C)
told_and None A B C a b on = tt
told_and (Some f) A B C a b on = on a b

-- the first record
pub first_replayed : (texts : TextsOf) (size : ℕ) (told : Option (List ℕ)) (Meant : List (List ℕ) → Type 0) (t : TablesOf) → Begins texts t → IsSpelled (opening_of texts) → size ≡ 14 + length (spelling (opening_of texts))
    → ((bodies : List (List ℕ)) → Meant bodies → IfSome told (λ _. take 1 bodies ≡ spelling (opening_of texts) ∷ [])) → IsReplayed texts 1 size told Meant t
first_replayed texts size told Meant t begins fits long front_is = record {
  records = opening_of texts ∷ [];
  office = record { first = t; rest = []; begins = begins; opened = refl; replays = refl };
  spelled = (fits, tt);
  count = refl;
  long = omega (arith, long);
  front_is = front_is;
}

-- and one more
pub more_replayed : (texts : TextsOf) (n size : ℕ) (told : Option (List ℕ)) (Meant : List (List ℕ) → Type 0) (t u : TablesOf) → IsReplayed texts n size told Meant t → (r : RecordOf) → Applies t r u → IsSpelled r
    → (m more : ℕ) → m ≡ n + 1 → more ≡ size + (5 + length (spelling r)) → ((bodies : List (List ℕ)) → Meant bodies → IfSome told (λ _. take m bodies ≡ take (m - 1) bodies ++ spelling r ∷ [])) → IsReplayed texts m more told Meant u
more_replayed texts n size told Meant t u so_far r applies fits m more next long now = record {
  records = so_far.records ++ r ∷ [];
  office = office_push texts so_far.records r t u so_far.office applies;
  spelled = spelled_push so_far.records r so_far.spelled fits;
  count = let c = so_far.count in let l = length-push so_far.records r in omega (arith, c, l, next);
  long = let e = length_push so_far.records r in let s = so_far.long in omega (arith, e, s, long);
  front_is = λ bodies meant.
      let back : m - 1 ≡ n = omega (arith, next) in
      told_and told _ _ (take m bodies ≡ bodies_of (so_far.records ++ r ∷ [])) (so_far.front_is bodies meant) (now bodies meant)
      (λ before after. after ∙ (ap (λ k. take k bodies ++ spelling r ∷ []) back ∙ (ap (λ l. l ++ spelling r ∷ []) before ∙ sym (bodies_push so_far.records r))));
}
  where
    length-push : (records : List RecordOf) (r : RecordOf) → length (records ++ r ∷ []) ≡ length records + 1
    length-push [] r = refl
    length-push (x ∷ records) r = let e = length-push records r in omega (arith, e)

-- ---- a fault

-- the first body is at fault
pub first_fails : (texts : TextsOf) (told : Option (List ℕ)) (bodies : List (List ℕ)) (fault : OpenFault) → IfSome told (λ _. (at : ℕ) × (body : List ℕ) × IsNth bodies 1 at body × FailsFirst texts at body fault) → IfSome told (λ _. FailsAt texts bodies fault)
first_fails texts told bodies fault fails = told_on told ((at : ℕ) × (body : List ℕ) × IsNth bodies 1 at body × FailsFirst texts at body fault) (FailsAt texts bodies fault) fails (λ w. at_first w.0 w.1 w.2 w.3)

-- or the one behind those that are replayed
pub next_fails : (texts : TextsOf) (n size : ℕ) (told now : Option (List ℕ)) (Meant : List (List ℕ) → Type 0) (t : TablesOf) → IsReplayed texts n size told Meant t → now ≡ told → (m : ℕ) → m ≡ n + 1 → (fault : OpenFault) (bodies : List (List ℕ)) → Meant bodies
    → IfSome now (λ _. (at : ℕ) × (body : List ℕ) × IsNth bodies m at body × FailsNext t m at body fault) → IfSome told (λ _. FailsAt texts bodies fault)
next_fails texts n size told now Meant t so_far same m next fault bodies meant fails =
    let Found : Type 0 = (at : ℕ) × (body : List ℕ) × IsNth bodies m at body × FailsNext t m at body fault in
    let back : m - 1 ≡ n = omega (arith, next) in
    told_and told (take n bodies ≡ bodies_of so_far.records) Found (FailsAt texts bodies fault) (so_far.front_is bodies meant) (subst (λ (o : Option (List ℕ)). IfSome o (λ _. Found)) same fails)
    (λ before w. at_next m w.0 w.1 so_far.records t w.2 (ap (λ k. take k bodies) back ∙ before) so_far.spelled so_far.office w.3)

-- ---- all of them

take_all : (bodies : List (List ℕ)) → take (length bodies) bodies ≡ bodies
take_all [] = refl
take_all (b ∷ bodies) = ap (λ l. b ∷ l) (take_all bodies)

pub all_of : (bodies : List (List ℕ)) (n : ℕ) (l : List (List ℕ)) → n ≡ length bodies → take n bodies ≡ l → bodies ≡ l
all_of bodies n l all is = sym (take_all bodies) ∙ (ap (λ k. take k bodies) (sym all) ∙ is)

-- they are as long as the journal, where the file is told
pub as_long : (texts : TextsOf) (n size : ℕ) (told : Option (List ℕ)) (Meant : List (List ℕ) → Type 0) (t : TablesOf) → IsReplayed texts n size told Meant t → (count long : ℕ) → n ≡ count → (bodies : List (List ℕ)) → Meant bodies → count ≡ length bodies → long ≡ length (front bodies) + 1 → IfSome told (λ _. long ≡ size)
as_long texts n size told Meant t so_far count long whole bodies meant counted place = told_on told (take n bodies ≡ bodies_of so_far.records) (long ≡ size) (so_far.front_is bodies meant)
    (λ front_is. place ∙ (front_length bodies ∙ (ap journal_length (all_of bodies n (bodies_of so_far.records) (whole ∙ counted) front_is) ∙ so_far.long)))

-- a spelling is short
abbrev pub AreShort : Type 0
AreShort = (r : RecordOf) (bytes : List ℕ) → Spells r bytes → (1 ≤ length bytes) × (length bytes ≤ 524297)

small : AreShort → (records : List RecordOf) → AreSpelled records → AllByRecursion (λ body. length body ≤ LONGEST_BODY) (bodies_of records)
small short [] all = tt
small short (r ∷ records) all = (let s = short r (spelling r) (all.0, refl) in omega (arith, s.1), small short records all.1)

-- The journal has the bodies of these records: where the file is told they are its bodies, and else any of the same number and
-- length would do.
pub kept_as : {D : Type 0} (d : Ghosts D) → ((disk : D) → IsTrue (d.tells_images disk) → (file : List ℕ) × (d.gives disk ≡ Some file) × d.may_leave disk file) → AreShort
    → (bodies : List (List ℕ)) (records : List RecordOf) (state : JournalState) (disk : D) → IsKept d bodies state disk → AreSpelled records → length records ≡ state.count → length_of records ≡ state.length
    → (told : Option (List ℕ)) → d.gives disk ≡ told → IfSome told (λ _. bodies ≡ bodies_of records) → IsKept d (bodies_of records) state disk
kept_as d now_is short bodies records state disk kept spelled count long (Some file) told same = subst (λ (b : List (List ℕ)). IsKept d b state disk) same kept
kept_as d now_is short bodies records state disk kept spelled count long None told same =
    let f = front_length (bodies_of records) in
    record {
      count = sym count ∙ sym (as_many records);
      place = omega (arith, f, long);
      fit = record { small = small short records spelled; reach = let r = (kept.fit).reach in let p = kept.place in omega (arith, f, long, r, p) };
      told = kept.told;
      file = untold _ (d.gives disk) told;
      images = λ tells image left. absurd (let n = now_is disk tells in not_both (d.gives disk) n.0 told n.1);
      reading = untold _ (d.gives disk) told;
    }
  where
    untold : (P : List ℕ → Type 0) (o : Option (List ℕ)) → o ≡ None → IfSome o P
    untold P o none = subst (λ (x : Option (List ℕ)). IfSome x P) (sym none) tt

    not_both : (o : Option (List ℕ)) (file : List ℕ) → o ≡ None → o ≡ Some file → ⊥
    not_both o file none some = cc
