-- What each way through an opening answers.
use Rattle.std.proofs.Common.{◌≡◌, ◌≢◌, ◌≤◌, inl, inr, ℕ, List, [], ◌∷◌, length, Option, Some, None, IfSome, IsTrue, Result, Ok, Err, ap, sym, ◌∙◌, subst, refl, arith}
use Rattle.ht_base.specs.Records.{RecordOf}
use Rattle.ht_journal.specs.Files.{contents}
use Rattle.ht_journal.specs.Keeping.{IsKept}
use Rattle.ht_journal.specs.Openings as journal_opens
use Rattle.ht_journal.specs.Quiet.{IsQuiet}
use Rattle.ht_journal.specs.Rooms.{IsRoomy}
use Rattle.ht_journal.specs.declared.faults.JournalFault.{JournalFault}
use Rattle.ht_journal.specs.declared.faults.JournalFault.TheVariants as journal
use Rattle.ht_journal.specs.declared.state.JournalState.{JournalState}
use Rattle.ht_journal.proofs.PublicLaws.{told_weaker}
use Rattle.ht_outside.specs.Causes.{together}
use Rattle.ht_outside.specs.Disks.{Both}
use Rattle.ht_outside.specs.Moments.{LeavesOnly}
use Rattle.ht_outside.specs.declared.disk.Disk.{Ghosts}
use Rattle.ht_tree.specs.Soundness.{IsSound}
use Rattle.ht_tree.specs.Tables.{TablesOf}
use Rattle.ht_desk.specs.declared.desk_state.DeskState.{DeskState}
use Rattle.ht_desk.specs.declared.doubt.Doubt.{Doubt}
use Rattle.ht_desk.specs.declared.fault.OpenFault.{OpenFault}
use Rattle.ht_desk.specs.declared.fault.OpenFault.TheVariants.{Store}
use Rattle.ht_desk.specs.Counting.{no_counts}
use Rattle.ht_desk.specs.Faults.{ComesWhere, fault_of}
use Rattle.ht_desk.specs.Keeping.{AreAwaited}
use Rattle.ht_desk.specs.Opening.{AreOfFile, Fails, FailsAt, IsOpenFault, IsTextFault, Opens, StandsOpen}
use Rattle.ht_desk.specs.Records.{AreSpelled, IsSpelled, bodies_of}
use Rattle.ht_desk.specs.Replaying.{Begins, IsJournalOf, TextsOf, opening_of}
use Rattle.ht_desk.specs.Stepping.{Stands}
use Rattle.ht_desk.proofs.Begun.{FindsAtMost, no_doubt}
use Rattle.ht_desk.proofs.Coming.{comes_as, comes_since}
use Rattle.ht_desk.proofs.Opened.{May, begun_file, begun_moments, file_comes, no_file, no_moment, opened_file, opened_moments, read_moments, roomier, same_room, text_away, text_comes}

err_is : (x y : OpenFault) (a b : Result DeskState OpenFault) → a ≡ Err x → b ≡ Err y → a ≡ b → x ≡ y
err_is x y a b is js e = cc

no_bodies : (bodies : List (List ℕ)) (n : ℕ) → n ≡ 0 → n ≡ length bodies → bodies ≡ []
no_bodies [] n none is = refl
no_bodies (b ∷ bodies) n none is = absurd (omega (arith, none, is))

store_back : (why : JournalFault) (a b : Result DeskState OpenFault) → a ≡ Err (fault_of why) → b ≡ Err Store → a ≡ b → why ≡ journal.Store
store_back (journal.Damaged at) a b is js e = absurd (cc)
store_back journal.Store a b is js e = refl
store_back journal.Memory a b is js e = absurd (cc)

both_fails : (texts : TextsOf) (bodies : List (List ℕ)) (fault : OpenFault) (o m : Option (List ℕ)) → Both (λ file now. contents now ≡ contents file) o m → IfSome o (λ file. contents file ≡ Ok bodies) → IfSome m (λ _. FailsAt texts bodies fault) → IfSome o (λ file. Fails texts file fault)
both_fails texts bodies fault None m both has fails = tt
both_fails texts bodies fault (Some f) None both has fails = absurd both
both_fails texts bodies fault (Some f) (Some n) both has fails = inr (bodies, has, fails)

both_found : (texts : TextsOf) (bodies : List (List ℕ)) (records : List RecordOf) (o m : Option (List ℕ)) → Both (λ file now. contents now ≡ contents file) o m → IfSome o (λ file. contents file ≡ Ok bodies) → IfSome m (λ _. bodies ≡ bodies_of records) → IfSome o (AreOfFile texts records)
both_found texts bodies records None m both has same = tt
both_found texts bodies records (Some f) None both has same = absurd both
both_found texts bodies records (Some f) (Some n) both has same = inl (has ∙ ap Ok same)

-- what was opened stands, in the state that was found
pub it_stands : {D : Type 0} (d : Ghosts D) (texts : TextsOf) (limit : ℕ) (old new : D) (desk : DeskState) → Opens d texts limit old new (Ok desk) → Stands d desk new
it_stands d texts limit old new desk o = let w = o.found 0 in (0, texts, w.state, w.at)

module _ {D : Type 0} (d : Ghosts D) (texts : TextsOf) (limit : ℕ) where
  -- a text is refused
  pub refused_texts : ((disk : D) (image : List ℕ) → IsTrue (d.tells_images disk) → d.left_since disk (d.moment disk) image → d.may_leave disk image) → (old : D) (fault : OpenFault) → IsTextFault texts fault → Opens d texts limit old old (Err fault)
  refused_texts now old fault is = record {
    found = tt;
    refused = text_comes texts (d.gives old) (d.faults old) fault is;
    any_moment = λ tells. no_moment d texts old (λ image left. now old image tells left);
    begun = no_file texts (d.gives old);
    room = refl;
    in_room = λ roomy e. text_away texts fault is (err_is fault Store (Err fault) (Err Store) refl refl e);
    faults = omega arith;
    still = tt;
    tells = refl;
  }

  journal_comes : (old new : D) (t : TablesOf) → Begins texts t → (why : JournalFault) → journal_opens.IsRefused d old new why → IsOpenFault texts (d.gives old) (d.faults old) (d.faults new) (fault_of why)
  journal_comes old new t begins (journal.Damaged at) is = (((t, begins), told_weaker (d.gives old) _ (λ file. Fails texts file (fault_of (journal.Damaged at))) (λ file e. inl (at, e, refl)) is.0), is.2)
  journal_comes old new t begins journal.Store is = is.0
  journal_comes old new t begins journal.Memory is = is.1

  -- the journal isn't opened
  pub refused_journal : 9 ≤ limit → (old new : D) (t : TablesOf) → Begins texts t → (why : JournalFault) → journal_opens.Opens d limit old new (Err why) → (fault : OpenFault) → fault ≡ fault_of why → Opens d texts limit old new (Err fault)
  refused_journal low old new t begins why o fault is = subst (λ (f : OpenFault). Opens d texts limit old new (Err f)) (sym is) (record {
    found = tt;
    refused = journal_comes old new t begins why o.refused;
    any_moment = λ tells. opened_moments d texts old new (o.any_moment tells);
    begun = opened_file texts (d.gives old) (d.gives new) (d.gives new) o.same refl;
    room = o.room;
    in_room = λ roomy e. o.in_room (roomier (d.room old) limit 9 low roomy) (ap Err (store_back why (Err (fault_of why)) (Err Store) refl refl e));
    faults = o.faults;
    still = tt;
    tells = o.tells;
  })

  -- a desk over a journal with these records
  stands : (old new : D) (desk : DeskState) (records : List RecordOf) → IsKept d (bodies_of records) desk.journal new → (desk.journal).doubt ≡ None → desk.doubt ≡ None → desk.counts ≡ no_counts → (desk.journal).limit ≡ limit → AreSpelled records → IsSound (desk.tables).tables → IsJournalOf texts records (desk.tables).tables → IfSome (d.gives old) (AreOfFile texts records)
      → (beside : ℕ) → StandsOpen d texts limit beside old new desk
  stands old new desk records kept certain quiet counts limited spelled sound office file beside = record {
    state = record { tables = (desk.tables).tables; records = records; doubt = None; faults = together (d.faults new) beside; limit = limit; counts = no_counts };
    at = record {
      tables = refl;
      kept = kept;
      doubted = no_doubt desk.journal certain;
      awaited = subst (λ (o : Option Doubt). AreAwaited desk.tables o None) (sym quiet) tt;
      failures = refl;
      limited = sym limited;
      counted = sym counts;
      spelled = spelled;
      sound = sound;
      office = office;
    };
    opened = record { certain = refl; uncounted = refl; limited = refl };
    file = file;
  }

  module _ (old mid new : D) (state : JournalState) (o : journal_opens.Opens d limit old mid (Ok state)) (t : TablesOf) (begins : Begins texts t) where
    -- ---- the journal has no record, and is begun

    pub kept_empty : state.count ≡ 0 → IsKept d [] state mid
    kept_empty none = let f = o.found in subst (λ (b : List (List ℕ)). IsKept d b state mid) (no_bodies f.0 state.count none (f.1).count) f.1

    empty : state.count ≡ 0 → IfSome (d.gives old) (λ file. contents file ≡ Ok [])
    empty none = let f = o.found in subst (λ (b : List (List ℕ)). IfSome (d.gives old) (λ file. contents file ≡ Ok b)) (no_bodies f.0 state.count none (f.1).count) f.2

    tells_mid : IsTrue (d.tells_images old) → IsTrue (d.tells_images mid)
    tells_mid tells = subst IsTrue (sym o.tells) tells

    module _ (none : state.count ≡ 0) (moments : IsTrue (d.tells_images mid) → LeavesOnly d mid new (FindsAtMost texts)) (file : IfSome (d.gives new) (FindsAtMost texts)) (room : d.room new ≡ d.room mid) (later : d.faults mid ≤ d.faults new) (tells : d.tells_images new ≡ d.tells_images mid) where
      begun_any : IsTrue (d.tells_images old) → LeavesOnly d old new (May d texts old)
      begun_any told = begun_moments d texts old mid new (opened_moments d texts old mid (o.any_moment told)) (empty none) (moments (tells_mid told))

      pub begun_refused : (fault : OpenFault) → ComesWhere (λ _. ⊥) (d.faults mid) (d.faults new) fault → (IsRoomy (d.room mid) state.limit → fault ≢ Store) → Opens d texts limit old new (Err fault)
      begun_refused fault why roomy = record {
        found = tt;
        refused = file_comes texts (d.gives old) t begins (d.faults old) (d.faults new) fault
            (comes_as (λ _. ⊥) (λ f. IfSome (d.gives old) (λ x. Fails texts x f)) (d.faults old) (d.faults new) fault (λ f e. absurd e) (comes_since (λ _. ⊥) (d.faults old) (d.faults mid) (d.faults new) fault o.still why));
        any_moment = λ told. begun_any told;
        begun = begun_file texts (d.gives old) (d.gives new) (empty none) file;
        room = room ∙ o.room;
        in_room = λ most e. roomy (subst (λ (n : ℕ). IsRoomy (d.room mid) n) (sym (o.fresh).1) (same_room (d.room old) (d.room mid) limit o.room most)) (err_is fault Store (Err fault) (Err Store) refl refl e);
        faults = let f = o.faults in omega (arith, f, later);
        still = tt;
        tells = tells ∙ o.tells;
      }

      pub begun_found : (desk : DeskState) → IsKept d (bodies_of (opening_of texts ∷ [])) desk.journal new → (desk.journal).doubt ≡ None → desk.doubt ≡ None → desk.counts ≡ no_counts → (desk.journal).limit ≡ state.limit → IsSpelled (opening_of texts) → IsSound (desk.tables).tables → (desk.tables).tables ≡ t → d.faults new ≡ d.faults mid → Opens d texts limit old new (Ok desk)
      begun_found desk kept certain quiet counts limited fits sound tables still = record {
        found = stands old new desk (opening_of texts ∷ []) kept certain quiet counts (limited ∙ (o.fresh).1) (fits, tt) sound
            (record { first = t; rest = []; begins = begins; opened = refl; replays = tables })
            (told_weaker (d.gives old) _ (AreOfFile texts (opening_of texts ∷ [])) (λ file e. inr (e, refl)) (empty none));
        refused = tt;
        any_moment = λ told. begun_any told;
        begun = begun_file texts (d.gives old) (d.gives new) (empty none) file;
        room = room ∙ o.room;
        in_room = λ most e. cc;
        faults = let f = o.faults in omega (arith, f, later);
        still = still ∙ o.still;
        tells = tells ∙ o.tells;
      }

    -- ---- the journal has records, and they are replayed

    module _ (counts_now : (disk : D) (m : ℕ) (image : List ℕ) → IsTrue (d.tells_images disk) → m ≤ d.moment disk → d.may_leave disk image → d.left_since disk m image) (quiet : IsQuiet d mid new) (later : d.faults mid ≤ d.faults new) where
      read_any : IsTrue (d.tells_images old) → LeavesOnly d old new (May d texts old)
      read_any told =
          let first = opened_moments d texts old mid (o.any_moment told) in
          read_moments d texts old mid new first (λ image left. counts_now mid (d.moment old) image (tells_mid told) first.later left) (quiet.any_moment (tells_mid told))

      abbrev pub FailsHere : OpenFault → Type 0
      FailsHere f = (bodies : List (List ℕ)) → IsKept d bodies state mid → IfSome (d.gives mid) (λ _. FailsAt texts bodies f)

      pub read_refused : (fault : OpenFault) → ComesWhere FailsHere (d.faults mid) (d.faults new) fault → (IsRoomy (d.room mid) 0 → fault ≢ Store) → Opens d texts limit old new (Err fault)
      read_refused fault why roomy =
          let f = o.found in
          record {
            found = tt;
            refused = file_comes texts (d.gives old) t begins (d.faults old) (d.faults new) fault
                (comes_as FailsHere (λ f. IfSome (d.gives old) (λ x. Fails texts x f)) (d.faults old) (d.faults new) fault (λ g is. both_fails texts f.0 g (d.gives old) (d.gives mid) o.same f.2 (is f.0 f.1)) (comes_since FailsHere (d.faults old) (d.faults mid) (d.faults new) fault o.still why));
            any_moment = λ told. read_any told;
            begun = opened_file texts (d.gives old) (d.gives mid) (d.gives new) o.same quiet.file;
            room = quiet.same_room ∙ o.room;
            in_room = λ most e. roomy (roomier (d.room mid) limit 0 (omega arith) (same_room (d.room old) (d.room mid) limit o.room most)) (err_is fault Store (Err fault) (Err Store) refl refl e);
            faults = let f = o.faults in omega (arith, f, later);
            still = tt;
            tells = quiet.tells ∙ o.tells;
          }

      pub read_found : (desk : DeskState) (records : List RecordOf) → IsKept d (bodies_of records) desk.journal new → (desk.journal).doubt ≡ state.doubt → desk.doubt ≡ None → desk.counts ≡ no_counts → (desk.journal).limit ≡ state.limit → AreSpelled records → IsSound (desk.tables).tables → IsJournalOf texts records (desk.tables).tables
          → ((bodies : List (List ℕ)) → IsKept d bodies state mid → IfSome (d.gives mid) (λ _. bodies ≡ bodies_of records)) → d.faults new ≡ d.faults mid → Opens d texts limit old new (Ok desk)
      read_found desk records kept certain none counts limited spelled sound office same still =
          let f = o.found in
          record {
            found = stands old new desk records kept (certain ∙ (o.fresh).0) none counts (limited ∙ (o.fresh).1) spelled sound office (both_found texts f.0 records (d.gives old) (d.gives mid) o.same f.2 (same f.0 f.1));
            refused = tt;
            any_moment = λ told. read_any told;
            begun = opened_file texts (d.gives old) (d.gives mid) (d.gives new) o.same quiet.file;
            room = quiet.same_room ∙ o.room;
            in_room = λ most e. cc;
            faults = let f = o.faults in omega (arith, f, later);
            still = still ∙ o.still;
            tells = quiet.tells ∙ o.tells;
          }
