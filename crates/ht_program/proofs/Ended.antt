-- What a run did to its disks, and in memory.
use Rattle.std.proofs.Common.{◌≡◌, ◌≢◌, ◌⊎◌, inl, inr, ⊎_elim, ℕ, ◌≤◌, List, [], Option, Some, None, Result, Ok, Err, IfSome, option_map, refl, sym, ap, subst, ◌∙◌, arith}
use Rattle.ht_base.specs.Records.{RecordOf}
use Rattle.ht_desk.specs.declared.fault.OpenFault.{OpenFault}
use Rattle.ht_desk.specs.declared.fault.OpenFault.TheVariants.{Models, People, Damaged, RecordRefused, TextsDiffer, Store, Memory}
use Rattle.ht_desk.specs.declared.desk_state.DeskState.{DeskState}
use Rattle.ht_desk.specs.Keeping.{IsAt}
use Rattle.ht_desk.specs.Opening.{AreOfFile, IsBegunAtMost, IsOpenFault, Opens, StandsOpen}
use Rattle.ht_desk.specs.Records.{Finds, bodies_of, spelling}
use Rattle.ht_desk.specs.Replaying.{TextsOf}
use Rattle.ht_desk.specs.States.{State}
use Rattle.ht_journal.specs.Files.{Fit}
use Rattle.ht_journal.specs.Parts.{Stands}
use Rattle.ht_journal.specs.Rooms.{IsRoomy}
use Rattle.ht_journal.proofs.PublicLaws.{contents_rests}
use Rattle.ht_outside.specs.Causes.{Rose, together}
use Rattle.ht_outside.specs.declared.disk.Disk.{Ghosts}
use Rattle.ht_serve.specs.declared.ending.Ending.{Ending}
use Rattle.ht_program.specs.Attaching.{Attaches, AttachesBoth, Disks}
use Rattle.ht_program.specs.Attaching.AttachesBoth.{not_first, then_second}
use Rattle.ht_program.specs.Office.{KeptOn, NotOpenedOn, OpenedAs, RunsOver, WorkedInMemory, WorkedOn}
use Rattle.ht_program.specs.Running.{Streams}
use Rattle.ht_program.specs.Words.{WordsOf}

-- an office that stands open was opened as what its file holds
opened_as : {D : Type 0} (d : Ghosts D) (said : WordsOf) (texts : TextsOf) (beside : ℕ) (old new : D) (desk : DeskState) (st : StandsOpen d texts said.limit beside old new desk) (file : Option (List ℕ)) → d.gives old ≡ file → OpenedAs said texts file st.state
opened_as d said texts beside old new desk st file gives = record {
  office = record { spelled = (st.at).spelled; journal = (st.at).office; found = subst (λ g. IfSome g (AreOfFile texts st.state.records)) gives st.file };
  begun = st.opened;
}

-- ---- in memory

module _ {R : Type 0} (r : Ghosts R) (said : WordsOf) (texts : TextsOf) (before after : R) (old new : Streams)
    (empty : r.gives before ≡ Some []) (room : r.room before ≡ Some said.limit) (unfailed : r.faults before ≡ 0) where
  pub in_memory : (ending : Ending) → RunsOver r said texts before after old new (Ok ending) → WorkedInMemory said texts old new ending
  in_memory ending runs =
      let desk = runs.0 in
      let mid = runs.1 in
      let opens = runs.2 in
      let st = opens.found 0 in
      let ran = runs.3 0 texts st.state st.at in
      let bound : st.state.limit ≤ said.limit = (let e = (st.opened).limited in omega (arith, e)) in
      let roomy : IsRoomy (r.room mid) st.state.limit = record { most = said.limit; is = opens.room ∙ room; enough = bound } in
      let safe = ran.4 roomy in
      let none : st.state.faults ≡ 0 = (st.at).failures ∙ ap (λ n. together n 0) (opens.still ∙ unfailed) in
      record {
        opened = st.state;
        last = ran.0;
        opens = opened_as r said texts 0 before mid desk st (Some []) empty;
        did = ran.2;
        no_faults = (none, safe.0 ∙ none);
        none_failed = safe.1;
      }

  same_count : (now : ℕ) (fault : OpenFault) → fault ≢ Store → IsOpenFault texts (Some []) 0 now fault → IsOpenFault texts (Some []) 0 0 fault
  same_count now (Models why) safe is = (is.0, refl)
  same_count now (People why) safe is = (is.0, refl)
  same_count now (Damaged at) safe is = (is.0, refl)
  same_count now (RecordRefused n) safe is = (is.0, refl)
  same_count now TextsDiffer safe is = (is.0, refl)
  same_count now Store safe is = absurd (safe refl)
  same_count now Memory safe is = refl

  pub none_in_memory : (fault : OpenFault) → RunsOver r said texts before after old new (Err fault) → IsOpenFault texts (Some []) 0 0 fault × (new ≡ old)
  none_in_memory fault runs =
      let opens = runs.0 in
      let roomy : IsRoomy (r.room before) said.limit = record { most = said.limit; is = room; enough = (omega arith) } in
      let safe : fault ≢ Store = λ is. opens.in_room roomy (ap Err is) in
      let told = subst (λ g. IsOpenFault texts g (r.faults before) (r.faults after) fault) empty opens.refused in
      (same_count (r.faults after) fault safe (subst (λ n. IsOpenFault texts (Some []) n (r.faults after) fault) unfailed told), runs.1)

-- ---- on two disks

-- what a file holds of which this is told
module _ (records : List RecordOf) (doubt : Option RecordOf) (body : Option (List ℕ)) (is : body ≡ option_map spelling doubt) where
  holds : (file : Option (List ℕ)) → IfSome file (Stands (bodies_of records) body) → IfSome file (Stands (bodies_of records) (option_map spelling doubt))
  holds file told = subst (λ (b : Option (List ℕ)). IfSome file (Stands (bodies_of records) b)) is told

  found : Fit (bodies_of records) → (file : Option (List ℕ)) → IfSome file (Stands (bodies_of records) body) → doubt ≡ None → IfSome file (Finds records)
  found fit None told none = tt
  found fit (Some f) told none = contents_rests (bodies_of records) f fit (subst (λ (b : Option (List ℕ)). Stands (bodies_of records) b f) (is ∙ ap (option_map spelling) none) told)

-- a disk that holds what it did
still_begun : (texts : TextsOf) (was now : Option (List ℕ)) → now ≡ was → IfSome was (λ file. IfSome now (IsBegunAtMost texts file))
still_begun texts was now same = subst (λ (g : Option (List ℕ)). IfSome was (λ file. IfSome g (IsBegunAtMost texts file))) (sym same) (itself was)
  where
    itself : (was : Option (List ℕ)) → IfSome was (λ file. IfSome was (IsBegunAtMost texts file))
    itself None = tt
    itself (Some file) = inl refl

not_store : ◌≡◌ {A = Result (Unit {0}) OpenFault} (Ok tt) (Err Store) → ⊥
not_store e = cc

module _ {D : Type 0} (d : Ghosts D) (said : WordsOf) (texts : TextsOf) (before mid after : Disks D)
    (first : Attaches d before.first mid.first (Ok tt)) (second : Attaches d before.second after.second (Ok tt)) where
  -- how often the second failed at the end is how often it had failed when the office was opened
  module _ (mid_disk : D) (desk : DeskState) (opens : Opens d texts said.limit mid.first mid_disk (Ok desk)) where
    abbrev pub stands : StandsOpen d texts said.limit (d.faults after.second) mid.first mid_disk desk
    stands = opens.found (d.faults after.second)

    pub kept_on : (last : State) (left : DeskState) → IsAt d (d.faults after.second) texts last left after.first → KeptOn d said texts before after stands.state last
    kept_on last left at = record {
      opens = opened_as d said texts (d.faults after.second) mid.first mid_disk desk stands (d.gives before.first) first.file;
      opened_faults = (stands.at).failures ∙ ap (λ n. together n (d.faults after.second)) (opens.still ∙ first.still not_store) ∙ ap (together (d.faults before.first)) (second.still not_store);
      last_faults = at.failures;
      holds = holds last.records last.doubt _ at.doubted (d.gives after.first) (at.kept).file;
      found = found last.records last.doubt _ at.doubted (at.kept).fit (d.gives after.first) (at.kept).file;
      desk = left;
      kept = at;
      second = second.file;
    }

  pub on_disks : (old new : Streams) (ending : Ending) → RunsOver d said texts mid.first after.first old new (Ok ending) → WorkedOn d said texts before after old new ending
  on_disks old new ending runs =
      let st = stands runs.1 runs.0 runs.2 in
      let ran = runs.3 (d.faults after.second) texts st.state st.at in
      record { opened = st.state; last = ran.0; keeps = kept_on runs.1 runs.0 runs.2 ran.0 ran.1 ran.3; did = ran.2 }

  pub none_kept_on : (fault : OpenFault) → Opens d texts said.limit mid.first after.first (Err fault) → NotOpenedOn d texts before after fault
  none_kept_on fault opens = record {
    why = inl (subst (λ n. IsOpenFault texts (d.gives before.first) n (d.faults after.first) fault) (first.still not_store) (subst (λ g. IsOpenFault texts g (d.faults mid.first) (d.faults after.first) fault) first.file opens.refused));
    holds = subst (λ g. IfSome g (λ file. IfSome (d.gives after.first) (IsBegunAtMost texts file))) first.file opens.begun;
    second = second.file;
  }

  pub none_on_disks : (old new : Streams) (fault : OpenFault) → RunsOver d said texts mid.first after.first old new (Err fault) → NotOpenedOn d texts before after fault × (new ≡ old)
  none_on_disks old new fault runs = (none_kept_on fault runs.0, runs.1)

-- both were attached
pub attached : {D : Type 0} (d : Ghosts D) (before after : Disks D) (done : Unit {0}) → AttachesBoth d before after (Ok done) → Attaches d before.first after.first (Ok tt) × Attaches d before.second after.second (Ok tt)
attached d before after done (not_first why is first untouched) = absurd (cc)
attached d before after done (then_second first second) = (first, second)

-- one of them wasn't attached
module _ {D : Type 0} (d : Ghosts D) (texts : TextsOf) (before after : Disks D) where
  of_first : (fault : OpenFault) → (fault ≡ Memory) ⊎ (fault ≡ Store) → Attaches d before.first after.first (Err fault) → IsOpenFault texts (d.gives before.first) (d.faults before.first) (d.faults after.first) fault
  of_first Memory told a = a.still (λ e. cc)
  of_first Store told a = a.cause.failed refl
  of_first (Models why) told a = absurd (⊎_elim (λ e. cc) (λ e. cc) told)
  of_first (People why) told a = absurd (⊎_elim (λ e. cc) (λ e. cc) told)
  of_first (Damaged at) told a = absurd (⊎_elim (λ e. cc) (λ e. cc) told)
  of_first (RecordRefused n) told a = absurd (⊎_elim (λ e. cc) (λ e. cc) told)
  of_first TextsDiffer told a = absurd (⊎_elim (λ e. cc) (λ e. cc) told)

  of_second : (fault : OpenFault) → d.faults after.first ≡ d.faults before.first → (fault ≡ Memory) ⊎ (fault ≡ Store) → Attaches d before.second after.second (Err fault)
      → IsOpenFault texts (d.gives before.first) (d.faults before.first) (d.faults after.first) fault ⊎ ((fault ≡ Store) × Rose (d.faults before.second) (d.faults after.second))
  of_second Memory same told a = inl same
  of_second Store same told a = inr (refl, a.cause.failed refl)
  of_second (Models why) same told a = absurd (⊎_elim (λ e. cc) (λ e. cc) told)
  of_second (People why) same told a = absurd (⊎_elim (λ e. cc) (λ e. cc) told)
  of_second (Damaged at) same told a = absurd (⊎_elim (λ e. cc) (λ e. cc) told)
  of_second (RecordRefused n) same told a = absurd (⊎_elim (λ e. cc) (λ e. cc) told)
  of_second TextsDiffer same told a = absurd (⊎_elim (λ e. cc) (λ e. cc) told)

  pub not_attached : (fault : OpenFault) → AttachesBoth d before after (Err fault) → NotOpenedOn d texts before after fault
  not_attached fault (not_first why is first untouched) = record {
    why = inl (of_first fault first.told first);
    holds = still_begun texts (d.gives before.first) (d.gives after.first) first.file;
    second = ap d.gives untouched;
  }
  not_attached fault (then_second first second) = record {
    why = of_second fault (first.still not_store) second.told second;
    holds = still_begun texts (d.gives before.first) (d.gives after.first) first.file;
    second = second.file;
  }
